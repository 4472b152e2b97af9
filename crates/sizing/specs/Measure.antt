-- Sizing over areas: rows of multiplicities, and a tally. Assumes nothing.
use Rattle.std.specs.Prelude.{ℕ, suc, ◌+◌, ◌*◌, List, [], ◌∷◌, map, length, get_or, take, drop, set}
use Rattle.rules.specs.Lists.{times, count_up}
use Rattle.rules.specs.Text.{Row}
use Rattle.rules.specs.Tree.{Asks, entries, tree}
use Rattle.rules.specs.World.{World}
use Rattle.rules.specs.Eval.{next}
use Rattle.rules.specs.Sizing.{weighed, start, Visit, visits, own, total, cap}
use Rattle.rules.proofs.Preorder.{Steps}
use Rattle.query.specs.Entries.{QueryHeld, entries_at}
use Rattle.sizing.specs.declared.Tally.{Tally}

-- ---- the tally

-- "A running tally adds each visit's multiplicity times its own tokens"
unfoldable pub add_to : Tally → ℕ → ℕ → Tally
add_to t m o = record { size = cap (t.size + m * o); visits = suc t.visits }

unfoldable pub tallied : World → Tally → List Visit → Tally
tallied w t [] = t
tallied w t (x ∷ xs) = tallied w (add_to t x.times (own w x.entry.asks x.at)) xs

-- What sizing gives: the size as it is shown, and the length of the visit list.
unfoldable pub measured : World → List Row → ℕ → Tally
measured w rs root =
    let vs = visits w (tree rs) (start w root) in
    record { size = cap (total w vs); visits = length vs }

-- ---- rows of multiplicities in an area

-- the n numbers from place b on
unfoldable pub row_in : List ℕ → ℕ → ℕ → List ℕ
row_in m b n = take n (drop b m)

-- x added, capped, at each of some nodes of the row from place b on
unfoldable pub pushed : ℕ → ℕ → List ℕ → List ℕ → List ℕ
pushed b x [] m = m
pushed b x (v ∷ vs) m = pushed b x vs (set m (b + v) (cap (get_or m (b + v) 0 + x)))

-- the row of an entry's children, capped
unfoldable pub passed_on : World → Asks → List ℕ → List ℕ
passed_on w a row = map (λ v. cap (weighed (λ u. times v (next w a u)) 0 row)) (count_up 0 w.size)

-- ---- the query's entries

-- A query that can be sized: the first depth is 0, and a depth is at most one above the line before.
pub record QuerySteps (q : List ℕ) : Type 0 where
  pub held : QueryHeld q
  pub steps : Steps 0 (entries (entries_at q))
