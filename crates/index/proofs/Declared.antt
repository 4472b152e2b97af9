-- Once check 22 has passed, each edge and each property is of a node below 512: so much laying the index asks of the rows. Assumes nothing.
use Prim.Native.Nat.{ℕ, zero, suc, ◌≤◌, ◌<◌}
use native.Mathlib.Omega.{arith}
use mathlib.Core.Path.{◌≡◌, refl}
use mathlib.Core.Bool.{Bool, true, false, ◌||◌}
use mathlib.Core.List.{List, [], ◌∷◌}
use Rattle.std.specs.Prelude.{None}
use lib.ListN.{length, get_or}
use borrow.Author.Tests.{ltb-true, not-false}
use Rattle.rules.specs.Lists.{those, keep_if}
use Rattle.rules.specs.Text.{Row, no_row, E, P}
use Rattle.rules.specs.Search.{first_line}
use Rattle.rules.specs.Schema.{Schema, is, nth}
use Rattle.rules.specs.Graph.{Graph, graph_of, source, is_datum, declared_node, check22}
use Rattle.rules.proofs.Clean.{Calm, clean, Each, clean-each}
use Rattle.tables.specs.Layout.{belongs, counted}
use Rattle.tables.specs.Fill.{GraphFits}
use Rattle.index.proofs.Areas.{Within}

OfNode : Graph → Row → Type 0
OfNode g r = is_datum r ≡ true → source r < g.size

datum-of_node : (s : Schema) (g : Graph) (before : List Row) (r : Row) (after : List Row) → Calm (check22 s g before r after) → OfNode g r
unfolding OfNode
datum-of_node s g before r after c d =
    ltb-true (source r) g.size (not-false (declared_node g (source r)) (c.1.0 d).0)

-- of the rows with a letter
each-those : (l m : ℕ) (rs : List Row) → Each (λ r. is l r ≡ true → source r < m) rs → (j : ℕ) → j < length (those (is l) rs)
    → source (nth (is l) rs j) < m
each-those l m [] c j h = absurd (omega arith)
each-those l m (r ∷ rs) c j h = go (λ i k. each-those l m rs c.1 i k) (is l r) refl j h
  where
    go : ((i : ℕ) → i < length (those (is l) rs) → source (nth (is l) rs i) < m) → (b : Bool) → is l r ≡ b → (i : ℕ)
        → i < length (keep_if b r (those (is l) rs)) → source (get_or (keep_if b r (those (is l) rs)) i no_row) < m
    go ih true e zero k = c.0 e
    go ih true e (suc i) k = ih i (omega arith)
    go ih false e i k = ih i k

module _ (s : Schema) (rs : List Row) (passed : first_line (check22 s (graph_of rs)) rs ≡ None) (fits : GraphFits rs) where
  few : (graph_of rs).size ≤ 512
  unfolding counted belongs
  few = fits.nodes

  within : (l : ℕ) → ((r : Row) → is l r ≡ true → is_datum r ≡ true) → Within l rs
  unfolding OfNode
  within l is-datum j h =
      let g = graph_of rs in
      let of_node : Each (λ r. is l r ≡ true → source r < g.size) rs =
      clean-each (check22 s g) (λ r. is l r ≡ true → source r < g.size)
      (λ before r after c e. datum-of_node s g before r after c (is-datum r e)) [] rs (clean (check22 s g) [] 1 rs passed) in
      let at-node = each-those l g.size rs of_node j h in
      omega (arith, few)

  pub edges-within : Within E rs
  edges-within = within E (λ r e. rw e refl)

  pub properties-within : Within P rs
  properties-within = within P (λ r e. go (is E r) (is P r) e)
    where
      go : (b c : Bool) → c ≡ true → (b || c) ≡ true
      go true c h = refl
      go false c h = h
