-- Definition 6 by the index of the query's entries. Assumes nothing.
use Rattle.std.specs.Prelude.{ℕ, ◌+◌, ◌≤◌, ◌<◌, ◌≡◌, List, drop}
use Rattle.rules.specs.Lists.{each}
use Rattle.rules.specs.Tree.{entries, siblings}
use Rattle.rules.specs.World.{World}
use Rattle.rules.specs.Eval.{eval, shown, listed, object}
use Rattle.tables.specs.Read.{cell, wide_at}
use Rattle.query.specs.Entries.{QueryHeld, entries_at}
use Rattle.world.specs.World.{asks_at, asked_at}

-- "Several entries: their responses one after another." The response from node u to the entries at depth d from entry i on.
unfoldable pub selected : World → List ℕ → ℕ → ℕ → ℕ → List ℕ
selected w q i d u = eval w (siblings (drop i (entries (entries_at q))) d) u

-- the response from node x to the children of entry k
unfoldable pub below : World → List ℕ → ℕ → ℕ → List ℕ
below w q k x = selected w q (k + 1) (wide_at q 8 k 2 + 1) x

-- the response of entry k at node u
unfoldable pub entered : World → List ℕ → ℕ → ℕ → List ℕ
entered w q k u = shown w (asks_at q k) u (below w q k)

-- of a list field, behind its label; and the object at one target
unfoldable pub enlisted : World → List ℕ → ℕ → ℕ → List ℕ
enlisted w q k u = listed (each (λ x. object (below w q k x)) (w.targets u (asked_at q k)))

unfoldable pub braced : World → List ℕ → ℕ → ℕ → List ℕ
braced w q k x = object (below w q k x)

-- A query that can be answered: its labels are such that their tokens are 32-bit numbers.
pub record QueryLabelled (q : List ℕ) : Type 0 where
  pub held : QueryHeld q
  pub labels : (k : ℕ) → k < cell q 0 → wide_at q 8 k 0 ≡ 70 → wide_at q 8 k 3 ≤ 255
