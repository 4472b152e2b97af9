-- The query as a tree, from its lines in preorder (Definition 3). Assumes nothing.
use Prim.Native.Nat.{ℕ, suc, compare, Ordering}
use Rattle.std.specs.Prelude.{true, false, List, [], ◌∷◌, ◌++◌}
use Rattle.rules.specs.Text.{Row, F, pairs_of}
use Rattle.rules.specs.Schema.{is}
use Rattle.rules.specs.Graph.{Label}
use Rattle.rules.specs.Query.{depth, shown_as, asked, condition}
use Rattle.rules.specs.declared.TypeNo.{TypeNo}

-- What an entry asks: a field f[α], shown under a label number, or what follows on a type condition.
pub data Asks : Type 0 where
  field : ℕ → Label → Asks
  on : TypeNo → Asks

-- An entry: its place among the entries from 0, its depth, and what it asks.
pub record Entry : Type 0 where
  pub place : ℕ
  pub level : ℕ
  pub asks : Asks

-- Entries side by side: none, or a first one with its children and the entries beside it.
pub data Forest : Type 0 where
  none : Forest
  node : Entry → Forest → Forest → Forest

abbrev pub asks_of : Row → Asks
asks_of r = elim (is F r) [ true ↦ field (shown_as r) (record { field = asked r; args = pairs_of r }) | false ↦ on (condition r) ]

-- The entries of the lines, the first at place i.
abbrev pub entries_from : ℕ → List Row → List Entry
entries_from i [] = []
entries_from i (r ∷ rs) = record { place = i; level = depth r; asks = asks_of r } ∷ entries_from (suc i) rs

abbrev pub entries : List Row → List Entry
entries q = entries_from 0 q

-- The entries at depth d before any less deep line. A deeper line belongs to one of them, a less deep line ends them: so the
-- children of an entry at d are the entries at d + 1 behind it, "the lines one deeper that stand between it and the next line
-- no deeper than it, or the end".
abbrev pub siblings : List Entry → ℕ → Forest
siblings [] d = none
siblings (e ∷ es) d =
    elim (compare e.level d) [
      | Ordering.lt ↦ none
      | Ordering.eq ↦ node e (siblings es (suc d)) (siblings es d)
      | Ordering.gt ↦ siblings es d
    ]

abbrev pub tree : List Row → Forest
tree q = siblings (entries q) 0

-- the entries of a forest, in preorder
abbrev pub preorder : Forest → List Entry
preorder none = []
preorder (node e kids rest) = e ∷ preorder kids ++ preorder rest
