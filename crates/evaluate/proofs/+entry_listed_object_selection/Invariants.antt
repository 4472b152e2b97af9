-- `evaluate::entry`, `listed`, `object` and `selection`, which call each other: their measures, "remaining depth and entries fall at each
-- call", and the invariants of their loops. Assumes nothing.
--
-- The measure is three times what remains, and a number for the function. An entry, its list and its object have the same remaining and the
-- numbers 2, 1, 0. A selection has 5, more than an entry of it, from which on neither need have fallen. The selection of an entry's children
-- is less than the entry's object since both fall (`children_fall`); if one of the two stayed, it would not be less even than the entry.
use Prim.Native.Nat.{ℕ, ◌+◌, ◌-◌, ◌*◌}
use mathlib.Core.Path.{◌≡◌}
use mathlib.Core.List.{List}
use Rattle.tables.specs.Read.{cell, wide_at}
use Rattle.world.specs.World.{world_at, asked_at, edge_from}
use Rattle.evaluate.specs.Remaining.{remaining}
use Rattle.evaluate.specs.Evaluate.{selected}
use Rattle.evaluate.proofs.Write.{Part}
use Rattle.evaluate.proofs.Steps.{objects_from}
use Rattle.evaluate.proofs.+entry_listed_object_selection.Given as goal

-- of entry k, at its own depth
abbrev pub at_entry : List ℕ → ℕ → ℕ
at_entry q k = 3 * remaining q k (wide_at q 8 k 2)

abbrev pub decreases-entry : goal.decreases-entry
decreases-entry l = at_entry l.q.now.area.now l.q.now.place + 2

abbrev pub decreases-listed : goal.decreases-listed
decreases-listed l = at_entry l.q.now.area.now l.q.now.place + 1

abbrev pub decreases-object : goal.decreases-object
decreases-object l = at_entry l.q.now.area.now l.q.now.place

-- of the entries at depth d from entry i on
abbrev pub decreases-selection : goal.decreases-selection
decreases-selection l = 3 * remaining l.q.now.area.now l.i l.d + 5

-- listed: e is the first edge from some edge j on, and the objects from j on are left
abbrev pub invariant-listed-loop-e : goal.invariant-listed-loop-e
invariant-listed-loop-e l =
    let w = world_at l.w.schema.now l.w.nodes.now l.w.properties.now l.w.values.now in
    (j : ℕ) × ((l.e ≡ edge_from l.w.nodes.now l.u (asked_at l.q.area.now l.q.place) j)
    × Part l.initial.out l.initial.pos (objects_from w l.w.nodes.now l.q.area.now l.q.place l.u 0) (objects_from w l.w.nodes.now l.q.area.now l.q.place l.u j) l.out l.pos)

abbrev pub decreases-listed-loop-e : goal.decreases-listed-loop-e
decreases-listed-loop-e l = cell l.w.nodes.now 1 - l.e

-- selection: the response from entry k on is left
abbrev pub invariant-selection-loop-k : goal.invariant-selection-loop-k
invariant-selection-loop-k l =
    let w = world_at l.w.schema.now l.w.nodes.now l.w.properties.now l.w.values.now in
    Part l.initial.out l.at (selected w l.q.area.now l.i l.d l.u) (selected w l.q.area.now l.k l.d l.u) l.out l.pos
