-- The four functions meet their contracts where those that they call do, at a smaller measure. Assumes nothing.
use Prim.Native.Nat.{ℕ}
use native.Mathlib.Omega.{arith}
use mathlib.Core.Path.{◌≡◌}
use mathlib.Core.List.{List, [], ◌∷◌, ◌++◌}
use Rattle.rules.specs.World.{World}
use Rattle.rules.specs.Eval.{label, open_list, open_object, close_object}
use Rattle.tables.specs.Read.{cell, wide_at}
use Rattle.world.specs.World.{world_at}
use Rattle.world.proofs.Targets.{edges-fewer, edge-node}
use Rattle.evaluate.specs.Write.{Room, Wrote}
use Rattle.evaluate.specs.Evaluate.{entered, enlisted, below, braced}
use Rattle.evaluate.proofs.Write.{Part, part_none, part_same, part_step, part_last, part_end, part_at}
use Rattle.evaluate.proofs.Write.{room-one, room-same, part_room, part_room_last, wrote_none, wrote_same}
use Rattle.evaluate.proofs.Steps.{selected_end, selected_up, selected-here, selected_skip, braced_open, below_then}
use Rattle.evaluate.proofs.Steps.{objects_from, objects_end, objects-more, enlisted_open}
use Rattle.evaluate.proofs.Steps.{fielded, entered_on, entered_off, entered-label}
use Rattle.evaluate.proofs.Steps.{shaped, fielded_scalar, fielded_list, fielded-null, fielded-object}
use Rattle.evaluate.proofs.Falling.{children_fall, selected_keeps}
use Rattle.evaluate.proofs.+entry_listed_object_selection.Goals as goal
use Rattle.evaluate.proofs.+entry_listed_object_selection.Goals.{selection-then-e-d-2, selection-else-e-d-2}

-- ---- selection

pub selection-invariant_of-next : goal.selection-invariant_of-next
unfolding cell
selection-invariant_of-next t c = record { held = c.args.q.now.held; inside = rw c.len-k-end.ensures at c.loop-k-test.true }

pub selection-returns-then-e-d : goal.selection-returns-then-e-d
unfolding cell
selection-returns-then-e-d t c =
    part_end (selected_up _ _ _ _ _ (rw c.len-k-end.ensures at c.loop-k-test.true) c.cell-e.ensures c.if-e-d.true) c.loop-k.invariant

pub selection-entry-pos-requires : goal.selection-entry-pos-requires
unfolding cell
selection-entry-pos-requires t c =
    let law = selected-here _ _ _ _ _ (rw c.len-k-end.ensures at c.loop-k-test.true) c.cell-e.ensures c.if-e-d-2.true in
    let kept = selected_keeps _ _ c.cell-e.ensures c.loop-k.auto.k c.if-e-d-2.true in
    let room = part_room c.requires.room law c.loop-k.invariant in
    (omega (arith, c.decreases, kept), (c.requires.query_labelled, room))

pub selection-loop-k-preserved : goal.selection-loop-k-preserved
unfolding cell
selection-loop-k-preserved t c =
    let room = c.requires.room in
    let test = rw c.len-k-end.ensures at c.loop-k-test.true in
    let depth = c.cell-e.ensures in
    let left = c.loop-k.invariant in
    elim c.if-e-d-2.branch [
      | selection-then-e-d-2 w ↦ part_at w.out-is w.pos-is
          (part_step room (selected-here _ _ _ _ _ test depth w.if-e-d-2.true) left w.entry-pos.ensures)
      | selection-else-e-d-2 w ↦ part_at w.out-is w.pos-is
          (part_same (selected_skip _ _ _ _ _ test depth (omega (arith, w.if-e-d-2.false, c.if-e-d.false))) left)
    ]

pub selection-returns : goal.selection-returns
unfolding cell
selection-returns t c = part_end (selected_end _ _ _ _ _ (rw c.len-k-end.ensures at c.loop-k-test.false)) c.loop-k.invariant

-- ---- object: a bracket, the children, a bracket

module _ (w : World) (q : List ℕ) (k x : ℕ) {o o₁ : List ℕ} {at r : ℕ} (room : Room o at (braced w q k x))
    (put : Wrote o at (open_object ∷ []) o₁ r) where
  with-bracket : Part o at (braced w q k x) (below w q k x ++ (close_object ∷ [])) o₁ r
  with-bracket = part_step room (braced_open _ _ _ _) (part_none _ _ _) put

pub object-put-inside-requires : goal.object-put-inside-requires
object-put-inside-requires t c = room-one (part_room c.requires.room (braced_open _ _ _ _) (part_none _ _ _))

pub object-selection-last-requires : goal.object-selection-last-requires
object-selection-last-requires t c =
    let depth = c.cell.ensures in
    let room = part_room c.requires.room (below_then _ _ _ _ depth _) (with-bracket _ _ _ _ c.requires.room c.put-inside.ensures) in
    let less = children_fall _ _ depth c.requires.query_labelled.held c.args.q.now.inside in
    (omega (arith, c.decreases, less), (c.requires.query_labelled, room))

pub object-put-requires : goal.object-put-requires
object-put-requires t c =
    let opened = with-bracket _ _ _ _ c.requires.room c.put-inside.ensures in
    let filled = part_step c.requires.room (below_then _ _ _ _ c.cell.ensures _) opened c.selection-last.ensures in
    room-one (part_room_last c.requires.room filled)

pub object-returns : goal.object-returns
object-returns t c =
    let opened = with-bracket _ _ _ _ c.requires.room c.put-inside.ensures in
    let filled = part_step c.requires.room (below_then _ _ _ _ c.cell.ensures _) opened c.selection-last.ensures in
    part_last c.requires.room filled c.put.ensures

-- ---- listed: a bracket, the objects, a bracket

module _ (a g p v q : List ℕ) (k u : ℕ) {o o₁ : List ℕ} {at r : ℕ} (room : Room o at (enlisted (world_at a g p v) q k u))
    (put : Wrote o at (open_list ∷ []) o₁ r) where
  opened : Part o at (enlisted (world_at a g p v) q k u) (objects_from (world_at a g p v) g q k u 0) o₁ r
  opened = part_step room (enlisted_open _ _ _ _ _ _ _) (part_none _ _ _) put

  -- the room that the loop begins with
  room-inside : Room o₁ r (objects_from (world_at a g p v) g q k u 0)
  room-inside = part_room_last room opened

pub listed-put-pos-requires : goal.listed-put-pos-requires
listed-put-pos-requires t c = room-one (part_room c.requires.room (enlisted_open _ _ _ _ _ _ _) (part_none _ _ _))

pub listed-target-requires : goal.listed-target-requires
unfolding cell
listed-target-requires t c = c.loop-e-test.true

pub listed-object-pos-requires : goal.listed-object-pos-requires
unfolding cell
listed-object-pos-requires t c =
    let i = c.loop-e.invariant.1 in
    let law = objects-more _ _ _ _ _ _ i.0 c.loop-e-test.true c.target.ensures in
    let room = part_room (room-inside _ _ _ _ _ _ _ c.requires.room c.put-pos.ensures) law i.1 in
    (omega (arith, c.decreases), (c.requires.query_labelled, room))

pub listed-edge_after-e-requires-clause-e_bound : goal.listed-edge_after-e-requires-clause-e_bound
unfolding cell
listed-edge_after-e-requires-clause-e_bound t c = c.loop-e-test.true

pub listed-edge_after-e-requires-clause-e_value : goal.listed-edge_after-e-requires-clause-e_value
unfolding cell
listed-edge_after-e-requires-clause-e_value t c = edge-node _ _ _ _ _ c.loop-e.invariant.1.0 c.loop-e-test.true

pub listed-loop-e-smaller : goal.listed-loop-e-smaller
unfolding cell
listed-loop-e-smaller t c = edges-fewer _ _ _ _ _ c.loop-e-test.true c.edge_after-e.ensures

pub listed-loop-e-preserved : goal.listed-loop-e-preserved
unfolding cell
listed-loop-e-preserved t c =
    let i = c.loop-e.invariant.1 in
    let law = objects-more _ _ _ _ _ _ i.0 c.loop-e-test.true c.target.ensures in
    (_, (c.edge_after-e.ensures, part_step (room-inside _ _ _ _ _ _ _ c.requires.room c.put-pos.ensures) law i.1 c.object-pos.ensures))

pub listed-put-requires : goal.listed-put-requires
unfolding cell
listed-put-requires t c =
    let i = c.loop-e.invariant.1 in
    let end = part_same (objects_end _ _ _ _ _ _ i.0 c.loop-e-test.false) i.1 in
    room-one (part_room_last (room-inside _ _ _ _ _ _ _ c.requires.room c.put-pos.ensures) end)

pub listed-returns : goal.listed-returns
unfolding cell
listed-returns t c =
    let i = c.loop-e.invariant.1 in
    let end = part_same (objects_end _ _ _ _ _ _ i.0 c.loop-e-test.false) i.1 in
    let inside = part_last (room-inside _ _ _ _ _ _ _ c.requires.room c.put-pos.ensures) end c.put.ensures in
    part_last c.requires.room (opened _ _ _ _ _ _ _ c.requires.room c.put-pos.ensures) inside

-- ---- entry: a type condition, or a label and what the field shows

pub entry-selection-requires : goal.entry-selection-requires
entry-selection-requires t c =
    let type = c.cell-then-cell-ne-FIELD.ensures in
    let depth = c.cell-then-holds.ensures in
    let on = entered_on _ _ _ _ _ _ _ c.cell.ensures type c.if-cell-ne-FIELD.true c.holds.ensures c.if-holds.true depth in
    let less = children_fall _ _ depth c.requires.query_labelled.held c.args.q.now.inside in
    (omega (arith, c.decreases, less), (c.requires.query_labelled, room-same on c.requires.room))

pub entry-returns-then-holds : goal.entry-returns-then-holds
entry-returns-then-holds t c =
    let type = c.cell-then-cell-ne-FIELD.ensures in
    let depth = c.cell-then-holds.ensures in
    let on = entered_on _ _ _ _ _ _ _ c.cell.ensures type c.if-cell-ne-FIELD.true c.holds.ensures c.if-holds.true depth in
    wrote_same on c.selection.ensures

pub entry-returns-then-cell-ne-FIELD : goal.entry-returns-then-cell-ne-FIELD
entry-returns-then-cell-ne-FIELD t c =
    let type = c.cell-then-cell-ne-FIELD.ensures in
    let off = entered_off _ _ _ _ _ _ _ c.cell.ensures type c.if-cell-ne-FIELD.true c.holds.ensures c.if-holds.false in
    wrote_same off (wrote_none _ _)

pub entry-put-after-requires : goal.entry-put-after-requires
entry-put-after-requires t c =
    let law = entered-label _ _ _ _ _ _ _ c.cell.ensures c.cell-2.ensures c.if-cell-ne-FIELD.false in
    part_room c.requires.room law (part_none _ _ _)

-- where entry k is a field, its label is written
module _ (a g p v q : List ℕ) (k u : ℕ) {o o₁ : List ℕ} {at r kind t : ℕ} (room : Room o at (entered (world_at a g p v) q k u))
    (kind-is : kind ≡ wide_at q 8 k 0) (t-is : t ≡ wide_at q 8 k 3) (field : kind ≡ 70) (put : Wrote o at (label t ∷ []) o₁ r) where
  labelled : Part o at (entered (world_at a g p v) q k u) (fielded (world_at a g p v) q k u) o₁ r
  labelled = part_step room (entered-label _ _ _ _ _ _ _ kind-is t-is field) (part_none _ _ _) put

  module _ {shown : List ℕ} (law : fielded (world_at a g p v) q k u ≡ shown) where
    -- there is room for what the field shows
    room-behind : Room o₁ r shown
    room-behind = part_room_last room (part_same law labelled)

    -- and with that the entry is written
    all-written : {o₂ : List ℕ} {n : ℕ} → Wrote o₁ r shown o₂ n → Wrote o at (entered (world_at a g p v) q k u) o₂ n
    all-written = part_last room (part_same law labelled)

pub entry-put_scalar-requires-clause-room : goal.entry-put_scalar-requires-clause-room
entry-put_scalar-requires-clause-room t c =
    let shape = shaped _ _ _ _ _ _ c.cell-3.ensures c.shape.ensures in
    room-behind _ _ _ _ _ _ _ c.requires.room c.cell.ensures c.cell-2.ensures c.if-cell-ne-FIELD.false c.put-after.ensures
    (fielded_scalar _ _ shape c.in-Scalar.is)

pub entry-returns-in-Scalar : goal.entry-returns-in-Scalar
entry-returns-in-Scalar t c =
    let shape = shaped _ _ _ _ _ _ c.cell-3.ensures c.shape.ensures in
    all-written _ _ _ _ _ _ _ c.requires.room c.cell.ensures c.cell-2.ensures c.if-cell-ne-FIELD.false c.put-after.ensures
    (fielded_scalar _ _ shape c.in-Scalar.is) c.put_scalar.ensures

pub entry-listed-requires : goal.entry-listed-requires
entry-listed-requires t c =
    let shape = shaped _ _ _ _ _ _ c.cell-3.ensures c.shape.ensures in
    let room = room-behind _ _ _ _ _ _ _ c.requires.room c.cell.ensures c.cell-2.ensures c.if-cell-ne-FIELD.false c.put-after.ensures
    (fielded_list _ _ shape c.in-Objects.is) in
    (omega (arith, c.decreases), (c.requires.query_labelled, room))

pub entry-returns-in-Objects : goal.entry-returns-in-Objects
entry-returns-in-Objects t c =
    let shape = shaped _ _ _ _ _ _ c.cell-3.ensures c.shape.ensures in
    all-written _ _ _ _ _ _ _ c.requires.room c.cell.ensures c.cell-2.ensures c.if-cell-ne-FIELD.false c.put-after.ensures
    (fielded_list _ _ shape c.in-Objects.is) c.listed.ensures

pub entry-target-requires : goal.entry-target-requires
unfolding cell
entry-target-requires t c = c.if-e-w.true

pub entry-object-requires : goal.entry-object-requires
unfolding cell
entry-object-requires t c =
    let shape = shaped _ _ _ _ _ _ c.cell-3.ensures c.shape.ensures in
    let law = fielded-object _ _ shape c.in-Object.is c.first_edge-e.ensures c.if-e-w.true c.target.ensures in
    let room = room-behind _ _ _ _ _ _ _ c.requires.room c.cell.ensures c.cell-2.ensures c.if-cell-ne-FIELD.false
    c.put-after.ensures law in
    (omega (arith, c.decreases), (c.requires.query_labelled, room))

pub entry-returns-then-e-w : goal.entry-returns-then-e-w
unfolding cell
entry-returns-then-e-w t c =
    let shape = shaped _ _ _ _ _ _ c.cell-3.ensures c.shape.ensures in
    let law = fielded-object _ _ shape c.in-Object.is c.first_edge-e.ensures c.if-e-w.true c.target.ensures in
    all-written _ _ _ _ _ _ _ c.requires.room c.cell.ensures c.cell-2.ensures c.if-cell-ne-FIELD.false c.put-after.ensures law
    c.object.ensures

pub entry-put-requires : goal.entry-put-requires
unfolding cell
entry-put-requires t c =
    let shape = shaped _ _ _ _ _ _ c.cell-3.ensures c.shape.ensures in
    room-behind _ _ _ _ _ _ _ c.requires.room c.cell.ensures c.cell-2.ensures c.if-cell-ne-FIELD.false c.put-after.ensures
    (fielded-null _ _ shape c.in-Object.is c.first_edge-e.ensures c.if-e-w.false)

pub entry-returns-else-e-w : goal.entry-returns-else-e-w
unfolding cell
entry-returns-else-e-w t c =
    let shape = shaped _ _ _ _ _ _ c.cell-3.ensures c.shape.ensures in
    all-written _ _ _ _ _ _ _ c.requires.room c.cell.ensures c.cell-2.ensures c.if-cell-ne-FIELD.false c.put-after.ensures
    (fielded-null _ _ shape c.in-Object.is c.first_edge-e.ensures c.if-e-w.false) c.put.ensures
