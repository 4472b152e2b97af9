-- `response::respond` meets its contract: a room that is too large is 1, a refusal by the checks or for size stands, else the response is
-- written. Assumes nothing.
use native.Mathlib.Omega.{arith}
use lib.Seq.{length-take-le}
use Rattle.judge.specs.Texts.{lent}
use Rattle.response.proofs.Telling.{responded_large, responded_refused, still_long, still_readable, has_room, responded_written}
use Rattle.response.proofs.respond.Goals as goal

pub returns-then-room-gt16384 : goal.returns-then-room-gt16384
returns-then-room-gt16384 c = responded_large _ _ _ _ _ _ c.if-room-gt16384.true c.refuse.ensures

pub returns-then-o-ne0 : goal.returns-then-o-ne0
returns-then-o-ne0 c =
    responded_refused _ _ _ _ _ c.measure-s.ensures _ _ c.if-room-gt16384.false _ c.limit-o.ensures c.if-o-ne0.true

pub slice_bounds-values-end : goal.slice_bounds-values-end
unfolding lent
slice_bounds-values-end c =
    let long = still_long _ _ _ _ _ c.measure-s.ensures _ _ c.if-room-gt16384.false _ c.limit-o.ensures c.if-o-ne0.false in
    omega (arith, long.values, c.measure-s.auto.v)

pub slice_bounds-values-end-2 : goal.slice_bounds-values-end-2
unfolding lent
slice_bounds-values-end-2 c =
    let long = still_long _ _ _ _ _ c.measure-s.ensures _ _ c.if-room-gt16384.false _ c.limit-o.ensures c.if-o-ne0.false in
    let v = c.measure-s.new.v in
    simp (length-take-le 8200 v (omega (arith, long.values, c.measure-s.auto.v)))

pub selection-requires : goal.selection-requires
unfolding lent
selection-requires c =
    let s = c.measure-s.new in
    let left = lent s.a s.g s.p s.v s.ix s.q in
    let y = still_readable _ _ left _ _ c.measure-s.ensures _ _ c.if-room-gt16384.false _ c.limit-o.ensures c.if-o-ne0.false in
    let room =
    has_room _ _ left _ _ c.measure-s.ensures _ _ c.if-room-gt16384.false _ c.limit-o.ensures c.if-o-ne0.false _
    c.query_node-root.ensures in
    record { query_labelled = y.labelled; room = room }

pub returns : goal.returns
unfolding lent
returns c =
    let wrote =
    responded_written _ _ _ _ _ c.measure-s.ensures _ _ c.if-room-gt16384.false _ c.limit-o.ensures c.if-o-ne0.false _
    c.query_node-root.ensures in
    wrote _ _ c.selection.ensures

pub invariant_of-world : goal.invariant_of-world
unfolding lent
invariant_of-world c =
    let y = still_readable _ _ _ _ _ c.measure-s.ensures _ _ c.if-room-gt16384.false _ c.limit-o.ensures c.if-o-ne0.false in record { held = y.held }

pub invariant_of-selection : goal.invariant_of-selection
unfolding lent
invariant_of-selection c =
    let y = still_readable _ _ _ _ _ c.measure-s.ensures _ _ c.if-room-gt16384.false _ c.limit-o.ensures c.if-o-ne0.false in record { held = y.labelled.held }
