-- `sizing::push_targets` meets its contract. The loop's invariant: what is left to add makes the whole. Assumes nothing.
use Prim.Native.Nat.{◌-◌}
use Rattle.tables.specs.Read.{cell}
use Rattle.world.specs.World.{asked_at}
use Rattle.sizing.proofs.Passing.{Adding}
use Rattle.sizing.proofs.push_targets.Given as goal

abbrev pub invariant-loop-e : goal.invariant-loop-e
invariant-loop-e l = Adding l.w.nodes.now l.u (asked_at l.q.area.now l.q.place) l.b l.x l.initial.m l.m l.e

abbrev pub decreases-loop-e : goal.decreases-loop-e
decreases-loop-e l = cell l.w.nodes.now 1 - l.e
