-- `sizing::count_targets` meets its contract. The loop's invariant: the targets counted and those from edge e on are all. Assumes nothing.
use Prim.Native.Nat.{◌-◌}
use Rattle.tables.specs.Read.{cell}
use Rattle.world.specs.World.{asked_at}
use Rattle.sizing.proofs.Tallying.{Counted}
use Rattle.sizing.proofs.count_targets.Given as goal

abbrev pub invariant-loop-e : goal.invariant-loop-e
invariant-loop-e l = Counted l.w.nodes.now l.u (asked_at l.q.area.now l.q.place) l.n l.e

abbrev pub decreases-loop-e : goal.decreases-loop-e
decreases-loop-e l = cell l.w.nodes.now 1 - l.e
