-- `world::row_along` meets its contract. The loop's invariant: none of the rows before j matches, and j is on the chain. The measure is the
-- rows left. Assumes nothing.
use Prim.Native.Nat.{◌-◌}
use mathlib.Core.Path.{◌≡◌}
use Rattle.index.specs.Index.{node_at, OnChain}
use Rattle.world.specs.World.{asked_at, row_from}
use Rattle.world.proofs.row_along.Given as goal

abbrev pub invariant-loop-j : goal.invariant-loop-j
invariant-loop-j l = (row_from l.a l.base l.n l.u (asked_at l.q.area.now l.q.place) l.i ≡ row_from l.a l.base l.n l.u (asked_at l.q.area.now l.q.place) l.j) × OnChain (node_at l.a l.base) l.n l.u l.j

abbrev pub decreases-loop-j : goal.decreases-loop-j
decreases-loop-j l = l.n - l.j
