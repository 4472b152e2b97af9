-- `schema::pair_along` meets its contract. The loop's invariant: the rows before j decide nothing, and j is on the chain of x. The measure is
-- the rows left. Assumes nothing.
use Prim.Native.Nat.{◌-◌}
use Rattle.tables.specs.Read.{pair_at}
use Rattle.index.specs.Index.{next_in}
use Rattle.schema.proofs.Following.{Seeking}
use Rattle.schema.proofs.pair_along.Given as goal

abbrev pub invariant-loop-j : goal.invariant-loop-j
invariant-loop-j l = Seeking (pair_at l.a l.base l.x l.y) l.n (next_in l.a l.at l.n) l.j

abbrev pub decreases-loop-j : goal.decreases-loop-j
decreases-loop-j l = l.n - l.j
