-- `tables::fill_query` meets its contract. The loop's invariant: what is left to lay makes the table whole. Assumes nothing.
use Prim.Native.Nat.{◌-◌}
use lib.ListN.{length}
use Rattle.tables.proofs.QueryLaying.{QueryLeft}
use Rattle.tables.proofs.fill_query.Given as goal

abbrev pub invariant-loop-at : goal.invariant-loop-at
invariant-loop-at l = QueryLeft l.s.bytes.now l.initial.area l.area l.place l.at

abbrev pub decreases-loop-at : goal.decreases-loop-at
decreases-loop-at l = length l.s.bytes.now - l.at
