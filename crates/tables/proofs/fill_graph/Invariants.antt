-- `tables::fill_graph` meets its contract. The loop's invariant: what is left to lay makes the three areas whole. Assumes nothing.
use Prim.Native.Nat.{◌-◌}
use lib.ListN.{length}
use Rattle.tables.proofs.GraphLaying.{GraphLeft}
use Rattle.tables.proofs.fill_graph.Given as goal

abbrev pub invariant-loop-at : goal.invariant-loop-at
invariant-loop-at l = GraphLeft l.s.bytes.now l.initial.g l.g l.initial.p l.p l.initial.v l.v l.nodes l.edges l.properties l.values l.at

abbrev pub decreases-loop-at : goal.decreases-loop-at
decreases-loop-at l = length l.s.bytes.now - l.at
