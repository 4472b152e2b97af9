-- `graph::args_declared` meets its contract. The loop's invariant: the pairs before pair i are not at fault. Assumes nothing.
use Rattle.graph.proofs.Turning.{DeclaredLeft}
use Rattle.graph.proofs.args_declared.Given as goal

abbrev pub invariant-loop-i : goal.invariant-loop-i
invariant-loop-i l = DeclaredLeft l.a.area.now l.r.nums l.i
