-- `graph::args_taken` meets its contract. The loop's invariant: the pairs before pair i are not at fault. Assumes nothing.
use Rattle.graph.proofs.Turning.{TakenLeft}
use Rattle.graph.proofs.args_taken.Given as goal

abbrev pub invariant-loop-i : goal.invariant-loop-i
invariant-loop-i l = TakenLeft l.a.area.now l.f l.r.nums l.i
