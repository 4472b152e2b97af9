-- `sizing::size_query` meets its contract. The loop's invariant: the walk over the entries from k on is left to tally. Assumes nothing.
use Rattle.sizing.proofs.Passes.{Sized}
use Rattle.sizing.proofs.size_query.Given as goal

abbrev pub invariant-loop-k : goal.invariant-loop-k
invariant-loop-k l = Sized l.w.schema.now l.w.nodes.now l.w.properties.now l.w.values.now l.q.area.now l.k l.m l.t
