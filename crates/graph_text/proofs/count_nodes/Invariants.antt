-- `graph_text::count_nodes` meets its contract. The loop's invariant: the nodes of the type are those found before u and those from u on.
-- Assumes nothing.
use Prim.Native.Nat.{◌≤◌}
use Rattle.graph_text.proofs.Counting.{Passed}
use Rattle.graph_text.proofs.count_nodes.Given as goal

abbrev pub invariant-loop-u : goal.invariant-loop-u
invariant-loop-u l = Passed l.g.area.now l.t l.found l.u × (l.found ≤ l.u)
