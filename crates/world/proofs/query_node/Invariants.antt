-- `world::query_node` meets its contract. The loop's invariant: none of the nodes before u is of the query type. Assumes nothing.
use Rattle.world.proofs.Reading.{RootFrom}
use Rattle.world.proofs.query_node.Given as goal

abbrev pub invariant-loop-u : goal.invariant-loop-u
invariant-loop-u l = RootFrom l.a.area.now l.g.area.now l.u
