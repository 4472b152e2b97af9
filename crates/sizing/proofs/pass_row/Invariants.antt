-- `sizing::pass_row` meets its contract. The loop's invariant: what the nodes before u have passed on stands in the row. Assumes nothing.
use Rattle.tables.specs.Read.{cell}
use Rattle.world.specs.World.{next_at}
use Rattle.sizing.proofs.Passing.{Passing}
use Rattle.sizing.proofs.pass_row.Given as goal

abbrev pub invariant-loop-u : goal.invariant-loop-u
invariant-loop-u l = Passing (next_at l.w.schema.now l.w.nodes.now l.q.area.now l.q.place) l.c l.b (cell l.w.nodes.now 0) l.initial.m l.m l.u
