-- `schema::first_in` meets its contract. The loop's invariant: the rows before j decide nothing. Assumes nothing.
use Rattle.tables.specs.Read.{first_at}
use Rattle.schema.proofs.Searching.{Left}
use Rattle.schema.proofs.first_in.Given as goal

abbrev pub invariant-loop-j : goal.invariant-loop-j
invariant-loop-j l = Left (first_at l.a l.base l.x) l.n l.j
