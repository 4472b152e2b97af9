-- `tables::fill_schema` meets its contract. The loop's invariant: what is left to lay makes the area whole. Assumes nothing.
use Prim.Native.Nat.{◌-◌}
use lib.ListN.{length}
use Rattle.tables.proofs.SchemaLaying.{SchemaLeft}
use Rattle.tables.proofs.fill_schema.Given as goal

abbrev pub invariant-loop-at : goal.invariant-loop-at
invariant-loop-at l = SchemaLeft l.s.bytes.now l.initial.area l.area l.types l.fields l.args l.has l.takes l.members l.queries l.at

abbrev pub decreases-loop-at : goal.decreases-loop-at
decreases-loop-at l = length l.s.bytes.now - l.at
