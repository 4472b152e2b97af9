-- `evaluate::put_values` meets its contract. The loop's invariant: the values are written up to value i. Assumes nothing.
use lib.ListN.{drop}
use Rattle.tables.specs.Read.{values_at}
use Rattle.evaluate.proofs.Write.{Part}
use Rattle.evaluate.proofs.put_values.Given as goal

abbrev pub invariant-loop-i : goal.invariant-loop-i
invariant-loop-i l = Part l.initial.out l.at (values_at l.p.area.now l.p.values.now l.p.place) (drop l.i (values_at l.p.area.now l.p.values.now l.p.place)) l.out l.pos
