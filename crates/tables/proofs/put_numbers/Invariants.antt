-- `tables::put_numbers` meets its contract. The loop's invariant: the numbers that are left make what is to be laid whole. Assumes nothing.
use Prim.Native.Nat.{◌-◌}
use lib.ListN.{length, drop}
use Rattle.rules.specs.Text.{row}
use Rattle.text.specs.Line.{line_at}
use Rattle.tables.proofs.Putting.{Putting}
use Rattle.tables.proofs.put_numbers.Given as goal

abbrev pub invariant-loop-i : goal.invariant-loop-i
invariant-loop-i l = Putting l.s (drop l.skip (row (line_at l.s l.at)).numbers) l.skip l.base l.initial.area l.area l.i l.k l.place

abbrev pub decreases-loop-i : goal.decreases-loop-i
decreases-loop-i l = length l.s - l.i
