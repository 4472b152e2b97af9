-- `text::lettered_row` meets its contract. The loop's invariant: what is still to come of the row from i on makes the row whole.
-- The measure is what is left of the text. Assumes nothing.
use Prim.Native.Nat.{◌≤◌, ◌-◌}
use mathlib.Core.Path.{◌≡◌}
use mathlib.Core.Bool.{true}
use lib.ListN.{length, drop}
use Rattle.text.specs.Number.{stop_in}
use Rattle.text.specs.Line.{row_at}
use Rattle.text.proofs.Reading.{row_left}
use Rattle.text.proofs.lettered_row.Given as goal

abbrev pub invariant-loop-i : goal.invariant-loop-i
invariant-loop-i l = record {
  to_come : row_at l.s l.at ≡ row_left l.s l.letter l.count l.nums l.i;
  stops : stop_in (drop l.i l.s) ≡ true;
  inside : l.i ≤ length l.s;
  counted : l.count ≤ l.i;
}

abbrev pub decreases-loop-i : goal.decreases-loop-i
decreases-loop-i l = length l.s - l.i
