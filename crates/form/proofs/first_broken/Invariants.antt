-- `form::first_broken` meets its contract. The loop's invariant: the first broken line of the text is the first from the position
-- on, whose line has the number `line`. The measure is what is left of the text. Assumes nothing.
use Prim.Native.Nat.{◌+◌, ◌≤◌, ◌-◌}
use lib.ListN.{length}
use Rattle.form.proofs.Breaking.{BrokenLeft}
use Rattle.form.proofs.first_broken.Given as goal

abbrev pub invariant-loop-at : goal.invariant-loop-at
invariant-loop-at g l = record { left : BrokenLeft l.kind l.s l.at l.line; inside : l.at ≤ length l.s; numbered : l.line ≤ l.at + 1 }

abbrev pub decreases-loop-at : goal.decreases-loop-at
decreases-loop-at g l = length l.s - l.at
