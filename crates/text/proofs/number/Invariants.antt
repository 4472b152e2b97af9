-- `text::number` meets its contract. The loop's invariant: reading on from i with the value so far finds what the whole finds.
-- The measure is what is left of the text. Assumes nothing.
use Prim.Native.Nat.{◌≤◌, ◌-◌}
use mathlib.Core.Path.{◌≡◌}
use lib.ListN.{length}
use Rattle.text.specs.Number.{number_at}
use Rattle.text.proofs.Numbers.{read_at}
use Rattle.text.proofs.number.Given as goal

abbrev pub invariant-loop-d : goal.invariant-loop-d
invariant-loop-d l = record { to_come : number_at l.s l.at ≡ read_at l.s l.value l.i; small : l.value ≤ 999999999; inside : l.i ≤ length l.s }

abbrev pub decreases-loop-d : goal.decreases-loop-d
decreases-loop-d l = length l.s - l.i
