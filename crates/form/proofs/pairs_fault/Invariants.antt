-- `form::pairs_fault` meets its contract. The loop's invariant: the pairs from i on have the fault that all have. Assumes nothing.
use Prim.Native.Nat.{◌≤◌}
use mathlib.Core.Path.{◌≡◌}
use lib.ListN.{get_or}
use Rattle.form.proofs.Rises.{PairsLeft}
use Rattle.form.proofs.pairs_fault.Given as goal

abbrev pub invariant-loop-i : goal.invariant-loop-i
invariant-loop-i l = record { left : PairsLeft l.r.count l.r.nums l.i; given : l.n ≡ get_or l.r.nums 3 0; few : l.n ≤ 4 }
