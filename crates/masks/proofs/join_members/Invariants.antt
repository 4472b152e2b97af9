-- `masks::join_members` meets its contract. The loop's invariant: the `M` records before its place have joined. Assumes nothing.
use mathlib.Core.Path.{◌≡◌}
use Rattle.masks.specs.Join.{members_joined}
use Rattle.masks.proofs.join_members.Given as goal

abbrev pub invariant-loop-j : goal.invariant-loop-j
invariant-loop-j l = l.a ≡ members_joined l.initial.a l.j
