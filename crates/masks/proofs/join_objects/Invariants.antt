-- `masks::join_objects` meets its contract. The loop's invariant: the types before its place have joined. Assumes nothing.
use mathlib.Core.Path.{◌≡◌}
use Rattle.masks.specs.Join.{objects_joined}
use Rattle.masks.proofs.join_objects.Given as goal

abbrev pub invariant-loop-t : goal.invariant-loop-t
invariant-loop-t l = l.a ≡ objects_joined l.initial.a l.t
