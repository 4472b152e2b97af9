-- `query::args_fault` meets its contract. The loop's invariant: the arguments before the i-th pass. Assumes nothing.
use Prim.Native.Nat.{◌≤◌}
use mathlib.Core.Path.{◌≡◌}
use Rattle.tables.specs.Read.{wide_at, schema_at}
use Rattle.query.specs.Faults.{arg_passes, args_fault}
use Rattle.query.proofs.Arguments.{args_from}
use Rattle.query.proofs.args_fault.Given as goal

abbrev pub invariant-loop-i : goal.invariant-loop-i
invariant-loop-i l = (args_fault l.check l.a.area.now l.q.area.now l.q.place l.f ≡ args_from (arg_passes l.check (schema_at l.a.area.now) l.f) l.q.area.now l.q.place l.i) × (l.i ≤ wide_at l.q.area.now 8 l.q.place 5)
