-- `graph::values_fault` meets its contract. The loop's invariant: the values before value i are not at fault. Assumes nothing.
use Prim.Native.Nat.{◌+◌, ◌≤◌, ◌-◌}
use lib.ListN.{length}
use Rattle.tables.specs.Read.{values_at}
use Rattle.graph.proofs.Turning.{ValuesLeft}
use Rattle.graph.proofs.values_fault.Given as goal

abbrev pub invariant-loop-i : goal.invariant-loop-i
invariant-loop-i l = ValuesLeft l.a.area.now l.t l.p.values.now (values_at l.p.area.now l.p.values.now l.p.place) l.from l.start l.front l.all l.i × (l.start + (l.all - l.front) ≤ length l.p.values.now)
