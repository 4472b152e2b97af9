-- `query::first_entry` meets its contract. The loop's invariant: no entry before k offends, and the contexts are those at k. Assumes
-- nothing.
use Prim.Native.Nat.{◌≤◌}
use Rattle.tables.specs.Read.{cell}
use Rattle.query.proofs.Lines.{Reached}
use Rattle.query.proofs.first_entry.Given as goal

abbrev pub invariant-loop-k : goal.invariant-loop-k
invariant-loop-k g l = Reached l.check l.a.area.now l.q.area.now l.k l.deepest l.contexts × (l.k ≤ cell l.q.area.now 0)
