-- `query::QueryEntry::has_child` meets its contract. The loop's invariant: the entries before j are deeper and no child. Assumes nothing.
use Prim.Native.Nat.{◌≤◌}
use mathlib.Core.Path.{◌≡◌}
use Rattle.rules.specs.Query.{has_child}
use Rattle.tables.specs.Read.{cell}
use Rattle.query.specs.Entries.{entry_at, behind}
use Rattle.query.proofs.Children.{child_from}
use Rattle.query.proofs.held.QueryEntry.has_child.Given as goal

abbrev pub invariant-loop-j : goal.invariant-loop-j
invariant-loop-j l = (has_child (entry_at l.self.area.now l.self.place) (behind l.self.area.now l.self.place) ≡ child_from l.self.area.now l.self.place l.j) × (l.j ≤ cell l.self.area.now 0)
