-- `schema::SchemaTables::lacks_field` meets its contract. The loop's invariant: no row before j gives t a field that o lacks, and j is on the chain of t. The
-- measure is the rows left. Assumes nothing.
use Prim.Native.Nat.{◌-◌}
use Rattle.tables.specs.Read.{cell}
use Rattle.index.specs.Index.{next_in}
use Rattle.schema.proofs.Searching.{lacks_at}
use Rattle.schema.proofs.Following.{Seeking}
use Rattle.schema.proofs.held.SchemaTables.lacks_field.Given as goal

abbrev pub invariant-loop-j : goal.invariant-loop-j
invariant-loop-j l = Seeking (lacks_at l.self.area.now l.t l.o) (cell l.self.area.now 3) (next_in l.self.area.now 9992 (cell l.self.area.now 3)) l.j

abbrev pub decreases-loop-j : goal.decreases-loop-j
decreases-loop-j l = cell l.self.area.now 3 - l.j
