use mathlib.Core.Path.{sym, subst}
use native.Mathlib.Omega.{arith}
use Rattle.tables.specs.Read.{cell}
use Rattle.index.specs.Index.{head_in, next_in}
use Rattle.schema.specs.Held.{Bucketed}
use Rattle.schema.proofs.Searching.{lacks-first, lacks_other, lacks-not}
use Rattle.schema.proofs.Following.{Seeking, seek_less, seek_on, seek_bucket}
use Rattle.schema.proofs.held.SchemaTables.lacks_field.Goals as goal
use Rattle.schema.proofs.held.SchemaTables.lacks_field.Goals.{else-row_cell-t-via-then-row_cell-t+else-not-has_field, else-row_cell-t-via-else-row_cell-t}

pub loop-j-init : goal.loop-j-init
unfolding cell Bucketed head_in
loop-j-init c =
    subst (Seeking _ _ _) (sym c.first_row-j.ensures)
    (seek_bucket _ _ _ _ _ c.args.self.now.held.has_links _ (λ k h. lacks-first _ _ _ k h))

pub loop-j-smaller : goal.loop-j-smaller
unfolding cell next_in
loop-j-smaller c =
    omega (arith, seek_less c.loop-j.invariant c.loop-j-test.true, c.next_row-j.ensures, c.loop-j-test.true)

pub loop-j-preserved : goal.loop-j-preserved
unfolding cell next_in
loop-j-preserved c =
    let f = c.row_cell.ensures in
    subst (Seeking _ _ _) (sym c.next_row-j.ensures)
    (seek_on c.loop-j.invariant c.loop-j-test.true
    (elim c.else-row_cell-t.branch [
      | else-row_cell-t-via-then-row_cell-t+else-not-has_field w ↦
          lacks-not _ _ _ _ _ f _ _ w.if-row_cell-t.true w.row_cell-then-row_cell-t.ensures w.has_field.ensures w.if-not-has_field.false
      | else-row_cell-t-via-else-row_cell-t w ↦ lacks_other _ _ _ _ _ f w.if-row_cell-t.false
    ]))
