-- `query_text::judge_query` meets its contract: a text that passes 30 and 31 fits the area, and its entries say what its rows say.
-- Assumes nothing.
use mathlib.Core.Path.{refl}
use lib.ListN.{length}
use Rattle.std.proofs.lemmas.Result.{err_from_is_err_and}
use Rattle.rules.specs.declared.TextKind.TheVariants.{Query}
use Rattle.tables.specs.Read.{schema_at}
use Rattle.checks.proofs.Opening.{Opened, opened}
use Rattle.query_text.proofs.QueryJudging.{fits_31, laid-held, refused, entered}
use Rattle.query_text.proofs.judge_query.Goals as goal
use Rattle.query_text.proofs.judge_query.Goals.{In_ok-judge_form}

open-text : (c : In_ok-judge_form) → Opened Query c.args.s.now
open-text c = opened Query _ c.judge_form.ensures c.in_ok-judge_form.was

pub returns-in_err-judge_form : goal.returns-in_err-judge_form
returns-in_err-judge_form c =
    let p = err_from_is_err_and c.from_residual.result c.from_residual.ensures.1 in
    rw (p.1, p.2) (refused (schema_at c.args.a.now) c.args.s.now _ _ c.judge_form.ensures refl c.in_err-judge_form.was)

pub invariant_of-text : goal.invariant_of-text
invariant_of-text c = let text = open-text (goal.at.invariant_of-text c).In_ok-judge_form in record { short = text.short; plain = text.plain }

pub lay_query-requires : goal.lay_query-requires
lay_query-requires c =
    let text = open-text (goal.at.lay_query-requires c).In_ok-judge_form in
    record {
      s_len_bound_2 = fits_31 c.args.s.now text;
      in_bounds = c.requires.in_bounds;
    }

pub tables_in-requires : goal.tables_in-requires
tables_in-requires c = c.requires.schema_held

pub table_in-requires : goal.table_in-requires
table_in-requires c =
    let text = open-text (goal.at.table_in-requires c).In_ok-judge_form in
    laid-held c.args.s.now text (length c.args.q.now) c.requires.in_bounds c.lay_query.ensures

pub returns : goal.returns
returns c =
    entered (schema_at c.args.a.now) c.args.s.now _ _ c.judge_form.ensures c.in_ok-judge_form.was c.requires.in_bounds
    c.lay_query.ensures (rw (c.tables_in.ensures, c.table_in.ensures) at c.judge_entries.ensures)
