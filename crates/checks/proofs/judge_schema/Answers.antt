-- `checks::judge_schema` meets its contract: a text that passes 10 and 11 fits the area, what is laid out there can be searched, and once 12
-- has passed the masks can be laid. Assumes nothing.
use mathlib.Core.Path.{refl}
use lib.ListN.{length}
use borrow.Author.Rules.{rules}
use Rattle.std.proofs.lemmas.Result.{err_from_is_err_and}
use Rattle.rules.specs.declared.TextKind.TheVariants.{Schema}
use Rattle.checks.proofs.Opening.{Opened, opened}
use Rattle.checks.proofs.SchemaJudging.{fits_11, laid-ready, refused, RowsJudged, refused-rows, laid_maskable, accepted-rows}
use Rattle.checks.proofs.judge_schema.Goals as goal
use Rattle.checks.proofs.judge_schema.Goals.{In_ok-judge_form, After-judge_schema_rows}

open-text : (c : In_ok-judge_form) → Opened Schema c.args.s.now
open-text c = opened Schema _ c.judge_form.ensures c.in_ok-judge_form.was

-- the area is laid out, and its rows are judged
judged-rows : (c : After-judge_schema_rows)
    → RowsJudged c.args.s.now (length c.args.a.now) c.lay_schema.new.a c.judge_form.result c.judge_schema_rows.result
judged-rows c =
    record {
      form = c.judge_form.ensures;
      kept = c.in_ok-judge_form.was;
      room = c.requires;
      laid = c.lay_schema.ensures;
      is = c.judge_schema_rows.ensures;
    }

pub returns-in_err-judge_form : goal.returns-in_err-judge_form
returns-in_err-judge_form c =
    let p = err_from_is_err_and c.from_residual.result c.from_residual.ensures.1 in
    rw (p.1, p.2) (refused c.args.s.now _ _ c.judge_form.ensures refl c.in_err-judge_form.was)

pub invariant_of-text : goal.invariant_of-text
invariant_of-text c = let text = open-text (goal.at.invariant_of-text c).In_ok-judge_form in record { short = text.short; plain = text.plain }

pub lay_schema-requires : goal.lay_schema-requires
lay_schema-requires c =
    let text = open-text (goal.at.lay_schema-requires c).In_ok-judge_form in
    record {
      schema_fits = fits_11 c.args.s.now text;
      links_end_in_bounds = search rules;
    }

pub judge_schema_rows-requires : goal.judge_schema_rows-requires
judge_schema_rows-requires c =
    let text = open-text (goal.at.judge_schema_rows-requires c).In_ok-judge_form in
    record { schema_ready = laid-ready c.args.s.now _ _ c.requires text c.lay_schema.ensures }

pub returns-in_err-judge_schema_rows : goal.returns-in_err-judge_schema_rows
returns-in_err-judge_schema_rows c =
    let end = c.from_residual-in_err-judge_schema_rows in
    let p = err_from_is_err_and end.result end.ensures.1 in
    rw (p.1, p.2) (refused-rows (judged-rows (goal.at.returns-in_err-judge_schema_rows c).After-judge_schema_rows) c.in_err-judge_schema_rows.was)

pub lay_masks-requires : goal.lay_masks-requires
lay_masks-requires c =
    laid_maskable (judged-rows (goal.at.lay_masks-requires c).After-judge_schema_rows) c.in_ok-judge_schema_rows.was

pub returns : goal.returns
returns c =
    accepted-rows (judged-rows (goal.at.returns c).After-judge_schema_rows) c.in_ok-judge_schema_rows.was _ c.lay_masks.ensures
