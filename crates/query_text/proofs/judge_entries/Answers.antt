-- `query_text::judge_entries` meets its contract: each search strikes one check off those that are left. Assumes nothing.
use mathlib.Core.Path.{◌≡◌, sym, ap, ◌∙◌}
use borrow.Author.Tests.{eq-eqb, eqb-true}
use Rattle.std.specs.Prelude.{ℕ}
use Rattle.std.proofs.lemmas.Result.{err_from_is_err_and}
use Rattle.rules.specs.Search.{spot}
use Rattle.rules.proofs.Bools.{clash}
use Rattle.tables.specs.Read.{cell}
use Rattle.schema.specs.Stated.{stated}
use Rattle.checks.specs.Verdict.{refused_by}
use Rattle.query.specs.declared.EntryCheck.TheVariants.{Depths, Numbers, Validity}
use Rattle.query_text.proofs.QueryJudging.{no_entry, all_left, stop_at, strike, decides}
use Rattle.query_text.proofs.judge_entries.Goals as goal
use Rattle.query_text.proofs.judge_entries.Goals.{Else-is_empty}

-- past the test there is an entry
some-entry : (c : Else-is_empty) → cell c.args.q.now.area.now 0 ≡ 0 → ⊥
some-entry c e = clash (eq-eqb _ _ e) (sym c.is_empty.ensures ∙ c.if-is_empty.false)

pub returns-then-is_empty : goal.returns-then-is_empty
returns-then-is_empty c =
    no_entry (stated c.args.a.now) c.args.q.now.area.now (eqb-true _ _ (sym c.is_empty.ensures ∙ c.if-is_empty.true))
    (c.refuse.ensures ∙ ap (λ (n : ℕ). refused_by n (spot 0 0)) c.number.ensures)

pub returns-in_err-judge_entry : goal.returns-in_err-judge_entry
returns-in_err-judge_entry c =
    let p = err_from_is_err_and c.from_residual.result c.from_residual.ensures.1 in
    rw (p.1, p.2) (stop_at _ _ Depths (all_left _ _ (some-entry (goal.at.returns-in_err-judge_entry c).Else-is_empty)) c.judge_entry.ensures c.in_err-judge_entry.was)

pub returns-in_err-judge_entry-2 : goal.returns-in_err-judge_entry-2
returns-in_err-judge_entry-2 c =
    let end = c.from_residual-in_err-judge_entry-2 in
    let p = err_from_is_err_and end.result end.ensures.1 in
    let left-33 = strike _ _ Depths (all_left _ _ (some-entry (goal.at.returns-in_err-judge_entry-2 c).Else-is_empty)) c.judge_entry.ensures c.in_ok-judge_entry.was in
    rw (p.1, p.2) (stop_at _ _ Numbers left-33 c.judge_entry-2.ensures c.in_err-judge_entry-2.was)

pub returns : goal.returns
returns c =
    let left-33 = strike _ _ Depths (all_left _ _ (some-entry (goal.at.returns c).Else-is_empty)) c.judge_entry.ensures c.in_ok-judge_entry.was in
    let left-34 = strike _ _ Numbers left-33 c.judge_entry-2.ensures c.in_ok-judge_entry-2.was in
    decides _ _ Validity left-34 c.judge_entry-3.ensures
