-- `checks::judge_schema_rows` meets its contract: each search strikes one check off those that are left. Assumes nothing.
use native.Mathlib.Omega.{arith}
use mathlib.Core.List.{[], ◌∷◌}
use Rattle.std.proofs.lemmas.Result.{err_from_is_err_and}
use Rattle.search.specs.Search.{areas}
use Rattle.tables.specs.Read.{cell}
use Rattle.checks.proofs.Judging.{stop, pass}
use Rattle.checks.proofs.SchemaJudging.{SchemaLeft, all_left, at_16, past_16}
use Rattle.checks.proofs.judge_schema_rows.Goals as goal
use Rattle.checks.proofs.judge_schema_rows.Goals.{In_ok-judge_schema_row, In_ok-judge_schema_row-2, In_ok-judge_schema_row-3, In_ok-judge_schema_row-4}

-- ---- the checks that are left once those before them are passed
left-13 : (c : In_ok-judge_schema_row) → SchemaLeft c.args.s.now.bytes.now c.args.a.now (13 ∷ 14 ∷ 15 ∷ [])
left-13 c = pass (all_left c.args.s.now.bytes.now c.args.a.now c.requires.schema_ready) c.judge_schema_row.ensures c.in_ok-judge_schema_row.was

left-14 : (c : In_ok-judge_schema_row-2) → SchemaLeft c.args.s.now.bytes.now c.args.a.now (14 ∷ 15 ∷ [])
left-14 c =
    let left = pass (all_left c.args.s.now.bytes.now c.args.a.now c.requires.schema_ready) c.judge_schema_row.ensures c.in_ok-judge_schema_row.was in
    pass left c.judge_schema_row-2.ensures c.in_ok-judge_schema_row-2.was

left-15 : (c : In_ok-judge_schema_row-3) → SchemaLeft c.args.s.now.bytes.now c.args.a.now (14 ∷ 15 ∷ []) → SchemaLeft c.args.s.now.bytes.now c.args.a.now (15 ∷ [])
left-15 c left = pass left c.judge_schema_row-3.ensures c.in_ok-judge_schema_row-3.was

left-16 : (c : In_ok-judge_schema_row-4) → SchemaLeft c.args.s.now.bytes.now c.args.a.now (15 ∷ []) → SchemaLeft c.args.s.now.bytes.now c.args.a.now []
left-16 c left = pass left c.judge_schema_row-4.ensures c.in_ok-judge_schema_row-4.was

-- ---- the answers
pub returns-in_err-judge_schema_row : goal.returns-in_err-judge_schema_row
returns-in_err-judge_schema_row c =
    let p = err_from_is_err_and c.from_residual.result c.from_residual.ensures.1 in
    rw (p.1, p.2)
    (stop (all_left c.args.s.now.bytes.now c.args.a.now c.requires.schema_ready) c.judge_schema_row.ensures c.in_err-judge_schema_row.was)

pub returns-in_err-judge_schema_row-2 : goal.returns-in_err-judge_schema_row-2
returns-in_err-judge_schema_row-2 c =
    let at = goal.at.returns-in_err-judge_schema_row-2 c in
    let end = c.from_residual-in_err-judge_schema_row-2 in
    let p = err_from_is_err_and end.result end.ensures.1 in
    rw (p.1, p.2) (stop (left-13 at.In_ok-judge_schema_row) c.judge_schema_row-2.ensures c.in_err-judge_schema_row-2.was)

pub returns-in_err-judge_schema_row-3 : goal.returns-in_err-judge_schema_row-3
returns-in_err-judge_schema_row-3 c =
    let at = goal.at.returns-in_err-judge_schema_row-3 c in
    let end = c.from_residual-in_err-judge_schema_row-3 in
    let p = err_from_is_err_and end.result end.ensures.1 in
    rw (p.1, p.2) (stop (left-14 at.In_ok-judge_schema_row-2) c.judge_schema_row-3.ensures c.in_err-judge_schema_row-3.was)

pub returns-in_err-judge_schema_row-4 : goal.returns-in_err-judge_schema_row-4
returns-in_err-judge_schema_row-4 c =
    let at = goal.at.returns-in_err-judge_schema_row-4 c in
    let end = c.from_residual-in_err-judge_schema_row-4 in
    let p = err_from_is_err_and end.result end.ensures.1 in
    let left = left-15 at.In_ok-judge_schema_row-3 (left-14 at.In_ok-judge_schema_row-2) in
    rw (p.1, p.2) (stop left c.judge_schema_row-4.ensures c.in_err-judge_schema_row-4.was)

pub bounds-a-6 : goal.bounds-a-6
unfolding areas
bounds-a-6 c = omega (arith, c.requires.schema_ready.held.long)

pub returns-then-a-ne1 : goal.returns-then-a-ne1
unfolding cell
returns-then-a-ne1 c =
    let at = goal.at.returns-then-a-ne1 c in
    let left = left-16 at.In_ok-judge_schema_row-4 (left-15 at.In_ok-judge_schema_row-3 (left-14 at.In_ok-judge_schema_row-2)) in
    at_16 c.args.s.now.bytes.now c.args.a.now c.requires.schema_ready left c.if-a-ne1.true c.refuse.ensures

pub returns : goal.returns
unfolding cell
returns c =
    let at = goal.at.returns c in
    let left = left-16 at.In_ok-judge_schema_row-4 (left-15 at.In_ok-judge_schema_row-3 (left-14 at.In_ok-judge_schema_row-2)) in
    past_16 c.args.s.now.bytes.now c.args.a.now c.requires.schema_ready left c.if-a-ne1.false
