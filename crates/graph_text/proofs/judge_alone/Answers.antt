-- `graph_text::judge_alone` meets its contract: each search strikes one check off those that are left; 22 to 24 do not walk the index.
-- Assumes nothing.
use mathlib.Core.Path.{refl, sym, ◌∙◌}
use Rattle.std.proofs.lemmas.Result.{err_from_is_err_and}
use Rattle.search.specs.Search.{indexed}
use Rattle.checks.proofs.Judging.{stop, pass, not-indexed}
use Rattle.graph_text.proofs.GraphJudging.{alone_left}
use Rattle.graph_text.proofs.judge_alone.Goals as goal

pub judge_rows-requires-clause-index_ready : goal.judge_rows-requires-clause-index_ready
unfolding indexed
judge_rows-requires-clause-index_ready c = not-indexed _ _ _ _ refl

pub returns-in_err-judge_rows : goal.returns-in_err-judge_rows
returns-in_err-judge_rows c =
    let p = err_from_is_err_and c.from_residual.result c.from_residual.ensures.1 in
    let left-22 = alone_left _ _ _ _ _ c.requires.graph_ready in
    rw (p.1, p.2) (stop left-22 c.judge_rows.ensures c.in_err-judge_rows.was)

pub judge_rows-requires-2-clause-index_ready : goal.judge_rows-requires-2-clause-index_ready
unfolding indexed
judge_rows-requires-2-clause-index_ready c = not-indexed _ _ _ _ refl

pub returns-in_err-judge_rows-2 : goal.returns-in_err-judge_rows-2
returns-in_err-judge_rows-2 c =
    let end = c.from_residual-in_err-judge_rows-2 in
    let p = err_from_is_err_and end.result end.ensures.1 in
    let left-22 = alone_left _ _ _ _ _ c.requires.graph_ready in
    let left-23 = pass left-22 c.judge_rows.ensures c.in_ok-judge_rows.was in
    rw (p.1, p.2) (stop left-23 c.judge_rows-2.ensures c.in_err-judge_rows-2.was)

pub judge_rows-requires-3-clause-index_ready : goal.judge_rows-requires-3-clause-index_ready
unfolding indexed
judge_rows-requires-3-clause-index_ready c = not-indexed _ _ _ _ refl

pub returns : goal.returns
returns c =
    let left-22 = alone_left _ _ _ _ _ c.requires.graph_ready in
    let left-23 = pass left-22 c.judge_rows.ensures c.in_ok-judge_rows.was in
    let left-24 = pass left-23 c.judge_rows-2.ensures c.in_ok-judge_rows-2.was in
    c.judge_rows-3.ensures ∙ sym left-24.is
