-- `graph_text::judge_joint` meets its contract: each search strikes one check off those that are left. Assumes nothing.
use Rattle.std.proofs.lemmas.Result.{err_from_is_err_and}
use Rattle.search.specs.Search.{areas}
use Rattle.checks.proofs.Judging.{stop, pass}
use Rattle.graph_text.proofs.GraphJudging.{nodes_ready, joint_left, at_27, past_27}
use Rattle.graph_text.proofs.judge_joint.Goals as goal

pub judge_rows-requires-clause-index_ready : goal.judge_rows-requires-clause-index_ready
judge_rows-requires-clause-index_ready c = record { linked = λ _. c.requires.indexed }

pub returns-in_err-judge_rows : goal.returns-in_err-judge_rows
returns-in_err-judge_rows c =
    let p = err_from_is_err_and c.from_residual.result c.from_residual.ensures.1 in
    let left-25 = joint_left _ _ _ _ _ c.requires.graph_ready in
    rw (p.1, p.2) (stop left-25 c.judge_rows.ensures c.in_err-judge_rows.was)

pub judge_rows-requires-2-clause-index_ready : goal.judge_rows-requires-2-clause-index_ready
judge_rows-requires-2-clause-index_ready c = record { linked = λ _. c.requires.indexed }

pub returns-in_err-judge_rows-2 : goal.returns-in_err-judge_rows-2
returns-in_err-judge_rows-2 c =
    let end = c.from_residual-in_err-judge_rows-2 in
    let p = err_from_is_err_and end.result end.ensures.1 in
    let left-25 = joint_left _ _ _ _ _ c.requires.graph_ready in
    let left-26 = pass left-25 c.judge_rows.ensures c.in_ok-judge_rows.was in
    rw (p.1, p.2) (stop left-26 c.judge_rows-2.ensures c.in_err-judge_rows-2.was)

pub schema_tables-requires : goal.schema_tables-requires
unfolding areas
schema_tables-requires c = c.requires.graph_ready.schema

pub invariant_of-nodes : goal.invariant_of-nodes
invariant_of-nodes c = record { held = nodes_ready c.args.s.now.bytes.now _ _ _ _ c.requires.graph_ready }

pub returns-then-count_nodes-ne1 : goal.returns-then-count_nodes-ne1
returns-then-count_nodes-ne1 c =
    let left-25 = joint_left _ _ _ _ _ c.requires.graph_ready in
    let left-26 = pass left-25 c.judge_rows.ensures c.in_ok-judge_rows.was in
    let left-27 = pass left-26 c.judge_rows-2.ensures c.in_ok-judge_rows-2.was in
    at_27 _ _ _ _ _ c.requires.graph_ready _ _ (rw c.schema_tables.ensures at c.query_type.ensures) c.count_nodes.ensures left-27 c.if-count_nodes-ne1.true c.refuse.ensures

pub returns : goal.returns
returns c =
    let left-25 = joint_left _ _ _ _ _ c.requires.graph_ready in
    let left-26 = pass left-25 c.judge_rows.ensures c.in_ok-judge_rows.was in
    let left-27 = pass left-26 c.judge_rows-2.ensures c.in_ok-judge_rows-2.was in
    past_27 _ _ _ _ _ c.requires.graph_ready _ _ (rw c.schema_tables.ensures at c.query_type.ensures) c.count_nodes.ensures left-27 c.if-count_nodes-ne1.false
