-- `checks::judge_schema_row` meets its contract: a check of the schema's is ready, beside no graph, and walks no index. Assumes nothing.
use Rattle.search.specs.Search.{row_number}
use Rattle.checks.proofs.Judging.{schema_ready, not-indexed, low-checks}
use Rattle.checks.proofs.judge_schema_row.Goals as goal

pub first_offence-requires-clause-ready : goal.first_offence-requires-clause-ready
first_offence-requires-clause-ready c =
    let none = c.default.ensures.1 in
    rw (none.0, none.1.0, none.1.1.0) (schema_ready (row_number c.args.check) _ _ c.requires.before_graph c.requires.schema_ready)

pub first_offence-requires-clause-index_ready : goal.first_offence-requires-clause-index_ready
first_offence-requires-clause-index_ready c =
    not-indexed (row_number c.args.check) _ _ _ (low-checks (row_number c.args.check) c.requires.before_graph)
