-- `graph_text::judge_rows` meets its contract: a check of the graph's is ready. Assumes nothing.
use native.Mathlib.Omega.{arith}
use Rattle.search.specs.Search.{row_number}
use Rattle.checks.proofs.Judging.{graph_ready}
use Rattle.graph_text.proofs.judge_rows.Goals as goal

pub first_offence-offence-requires-clause-ready : goal.first_offence-offence-requires-clause-ready
first_offence-offence-requires-clause-ready c =
    graph_ready (row_number c.args.check) _ _ (omega arith) c.requires.graph_ready
