-- `query::QueryEntry::cell` meets its contract. Assumes nothing.
use borrow.Author.Rules.{rules}
use Rattle.tables.specs.Read.{cell, wide_at}
use Rattle.query.proofs.held.QueryEntry.cell.Goals as goal

pub returns : goal.returns
unfolding wide_at cell
returns c = search rules
