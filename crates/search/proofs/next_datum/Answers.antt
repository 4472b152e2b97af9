-- `search::next_datum` meets its contract: along the chain of the line's node, by the letter, or all in turn. Assumes nothing.
use native.Mathlib.Omega.{arith}
use borrow.Author.Tests.{ne_eqb}
use Rattle.rules.specs.Text.{E}
use Rattle.tables.specs.Read.{cell}
use Rattle.index.specs.Index.{next_in}
use Rattle.search.specs.Search.{step_of}
use Rattle.search.proofs.next_datum.Goals as goal

pub returns-then-not-by_index : goal.returns-then-not-by_index
unfolding step_of
returns-then-not-by_index c = rw (← c.by_index.ensures, c.if-not-by_index.true)

pub returns-in-69 : goal.returns-in-69
unfolding cell next_in step_of
returns-in-69 c = rw (← c.by_index.ensures, c.if-not-by_index.false, c.in-69.is) c.next_row.ensures

pub returns-in_default : goal.returns-in_default
unfolding cell next_in step_of
returns-in_default c =
    rw (← c.by_index.ensures, c.if-not-by_index.false, ne_eqb c.args.r.letter E (λ e. omega (arith, e))) c.next_row-in_default.ensures
