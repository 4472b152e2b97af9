-- `search::next_pair` meets its contract: the chain by the letter. Assumes nothing.
use native.Mathlib.Omega.{arith}
use borrow.Author.Tests.{ne_eqb}
use Rattle.rules.specs.Text.{G, H}
use Rattle.tables.specs.Read.{cell}
use Rattle.index.specs.Index.{next_in}
use Rattle.search.specs.Search.{pair_next, pair_rows, pair_links}
use Rattle.search.proofs.next_pair.Goals as goal

pub returns-in-72 : goal.returns-in-72
unfolding cell next_in pair_next pair_rows pair_links
returns-in-72 c = rw c.in-72.is c.next_row.ensures

pub returns-in-71 : goal.returns-in-71
unfolding cell next_in pair_next pair_rows pair_links
returns-in-71 c = rw c.in-71.is c.next_row-in-71.ensures

pub returns-in_default : goal.returns-in_default
unfolding cell next_in pair_next pair_rows pair_links
returns-in_default c =
    rw (ne_eqb c.args.letter H (λ e. omega (arith, e)), ne_eqb c.args.letter G (λ e. omega (arith, e))) c.next_row-in_default.ensures
