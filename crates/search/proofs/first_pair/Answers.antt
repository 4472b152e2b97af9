-- `search::first_pair` meets its contract: the chain by the letter. Assumes nothing.
use native.Mathlib.Omega.{arith}
use borrow.Author.Tests.{ne_eqb}
use Rattle.rules.specs.Text.{G, H}
use Rattle.tables.specs.Read.{cell}
use Rattle.index.specs.Index.{head_in}
use Rattle.search.specs.Search.{pair_first, pair_rows, pair_links}
use Rattle.search.proofs.first_pair.Goals as goal

pub returns-in-72 : goal.returns-in-72
unfolding cell head_in pair_first pair_rows pair_links
returns-in-72 c = rw c.in-72.is c.first_row.ensures

pub returns-in-71 : goal.returns-in-71
unfolding cell head_in pair_first pair_rows pair_links
returns-in-71 c = rw c.in-71.is c.first_row-in-71.ensures

pub returns-in_default : goal.returns-in_default
unfolding cell head_in pair_first pair_rows pair_links
returns-in_default c =
    rw (ne_eqb c.args.letter H (λ e. omega (arith, e)), ne_eqb c.args.letter G (λ e. omega (arith, e))) c.first_row-in_default.ensures
