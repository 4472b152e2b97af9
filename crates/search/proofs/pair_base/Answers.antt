-- `search::pair_base` meets its contract. Assumes nothing.
use native.Mathlib.Omega.{arith}
use borrow.Author.Tests.{ne_eqb}
use Rattle.rules.specs.Text.{G, H}
use Rattle.search.specs.Search.{pair_base}
use Rattle.search.proofs.pair_base.Goals as goal

pub returns-in-72-clause-value : goal.returns-in-72-clause-value
unfolding pair_base
returns-in-72-clause-value c = rw c.in-72.is

pub returns-in-71-clause-value : goal.returns-in-71-clause-value
unfolding pair_base
returns-in-71-clause-value c = rw c.in-71.is

pub returns-in_default-clause-value : goal.returns-in_default-clause-value
unfolding pair_base
returns-in_default-clause-value c = rw (ne_eqb c.args.letter H (λ e. omega (arith, e)), ne_eqb c.args.letter G (λ e. omega (arith, e)))
