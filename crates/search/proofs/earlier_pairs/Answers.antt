-- `search::earlier_pairs` meets its contract. Assumes nothing.
use native.Mathlib.Omega.{arith}
use borrow.Author.Tests.{ne_eqb}
use Rattle.rules.specs.Text.{G, H, M}
use Rattle.search.specs.Search.{pair_count}
use Rattle.search.proofs.earlier_pairs.Goals as goal

pub returns-in-72 : goal.returns-in-72
unfolding pair_count
returns-in-72 c = rw c.in-72.is

pub returns-in-71 : goal.returns-in-71
unfolding pair_count
returns-in-71 c = rw c.in-71.is

pub returns-in-77 : goal.returns-in-77
unfolding pair_count
returns-in-77 c = rw c.in-77.is

pub returns-in_default : goal.returns-in_default
unfolding pair_count
returns-in_default c =
    rw (
      ne_eqb c.args.letter H (λ e. omega (arith, e)),
      ne_eqb c.args.letter G (λ e. omega (arith, e)),
      ne_eqb c.args.letter M (λ e. omega (arith, e)),
    )
