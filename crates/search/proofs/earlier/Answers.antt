-- `search::earlier` meets its contract, by the check and the letter. Assumes nothing.
use native.Mathlib.Omega.{arith}
use borrow.Author.Tests.{ne_eqb}
use Rattle.rules.specs.Text.{E, P}
use Rattle.search.specs.Search.{areas, plain_check, limit}
use Rattle.search.proofs.Numbers.{other_number}
use Rattle.search.proofs.earlier.Goals as goal
use Rattle.search.proofs.earlier.Goals.{then-r-ne69-via-then-r-ne69, then-r-ne69-via-else-r-ne69+then-is_list}

pub is_list-requires : goal.is_list-requires
unfolding areas plain_check
is_list-requires c =
    record {
      schema_held = c.requires.schema (rw c.in-SecondTarget.is);
      nodes_held = (c.requires.graph (rw c.in-SecondTarget.is) (rw c.in-SecondTarget.is)).nodes;
    }

pub returns-in-PairTwice : goal.returns-in-PairTwice
unfolding limit
returns-in-PairTwice c = rw c.in-PairTwice.is c.earlier_pairs.ensures

pub returns-then-r-ne69 : goal.returns-then-r-ne69
unfolding limit areas
returns-then-r-ne69 c =
    elim c.then-r-ne69.branch [
      | then-r-ne69-via-then-r-ne69 w ↦ rw (c.in-SecondTarget.is, ne_eqb c.args.r.letter E w.if-r-ne69.true)
      | then-r-ne69-via-else-r-ne69+then-is_list w ↦ rw (c.in-SecondTarget.is, w.if-r-ne69.false, ← w.is_list.ensures, w.if-is_list.true)
    ]

pub returns-else-is_list : goal.returns-else-is_list
unfolding limit areas
returns-else-is_list c = rw (c.in-SecondTarget.is, c.if-r-ne69.false, ← c.is_list.ensures, c.if-is_list.false)

pub returns-in-69 : goal.returns-in-69
unfolding limit
returns-in-69 c = rw (c.in-Twin.is, c.in-69.is)

pub returns-in-80 : goal.returns-in-80
unfolding limit
returns-in-80 c = rw (c.in-Twin.is, c.in-80.is)

pub returns-in_default-letter : goal.returns-in_default-letter
unfolding limit
returns-in_default-letter c = rw (c.in-Twin.is, ne_eqb c.args.r.letter E (λ e. omega (arith, e)), ne_eqb c.args.r.letter P (λ e. omega (arith, e)))

pub returns-in_default : goal.returns-in_default
unfolding limit
returns-in_default c =
    rw (
      ne_eqb _ 13 (other_number c.in_default.not-PairTwice),
      ne_eqb _ 25 (other_number c.in_default.not-SecondTarget),
      ne_eqb _ 26 (other_number c.in_default.not-Twin),
    )
