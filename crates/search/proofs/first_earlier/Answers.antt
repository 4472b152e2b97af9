-- `search::first_earlier` meets its contract: of 13 along the chain of a pair, of the others as `first_datum` has it. Assumes nothing.
use borrow.Author.Tests.{ne_eqb}
use Rattle.search.specs.Search.{first_asked}
use Rattle.search.proofs.Numbers.{other_number}
use Rattle.search.proofs.first_earlier.Goals as goal

pub returns-in-PairTwice : goal.returns-in-PairTwice
unfolding first_asked
returns-in-PairTwice c = rw c.in-PairTwice.is c.first_pair.ensures

pub returns-in_default : goal.returns-in_default
unfolding first_asked
returns-in_default c = rw (ne_eqb _ 13 (other_number c.in_default.not-PairTwice)) c.first_datum.ensures
