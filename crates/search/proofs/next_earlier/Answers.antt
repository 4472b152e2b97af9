-- `search::next_earlier` meets its contract: of 13 along the chain of a pair, of the others as `next_datum` has it. Assumes nothing.
use borrow.Author.Tests.{ne_eqb}
use Rattle.search.specs.Search.{next_asked}
use Rattle.search.proofs.Numbers.{other_number}
use Rattle.search.proofs.next_earlier.Goals as goal

pub returns-in-PairTwice : goal.returns-in-PairTwice
unfolding next_asked
returns-in-PairTwice c = rw c.in-PairTwice.is c.next_pair.ensures

pub returns-in_default : goal.returns-in_default
unfolding next_asked
returns-in_default c = rw (ne_eqb _ 13 (other_number c.in_default.not-PairTwice)) c.next_datum.ensures
