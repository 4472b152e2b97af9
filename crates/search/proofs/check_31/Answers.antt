-- `search::check_31` meets its contract. One law for each answer. Assumes nothing.
use Rattle.search.proofs.Plainly.{deep, many, few}
use borrow.Author.Rules.{rules}
use Rattle.search.proofs.check_31.Goals as goal

pub returns-then-depth-gt15 : goal.returns-then-depth-gt15
returns-then-depth-gt15 c = search (deep, rules)

pub returns-then-c-ge256 : goal.returns-then-c-ge256
returns-then-c-ge256 c = search (many, rules)

pub returns : goal.returns
returns c = search (few, rules)
