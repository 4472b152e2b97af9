-- `query::hands_down` meets its contract. One law for each kind of entry. Assumes nothing.
use borrow.Author.Rules.{rules}
use Rattle.query.proofs.Children.{hand-laws}
use Rattle.query.proofs.hands_down.Goals as goal

pub returns-then-cell-eq-FIELD : goal.returns-then-cell-eq-FIELD
returns-then-cell-eq-FIELD c = search (hand-laws, rules)

pub returns : goal.returns
returns c = search (hand-laws, rules)
