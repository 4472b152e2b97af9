-- `query::check_33` meets its contract. One law for each answer. Assumes nothing.
use borrow.Author.Rules.{rules}
use Rattle.query.proofs.Verdicts.{laws33}
use Rattle.query.proofs.check_33.Goals as goal

pub returns-then-is_declared : goal.returns-then-is_declared
returns-then-is_declared c = search (laws33, rules)

pub returns-then-l-eq-CONDITION : goal.returns-then-l-eq-CONDITION
returns-then-l-eq-CONDITION c = search (laws33, rules)

pub returns-then-l-ne-FIELD : goal.returns-then-l-ne-FIELD
returns-then-l-ne-FIELD c = search (laws33, rules)

pub returns-then-cell-gt255 : goal.returns-then-cell-gt255
returns-then-cell-gt255 c = search (laws33, rules)

pub returns-then-not-declared_field : goal.returns-then-not-declared_field
returns-then-not-declared_field c = search (laws33, rules)

pub returns : goal.returns
returns c = search (laws33, rules)
