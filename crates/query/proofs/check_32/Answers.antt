-- `query::check_32` meets its contract. One law for each answer. Assumes nothing.
use borrow.Author.Rules.{rules}
use Rattle.query.proofs.Children.{step-laws}
use Rattle.query.proofs.check_32.Goals as goal
use Rattle.query.proofs.check_32.Goals.{else-cell-eq-CONDITION-via-then-cell-eq-CONDITION+else-not-has_child, else-cell-eq-CONDITION-via-else-cell-eq-CONDITION}

pub returns-then-d-cell : goal.returns-then-d-cell
returns-then-d-cell c = search (step-laws, rules)

pub returns-then-not-has_child : goal.returns-then-not-has_child
returns-then-not-has_child c = search (step-laws, rules)

pub returns : goal.returns
returns c =
    elim c.else-cell-eq-CONDITION.branch [
      | else-cell-eq-CONDITION-via-then-cell-eq-CONDITION+else-not-has_child w ↦ search (step-laws, rules)
      | else-cell-eq-CONDITION-via-else-cell-eq-CONDITION w ↦ search (step-laws, rules)
    ]
