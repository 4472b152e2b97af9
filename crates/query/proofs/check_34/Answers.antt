-- `query::check_34` meets its contract. One law for each answer. Assumes nothing.
use borrow.Author.Rules.{rules}
use Rattle.query.proofs.Verdicts.{laws34}
use Rattle.query.proofs.check_34.Goals as goal
use Rattle.query.proofs.check_34.Goals.{else-l-eq-CONDITION-via-then-l-eq-CONDITION+else-is_scalar, else-l-eq-CONDITION-via-else-l-eq-CONDITION}

pub returns-then-is_scalar : goal.returns-then-is_scalar
returns-then-is_scalar c = search (laws34, rules)

pub returns : goal.returns
returns c =
    elim c.else-l-eq-CONDITION.branch [
      | else-l-eq-CONDITION-via-then-l-eq-CONDITION+else-is_scalar w ↦ search (laws34, rules)
      | else-l-eq-CONDITION-via-else-l-eq-CONDITION w ↦ search (laws34, rules)
    ]
