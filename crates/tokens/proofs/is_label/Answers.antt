-- `tokens::is_label` meets its contract: by what the range contains. Assumes nothing.
use Rattle.std.proofs.Common.{rules, tests}
use Rattle.tokens.specs.Check.{is_label}
use Rattle.tokens.proofs.is_label.Goals as goal

pub returns : goal.returns
unfolding is_label
returns c = search (tests, rules)
