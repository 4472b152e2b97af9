-- `shorten::made_from` meets its contract: in each turn the pass stands where `Way` has it. Assumes nothing.
use Rattle.shorten.proofs.Walks.{At}
use Rattle.shorten.proofs.made_from.Given as goal

abbrev pub invariant-loop-token : goal.invariant-loop-token
invariant-loop-token l = At l.full l.shortened l.saved l.stand l.token-index
