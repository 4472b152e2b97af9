-- `sizing::Tally::add` meets its contract: the product fits, and the sum of capped numbers, capped, is the capped sum. Assumes nothing.
use Rattle.sizing.proofs.Tallying.{added}
use Rattle.sizing.proofs.Tally.add.Goals as goal

pub returns : goal.returns
returns c = added _ _ _ _ _ c.cap.ensures c.cap-2.ensures
