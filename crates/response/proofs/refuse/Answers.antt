-- `response::refuse` meets its contract: the outcome is what the definition says. Assumes nothing.
use Rattle.response.specs.Calls.{refused_by}
use Rattle.response.proofs.refuse.Goals as goal

pub returns : goal.returns
unfolding refused_by
returns c = c.from.ensures
