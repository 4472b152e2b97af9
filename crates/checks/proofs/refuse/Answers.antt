-- `checks::refuse` meets its contract: number and place 0 are handed on. Assumes nothing.
use mathlib.Core.Path.{ap}
use Rattle.rules.specs.declared.Spot.{Spot}
use Rattle.checks.specs.Verdict.{refused_by}
use Rattle.checks.proofs.refuse.Goals as goal

pub returns : goal.returns
unfolding refused_by
returns c = ap (λ (p : Spot). refused_by c.args.number p) c.nowhere-spot.ensures
