-- `world::value_count` meets its contract. Assumes nothing.
use mathlib.Core.Path.{◌∙◌}
use Rattle.world.proofs.Reading.{values-some}
use Rattle.world.proofs.value_count.Goals as goal

pub returns : goal.returns
returns c =
    c.saturating_sub.ensures
    ∙ values-some _ _ _ c.args.p.now.held c.args.p.now.inside _ _ c.wide_at-all.ensures c.wide_at.ensures
