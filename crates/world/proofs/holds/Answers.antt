-- `world::holds` meets its contract. Assumes nothing.
use Rattle.world.proofs.Reading.{holds_asked}
use Rattle.world.proofs.holds.Goals as goal

pub returns : goal.returns
returns c = holds_asked _ _ _ _ c.type_of.ensures _ _ c.is_compatible.ensures
