-- The World that the areas of evaluation tell of. Assumes nothing.
use Rattle.rules.specs.World.{World}
use Rattle.world.specs.World.{world_at}
use Rattle.world.specs.declared.held.WorldTables.{WorldTables}

abbrev pub world_in : WorldTables → World
world_in w = world_at w.schema.now w.nodes.now w.properties.now w.values.now
