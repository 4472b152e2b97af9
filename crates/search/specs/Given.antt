-- What the areas that the search is given hold of a schema and a graph. Assumes nothing.
use Rattle.search.specs.Search.{Areas, areas}
use Rattle.search.specs.declared.areas.Areas.{Areas as Given}

abbrev pub areas_in : Given → Areas
areas_in x = areas x.schema.now x.nodes.now x.properties.now x.values.now
