-- Graph areas that can be read: long enough, the counts within the maxima, no row with more than four pairs, values inside. Assumes nothing.
use Rattle.std.specs.Prelude.{ℕ, ◌+◌, ◌*◌, ◌-◌, ◌≤◌, ◌<◌, List, length}
use Rattle.tables.specs.Read.{cell, wide_at}

-- nodes and edges
pub record NodesHeld (g : List ℕ) : Type 0 where
  pub long : 15880 ≤ length g
  pub nodes : cell g 0 ≤ 512
  pub edges : cell g 1 ≤ 1024
  pub pairs : (j : ℕ) → j < cell g 1 → wide_at g 1544 j 5 ≤ 4

-- properties and their values
pub record PropertiesHeld (p v : List ℕ) : Type 0 where
  pub long : 14344 ≤ length p
  pub properties : cell p 0 ≤ 1024
  pub pairs : (j : ℕ) → j < cell p 0 → wide_at p 8 j 5 ≤ 4
  pub values : (j : ℕ) → j < cell p 0 → 8 + wide_at p 8 j 0 + (wide_at p 8 j 1 - (4 + 2 * wide_at p 8 j 5)) ≤ length v
