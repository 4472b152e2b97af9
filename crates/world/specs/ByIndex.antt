-- The World asked through the index. No code's contract cites it: it is here to say that the index changes no answer. Assumes nothing.
use Rattle.std.specs.Prelude.{ℕ, ◌+◌, List, map, cond, ltb}
use Rattle.rules.specs.Lists.{those}
use Rattle.rules.specs.Graph.{Label, same_label, Found}
use Rattle.rules.specs.World.{World}
use Rattle.tables.specs.Read.{cell, wide_at, label_at, found_at}
use Rattle.index.specs.Index.{led_to, chain}
use Rattle.world.specs.World.{world_at}

-- the rows of node u in a table of n rows, by the links from `at` on: along the node's chain, none of a number that is no node's
unfoldable pub chain_of : List ℕ → ℕ → ℕ → ℕ → List ℕ
chain_of x at n u = chain x at n n (cond (ltb u 512) (led_to n (cell x (at + u))) n)

-- those of them that have a label
unfoldable pub rows_by : List ℕ → ℕ → ℕ → List ℕ → ℕ → ℕ → Label → List ℕ
rows_by a base n x at u l = those (λ j. same_label (label_at a base j) l) (chain_of x at n u)

-- the targets of the edges from node u with a label, along the chain of its edges
unfoldable pub targets_by : List ℕ → List ℕ → ℕ → Label → List ℕ
targets_by g x u l = map (λ e. wide_at g 1544 e 4) (rows_by g 1544 (cell g 1) x 0 u l)

-- λ at node u and a label, along the chain of its properties
unfoldable pub lookup_by : List ℕ → List ℕ → List ℕ → ℕ → Label → Found
lookup_by p v x u l = found_at p v (rows_by p 8 (cell p 0) x 1536 u l)

-- the World of which targets and properties are asked through the index
unfoldable pub world_by : List ℕ → List ℕ → List ℕ → List ℕ → List ℕ → World
world_by a g p v x =
    let w = world_at a g p v in
    record { size = w.size; shape = w.shape; lookup = λ u l. lookup_by p v x u l; targets = λ u l. targets_by g x u l; holds = w.holds }
