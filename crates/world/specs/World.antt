-- The World that areas hold, and what its functions are asked. Assumes nothing.
use Rattle.std.specs.Prelude.{ℕ, ◌+◌, ◌*◌, ◌-◌, ◌≤◌, ◌<◌, List, [], ◌∷◌, map, length, get_or, Bool, cond, eqb, Option, None, Some}
use Rattle.rules.specs.Lists.{those, count_up}
use Rattle.rules.specs.Query.{asked}
use Rattle.rules.specs.Text.{pairs_of}
use Rattle.rules.specs.Graph.{Label, Found, nothing, one, many}
use Rattle.rules.specs.Tree.{Asks, Entry, asks_of}
use Rattle.rules.specs.World.{World, world, Shape, scalar, list, single, query_node}
use Rattle.rules.specs.declared.FieldNo.{FieldNo}
use Rattle.rules.specs.declared.TypeNo.{TypeNo}
use Rattle.rules.specs.Eval.{next}
use Rattle.tables.specs.Read.{cell, wide_at, schema_at, starts_at, values_at, graph_at}
use Rattle.index.specs.Index.{Linked}
use Rattle.masks.specs.Masks.{Masked}
use Rattle.schema.specs.Held.{SchemaHeld}
use Rattle.graph.specs.Held.{NodesHeld, PropertiesHeld}
use Rattle.graph.specs.Faults.{nodes_at}
use Rattle.query.specs.Entries.{entry_at}
use Rattle.world.specs.declared.FieldKind.{FieldKind}
use Rattle.world.specs.declared.FieldKind.TheVariants.{Scalar, Objects, Object}

-- ---- the World

unfoldable pub world_at : List ℕ → List ℕ → List ℕ → List ℕ → World
world_at a g p v = world (schema_at a) (graph_at g p v)

-- the query node, which depends on the nodes alone
unfoldable pub root_at : List ℕ → List ℕ → ℕ
root_at a g = query_node (schema_at a) (nodes_at g)

-- Areas that evaluation can read: nodes and edges of which every edge leads to a node, with their links; a schema, with its masks;
-- properties, with their links, and their values.
pub record EdgesHeld (g x : List ℕ) : Type 0 where
  pub nodes : NodesHeld g
  pub ends : (e : ℕ) → e < cell g 1 → wide_at g 1544 e 4 < cell g 0
  pub links : Linked g 1544 (cell g 1) x 0

pub record GraphHeld (a g x : List ℕ) : Type 0 where
  pub schema : SchemaHeld a
  pub masks : Masked a
  pub edges : EdgesHeld g x

pub record WorldHeld (a g p v x : List ℕ) : Type 0 where
  pub graph : GraphHeld a g x
  pub properties : PropertiesHeld p v
  pub values : length v ≤ 8200
  pub own : Linked p 8 (cell p 0) x 1536

-- ---- what an entry of the query asks

unfoldable pub asks_at : List ℕ → ℕ → Asks
asks_at q k = asks_of (entry_at q k)

unfoldable pub asked_at : List ℕ → ℕ → Label
asked_at q k = record { field = asked (entry_at q k); args = pairs_of (entry_at q k) }

-- entry k of the query, as the tree has it
unfoldable pub entry_in : List ℕ → ℕ → Entry
entry_in q k = record { place = k; level = wide_at q 8 k 2; asks = asks_at q k }

-- the nodes at which the evaluation of entry k at node u goes on to its children: properties have no part in it
unfoldable pub next_at : List ℕ → List ℕ → List ℕ → ℕ → ℕ → List ℕ
next_at a g q k u = next (world_at a g [] []) (asks_at q k) u

-- ---- rows of a wide table that are of a node and have a label

-- A wide table that can be read: n rows from base on, none with more than four pairs.
pub record TableHeld (a : List ℕ) (base n : ℕ) : Type 0 where
  pub long : base + 14 * n ≤ length a
  pub low : base ≤ 10000
  pub few : n ≤ 1024
  pub pairs : (j : ℕ) → j < n → wide_at a base j 5 ≤ 4

-- the rows from j on, by number
unfoldable pub rows_from : List ℕ → ℕ → ℕ → ℕ → Label → ℕ → List ℕ
rows_from a base n u l j = those (starts_at a base u l) (count_up j (n - j))

-- the first of them; n where there is none
unfoldable pub row_from : List ℕ → ℕ → ℕ → ℕ → Label → ℕ → ℕ
row_from a base n u l j = get_or (rows_from a base n u l j) 0 n

-- the edges from edge j on that start at u with a label, and their targets in graph order
unfoldable pub edge_from : List ℕ → ℕ → Label → ℕ → ℕ
edge_from g u l j = row_from g 1544 (cell g 1) u l j

unfoldable pub targets_from : List ℕ → ℕ → Label → ℕ → List ℕ
targets_from g u l j = map (λ e. wide_at g 1544 e 4) (rows_from g 1544 (cell g 1) u l j)

-- ---- "A property lookup either finds one value row or answers that there is none"

unfoldable pub first_of : List ℕ → Option ℕ
first_of [] = None
first_of (j ∷ js) = Some j

unfoldable pub lookup_at : List ℕ → ℕ → Label → Option ℕ
lookup_at p u l = first_of (rows_from p 8 (cell p 0) u l 0)

-- what a row says: a single value, or a sequence
unfoldable pub found_by : List ℕ → List ℕ → Option ℕ → Found
found_by p v (Some j) = cond (eqb (wide_at p 8 j 4) 1) (many (values_at p v j)) (one (get_or (values_at p v j) 0 0))
found_by p v None = nothing

-- ---- what a field is at a node, and whether a node's type is compatible: the nodes suffice

unfoldable pub shape_by : FieldKind → Shape
shape_by Scalar = scalar
shape_by Objects = list
shape_by Object = single

unfoldable pub shape_at : List ℕ → List ℕ → ℕ → FieldNo → Shape
shape_at a g u f = (world (schema_at a) (nodes_at g)).shape u f

unfoldable pub holds_at : List ℕ → List ℕ → ℕ → TypeNo → Bool
holds_at a g u t = (world (schema_at a) (nodes_at g)).holds u t
