-- Proposition 1 of 000: the graph of its proof and the queries φ_n. Assumes nothing.
use Rattle.std.specs.Prelude.{ℕ, zero, suc, List, []}
use Rattle.rules.specs.Text.{rows, field_no}
use Rattle.rules.specs.Schema.{schema_of}
use Rattle.rules.specs.Graph.{graph_of}
use Rattle.rules.specs.Tree.{field, Forest, none, node}
use Rattle.rules.specs.World.{World, world, query_node}
use Rattle.rules.specs.Samples.{text}
use Rattle.rules.specs.Eval.{eval}

-- "a schema with an object type Person with fields name and knows such that name is a scalar, and knows is a list in which every
-- element is of type Person. Additionally, the query type q_S has a single field query of type Person."
abbrev pub query : ℕ
query = 0

abbrev pub knows : ℕ
knows = 1

abbrev pub name : ℕ
name = 2

abbrev pub schema : List ℕ
schema = text "S 0 999/O/O/F 2 0/F 2 1/F 0 0/H 1 0/H 2 1/H 2 2/Q 1/"

-- "V = {u, v, w, x}, E = {(u, query, v), (v, knows, w), (v, knows, x), (w, knows, v), (x, knows, v)}, .. λ(v, name) = Alice"
abbrev pub alice : ℕ
alice = 7

abbrev pub graph : List ℕ
graph = text "N 1/N 2/N 2/N 2/E 0 0 1 0/E 1 1 2 0/E 1 1 3 0/E 2 1 1 0/E 3 1 1 0/P 1 2 0 0 7/"

abbrev pub people : World
people = world (schema_of (rows schema)) (graph_of (rows graph))

-- a field without arguments, over a selection; the response depends on no place and no level
abbrev pub asking : ℕ → Forest → Forest
asking f kids = node (record { place = 0; level = 0; asks = field f (record { field = field_no f; args = [] }) }) kids none

-- "α_1 = name, and α_i = knows{knows{α_{i-1}}} (for every i > 1)": here alpha n is α_{n+1}, and phi n is φ_{n+1} = query{α_{n+1}}
abbrev pub alpha : ℕ → Forest
alpha zero = asking name none
alpha (suc n) = asking knows (asking knows (alpha n))

abbrev pub phi : ℕ → Forest
phi n = asking query (alpha n)

-- ⟦φ_{n+1}⟧ from the query node u
abbrev pub doubled : ℕ → List ℕ
doubled n = eval people (phi n) (query_node (schema_of (rows schema)) (graph_of (rows graph)))
