-- Proposition 1 of 000: the size of a query and of a graph, which 000 names and does not define. Assumes nothing.
use Rattle.std.specs.Prelude.{ℕ, ◌+◌, List, length}
use Rattle.rules.specs.Lists.{those, sum_of}
use Rattle.rules.specs.Text.{Row, E, N, P, values_of}
use Rattle.rules.specs.Schema.{is}
use Rattle.rules.specs.Tree.{Forest, none, node}

-- ‖φ‖: how many entries a query has
abbrev pub query_size : Forest → ℕ
query_size none = 0
query_size (node e kids rest) = 1 + query_size kids + query_size rest

-- |G|: how many nodes, edges and property values the rows of a graph give
abbrev pub graph_size : List Row → ℕ
graph_size g = length (those (is N) g) + length (those (is E) g) + sum_of (λ p. length (values_of p)) (those (is P) g)
