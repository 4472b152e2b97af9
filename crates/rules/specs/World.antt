-- What evaluation asks of a schema and a graph. Assumes nothing.
use Rattle.std.specs.Prelude.{ℕ, Bool, true, false, List, get_or}
use Rattle.rules.specs.Schema.{Schema, field_type, is_list, is_scalar, compatible, query_type}
use Rattle.rules.specs.Graph.{Label, Found, Graph, type_of, nodes_of}
use Rattle.rules.specs.declared.FieldNo.{FieldNo}
use Rattle.rules.specs.declared.TypeNo.{TypeNo}

-- What a field is: of scalar type, a list of objects, or one object.
pub data Shape : Type 0 where
  scalar list single : Shape

-- Definition 6 asks: how many nodes there are, what a field is at a node, λ at a node and a label, the targets of the edges from
-- a node with a label in graph order, and whether a node's type is compatible with a type.
pub record World : Type 0 where
  pub size : ℕ
  pub shape : ℕ → FieldNo → Shape
  pub lookup : ℕ → Label → Found
  pub targets : ℕ → Label → List ℕ
  pub holds : ℕ → TypeNo → Bool

abbrev pub shape_if : Bool → Bool → Shape
shape_if true plural = scalar
shape_if false true = list
shape_if false false = single

abbrev pub world : Schema → Graph → World
world s g =
    record {
      size = g.size;
      shape = λ u f. shape_if (is_scalar s (field_type s (type_of g u) f)) (is_list s (type_of g u) f);
      lookup = g.lookup;
      targets = g.targets;
      holds = λ u t. compatible s (type_of g u) t;
    }

-- The query node: "the single node in G such that τ(u) = q_S", the first of the query type.
abbrev pub query_node : Schema → Graph → ℕ
query_node s g = get_or (nodes_of g (query_type s)) 0 g.size
