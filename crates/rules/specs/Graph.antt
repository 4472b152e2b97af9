-- What a graph says (Definition 2), what its rows say, and checks 21 to 27. Assumes nothing.
use Rattle.std.specs.Prelude.{ℕ, ◌+◌, ◌*◌, Bool, true, false, ◌&&◌, ◌||◌, not, List, [], ◌∷◌, ◌++◌, map, ltb, eqb, length, get_or, Option}
use Rattle.rules.specs.Lists.{those, any, sum_of, count_up}
use Rattle.rules.specs.Text.{Row, at, E, N, P, Pair, pairs_of, values_of, field_no, type_no}
use Rattle.rules.specs.Search.{◌#◌, test_each, given, Check, whole}
use Rattle.rules.specs.Schema.{Schema, is, nth, at_most, declared_field, declared_arg, field_type, list_mark, is_list, arg_type, has_field, takes_arg, compatible, query_type, is_scalar, is_object, in_range}
use Rattle.rules.specs.declared.FieldNo.{FieldNo}
use Rattle.rules.specs.declared.TypeNo.{TypeNo}
use Rattle.rules.specs.declared.Spot.{Spot}

-- ---- labels: "Two labels are equal when field and pairs are equal"

-- A label f[α]: a field and its argument pairs.
pub record Label : Type 0 where
  pub field : FieldNo
  pub args : List Pair

abbrev pub same_pairs : List Pair → List Pair → Bool
same_pairs [] [] = true
same_pairs [] (q ∷ qs) = false
same_pairs (p ∷ ps) [] = false
same_pairs (p ∷ ps) (q ∷ qs) = eqb p.arg.0 q.arg.0 && (eqb p.value q.value && same_pairs ps qs)

abbrev pub same_label : Label → Label → Bool
same_label a b = eqb a.field.0 b.field.0 && same_pairs a.args b.args

-- ---- what a graph says

-- "A property lookup either finds one value row or answers that there is none": a single value, or a sequence.
pub data Found : Type 0 where
  nothing : Found
  one : ℕ → Found
  many : List ℕ → Found

-- Definition 2's N, τ, λ and E, asked by number: how many nodes there are, a node's type, λ at a node and a label, and the targets
-- of the edges from a node with a label in graph order. The checks and the evaluation ask nothing else of a graph.
pub record Graph : Type 0 where
  pub size : ℕ
  pub type_of : ℕ → TypeNo
  pub lookup : ℕ → Label → Found
  pub targets : ℕ → Label → List ℕ

abbrev pub declared_node : Graph → ℕ → Bool
declared_node g u = ltb u g.size

abbrev pub type_of : Graph → ℕ → TypeNo
type_of g u = g.type_of u

-- the nodes of a type, in their order
abbrev pub nodes_of : Graph → TypeNo → List ℕ
nodes_of g t = those (λ u. eqb (type_of g u).0 t.0) (count_up 0 g.size)

-- ---- what rows say

-- "`E` from field to n pairs" and "`P` node field list n pairs values"
abbrev pub source : Row → ℕ
source r = at r 0

abbrev pub field_of : Row → FieldNo
field_of r = field_no (at r 1)

abbrev pub target : Row → ℕ
target r = at r 2

abbrev pub label_of : Row → Label
label_of r = record { field = field_of r; args = pairs_of r }

-- a row of node u with the label l
abbrev pub starts : ℕ → Label → Row → Bool
starts u l r = eqb (source r) u && same_label (label_of r) l

abbrev pub edge_of : ℕ → Label → Row → Bool
edge_of u l r = is E r && starts u l r

abbrev pub property_of : ℕ → Label → Row → Bool
property_of u l r = is P r && starts u l r

abbrev pub found_in : List Row → Found
found_in [] = nothing
found_in (p ∷ ps) = elim (eqb (at p 2) 1) [ true ↦ many (values_of p) | false ↦ one (get_or (values_of p) 0 0) ]

abbrev pub graph_of : List Row → Graph
graph_of g =
    record {
      size = length (those (is N) g);
      type_of = λ u. type_no (at (nth (is N) g u) 0);
      lookup = λ u l. found_in (those (property_of u l) g);
      targets = λ u l. map target (those (edge_of u l) g);
    }

-- an edge or a property
abbrev pub is_datum : Row → Bool
is_datum r = is E r || is P r

-- the type of the field that an edge or a property has at its node
abbrev pub type_at : Schema → Graph → Row → TypeNo
type_at s g r = field_type s (type_of g (source r)) (field_of r)

-- ---- the checks

-- 21: "nodes 512, edges 1,024, properties 1,024, property values 8,192 in all"
abbrev pub check21 : Check Row
check21 before r after =
    at_most 512 (is N) before r
    ∷ at_most 1024 (is E) before r
    ∷ at_most 1024 (is P) before r
    ∷ given (is P r) ((0 # ltb 8192 (length (values_of r) + sum_of (λ p. length (values_of p)) (those (is P) before))) ∷ [])
    ∷ []

-- 22: "number not declared; `N` not of an object type"
abbrev pub check22 : Schema → Graph → Check Row
check22 s g before r after =
    given (is N r) ((2 # not (is_object s (type_no (at r 0)))) ∷ [])
    ∷ given (is_datum r)
    ((2 # not (declared_node g (source r)))
    ∷ (3 # not (declared_field s (field_of r)))
    ∷ test_each (λ p. not (declared_arg s p.arg)) 2 6 (pairs_of r))
    ∷ given (is E r) ((4 # not (declared_node g (target r))) ∷ [])
    ∷ []

-- 23: "field not of the node's type; argument not of the field; argument value out of its scalar's range"
abbrev pub check23 : Schema → Graph → Check Row
check23 s g before r after =
    given (is_datum r)
    ((3 # not (has_field s (type_of g (source r)) (field_of r)))
    ∷ test_each (λ p. not (takes_arg s (field_of r) p.arg)) 2 6 (pairs_of r)
    ++ test_each (λ p. not (in_range s (arg_type s p.arg) p.value)) 2 7 (pairs_of r))
    ∷ []

-- 24: "edge: field's type is scalar, or target's type not compatible; property: field's type not scalar, list mark differs,
-- value out of range"
abbrev pub check24 : Schema → Graph → Check Row
check24 s g before r after =
    given (is E r) ((3 # is_scalar s (type_at s g r)) ∷ (4 # not (compatible s (type_of g (target r)) (type_at s g r))) ∷ [])
    ∷ given (is P r)
    ((3 # not (is_scalar s (type_at s g r)))
    ∷ (4 # not (eqb (at r 2) (list_mark s (type_of g (source r)) (field_of r))))
    ∷ test_each (λ x. not (in_range s (type_at s g r) x)) 1 (6 + 2 * at r 3) (values_of r))
    ∷ []

-- 25: "field not a list, and an earlier edge from the same node with that field has another target"
abbrev pub diverts : Row → Row → Bool
diverts r e = is E e && (eqb (source e) (source r) && (eqb (field_of e).0 (field_of r).0 && not (eqb (target e) (target r))))

abbrev pub check25 : Schema → Graph → Check Row
check25 s g before r after =
    given (is E r && not (is_list s (type_of g (source r)) (field_of r))) ((0 # any (diverts r) before) ∷ []) ∷ []

-- 26: "edge with equal node, label and target, or property with equal node and label, stands earlier"
abbrev pub check26 : Check Row
check26 before r after =
    given (is E r) ((0 # any (λ e. edge_of (source r) (label_of r) e && eqb (target e) (target r)) before) ∷ [])
    ∷ given (is P r) ((0 # any (property_of (source r) (label_of r)) before) ∷ [])
    ∷ []

-- 27: "not exactly one node of the query type"
abbrev pub check27 : Schema → Graph → Option Spot
check27 s g = whole (not (eqb (length (nodes_of g (query_type s))) 1))
