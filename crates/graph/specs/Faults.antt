-- What checks 22 to 26 say of one row, by the schema and the nodes that areas hold. Assumes nothing.
use Rattle.std.specs.Prelude.{ℕ, ◌+◌, ◌*◌, List, [], ◌∷◌, ◌++◌, Bool, ◌&&◌, not, drop, get_or, eqb, Option}
use Rattle.rules.specs.Text.{Row, pairs, field_no, type_no}
use Rattle.rules.specs.Search.{◌#◌, test_each, fault_of, fault}
use Rattle.rules.specs.Schema.{is_scalar, in_range, declared_arg, takes_arg, arg_type}
use Rattle.rules.specs.Graph.{Label, nothing, Graph, check22, check23, check24, type_at}
use Rattle.rules.specs.declared.FieldNo.{FieldNo}
use Rattle.rules.specs.declared.TypeNo.{TypeNo}
use Rattle.tables.specs.Read.{cell, narrow_at, schema_at, wide_at, starts_at}
use Rattle.graph.specs.declared.label.Named.{Named}

-- the nodes alone, which is all that these checks ask of a graph
unfoldable pub nodes_at : List ℕ → Graph
nodes_at g = record { size = cell g 0; type_of = λ u. type_no (narrow_at g 0 8 u 1); lookup = λ u l. nothing; targets = λ u l. [] }

-- a row by its letter and its first twelve numbers
unfoldable pub row_for : ℕ → List ℕ → Row
row_for l nums = record { letter = l; numbers = nums }

-- a label as the code copies it: the field, how many pairs, and room for four
unfoldable pub label_is : Named → Label
label_is x = record { field = x.field; args = pairs x.n x.pairs }

unfoldable pub label_for : List ℕ → Label
label_for nums = record { field = field_no (get_or nums 1 0); args = pairs (get_or nums 3 0) (drop 4 nums) }

-- the tests of a row's pairs (22, 23), and those of values, the first in field `from` (24)
unfoldable pub undeclared : List ℕ → List ℕ → Option ℕ
undeclared a nums = fault_of (test_each (λ p. not (declared_arg (schema_at a) p.arg)) 2 6 (label_for nums).args)

unfoldable pub untaken : List ℕ → FieldNo → List ℕ → Option ℕ
untaken a f nums =
    fault_of
    (test_each (λ p. not (takes_arg (schema_at a) f p.arg)) 2 6 (label_for nums).args
    ++ test_each (λ p. not (in_range (schema_at a) (arg_type (schema_at a) p.arg) p.value)) 2 7 (label_for nums).args)

unfoldable pub outside : List ℕ → TypeNo → ℕ → List ℕ → Option ℕ
outside a t from xs = fault_of (test_each (λ x. not (in_range (schema_at a) t x)) 1 from xs)

unfoldable pub fault22 : List ℕ → List ℕ → ℕ → List ℕ → Option ℕ
fault22 a g l nums = fault (check22 (schema_at a) (nodes_at g) [] (row_for l nums) [])

unfoldable pub fault23 : List ℕ → List ℕ → ℕ → List ℕ → Option ℕ
fault23 a g l nums = fault (check23 (schema_at a) (nodes_at g) [] (row_for l nums) [])

-- 24 of an edge; 24 of a property, whose values xs stand behind its pairs
unfoldable pub fault24_e : List ℕ → List ℕ → List ℕ → Option ℕ
fault24_e a g nums = fault (check24 (schema_at a) (nodes_at g) [] (row_for 69 nums) [])

unfoldable pub fault24_p : List ℕ → List ℕ → List ℕ → List ℕ → Option ℕ
fault24_p a g nums xs =
    let t = type_at (schema_at a) (nodes_at g) (row_for 80 nums) in
    fault_of
    ((3 # not (is_scalar (schema_at a) t))
    ∷ (4 # not (eqb (get_or nums 2 0) ((schema_at a).list_mark (type_no (narrow_at g 0 8 (get_or nums 0 0) 1)) (field_no (get_or nums 1 0)))))
    ∷ test_each (λ x. not (in_range (schema_at a) t x)) 1 (6 + 2 * get_or nums 3 0) xs)

-- edge j is of the node and the field of a row and leads to another target (25)
unfoldable pub diverts_at : List ℕ → List ℕ → ℕ → Bool
diverts_at g nums j =
    eqb (wide_at g 1544 j 2) (get_or nums 0 0)
    && (eqb (wide_at g 1544 j 3) (get_or nums 1 0) && not (eqb (wide_at g 1544 j 4) (get_or nums 2 0)))

-- edge j has the node, the label and the target of a row; property j has the node and the label of a row (26)
unfoldable pub twin_edge : List ℕ → List ℕ → ℕ → Bool
twin_edge g nums j = starts_at g 1544 (get_or nums 0 0) (label_for nums) j && eqb (wide_at g 1544 j 4) (get_or nums 2 0)

unfoldable pub twin_property : List ℕ → List ℕ → ℕ → Bool
twin_property p nums j = starts_at p 8 (get_or nums 0 0) (label_for nums) j
