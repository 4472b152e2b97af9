-- The field at fault, by examples worked out by hand. The base shows only the line. Assumes nothing.
use Rattle.std.specs.Prelude.{ℕ, Bool, false, ◌&&◌, List, [], ◌∷◌, eqb}
use Prim.Native.String.{String, ◌++◌ as ◌++ˢ◌}
use Rattle.rules.specs.Samples.{text, schema, graph}
use Rattle.rules.specs.Answer.{Texts, checks, verdict}

-- Three texts, and the number, line and field that refuse them.
pub record Fault : Type 0 where
  pub texts : Texts
  pub number : ℕ
  pub line : ℕ
  pub field : ℕ

abbrev pub in_schema : String → ℕ → ℕ → ℕ → Fault
in_schema s n l f = record { texts = record { schema = text s; graph = []; query = [] }; number = n; line = l; field = f }

-- the sample's schema with two arguments, 0 of field 2 and 1 of none
abbrev pub wider : String
wider = schema ++ˢ "A 0/A 0/G 2 0/"

abbrev pub in_graph : String → ℕ → ℕ → ℕ → Fault
in_graph g n l f = record { texts = record { schema = text wider; graph = text g; query = [] }; number = n; line = l; field = f }

abbrev pub in_query : String → ℕ → ℕ → ℕ → Fault
in_query q n l f = record { texts = record { schema = text wider; graph = text graph; query = text q }; number = n; line = l; field = f }

abbrev pub is_at : Fault → Bool
is_at c =
    verdict (λ n p. eqb n c.number && (eqb p.line c.line && eqb p.field c.field)) (eqb 0 c.number) (checks false c.texts)

abbrev pub spots : List Fault
spots =
    -- an empty line, an unknown letter, two letters, an empty first field, an extra and a missing field, no newline
    in_schema "O//" 10 2 0
    ∷ in_schema "O/X 1/" 10 2 1
    ∷ in_schema "OO/" 10 1 1
    ∷ in_schema " 1/" 10 1 1
    ∷ in_schema "O 1/" 10 1 0
    ∷ in_schema "S 1/" 10 1 0
    ∷ in_schema "O/O" 10 2 0
    -- no number, a needless leading zero, ten digits, a list mark, and the smallest of two
    ∷ in_schema "S 0 x/" 10 1 3
    ∷ in_schema "S 00 9/" 10 1 2
    ∷ in_schema "S 0 1000000000/" 10 1 3
    ∷ in_schema "F 0 2/" 10 1 3
    ∷ in_schema "F x 2/" 10 1 2
    -- low above high; a type that is not declared, a field that is not
    ∷ in_schema "S 5 2/" 12 1 3
    ∷ in_schema "F 7 0/" 12 1 2
    ∷ in_schema "O/H 0 0/" 12 2 3
    ∷ in_schema "O/O/F 0 0/H 0 0/H 0 0/" 13 5 0
    -- n above 4, arguments that do not rise, a list-0 property without value, a list mark
    ∷ in_graph "N 1/E 0 0 0 5/" 20 2 5
    ∷ in_graph "N 2/P 0 2 1 2 1 9 1 9/" 20 2 8
    ∷ in_graph "N 2/P 0 1 0 0/" 20 2 0
    ∷ in_graph "N 2/P 0 1 2 0 5/" 20 2 4
    -- a node, a field, a target, an argument that is not declared
    ∷ in_graph "N 2/P 9 1 0 0 5/" 22 2 2
    ∷ in_graph "N 2/P 0 9 0 0 5/" 22 2 3
    ∷ in_graph "N 1/E 0 0 7 0/" 22 2 4
    ∷ in_graph "N 2/P 0 2 1 2 0 9 7 9/" 22 2 8
    -- a field of another type, an argument of no field, its value out of range
    ∷ in_graph "N 2/P 0 3 0 0 5/" 23 2 3
    ∷ in_graph "N 2/P 0 2 1 1 1 5/" 23 2 6
    ∷ in_graph "N 2/P 0 2 1 1 0 1000/" 23 2 7
    -- a target of no compatible type, a list mark that differs, the second value out of range
    ∷ in_graph "N 1/E 0 0 0 0/" 24 2 4
    ∷ in_graph "N 2/P 0 2 0 0 5/" 24 2 4
    ∷ in_graph "N 2/P 0 2 1 1 0 5 1 1000/" 24 2 9
    -- a depth, a first depth, a step, a type condition without child
    ∷ in_query "F 16 0 0 0/" 31 1 2
    ∷ in_query "F 1 0 0 0/" 32 1 2
    ∷ in_query "F 0 0 0 0/F 2 9 1 0/" 32 2 2
    ∷ in_query "T 0 1/" 32 1 0
    -- a label, a field, an argument, a type that is not declared
    ∷ in_query "F 0 256 0 0/" 33 1 3
    ∷ in_query "F 0 0 9 0/" 33 1 4
    ∷ in_query "F 0 0 0 1 9 0/" 33 1 6
    ∷ in_query "T 0 9/F 1 0 0 0/" 33 1 3
    -- a field outside its context, an argument of no field, a child too many, a child too few, a condition on a scalar
    ∷ in_query "F 0 1 1 0/" 34 1 4
    ∷ in_query "F 0 0 0 1 0 0/F 1 9 1 0/" 34 1 6
    ∷ in_query "F 0 0 0 0/F 1 9 1 0/F 2 9 1 0/" 34 2 0
    ∷ in_query "F 0 0 0 0/" 34 1 0
    ∷ in_query "T 0 0/F 1 0 0 0/" 34 1 3
    ∷ []
