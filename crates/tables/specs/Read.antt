-- What the areas say, asked by number: a Schema and a Graph read from tables. Assumes nothing.
use Rattle.std.specs.Prelude.{ℕ, ◌+◌, ◌*◌, ◌-◌, List, [], ◌∷◌, map, Bool, cond, ◌&&◌, get_or, take, drop, eqb, ltb}
use Rattle.rules.specs.Lists.{those, any, count_up}
use Rattle.rules.specs.Text.{pairs, field_no, type_no}
use Rattle.rules.specs.Schema.{Schema}
use Rattle.rules.specs.Graph.{Label, same_label, Found, nothing, one, many, Graph}

-- the number at a place of an area
unfoldable pub cell : List ℕ → ℕ → ℕ
cell a i = get_or a i 0

-- ---- narrow tables: the count at `head`, the rows from `base` on

-- cell k of row j, 0 where there is no such row
unfoldable pub narrow_at : List ℕ → ℕ → ℕ → ℕ → ℕ → ℕ
narrow_at a head base j k = cond (ltb j (cell a head)) (cell a (base + 3 * j + k)) 0

-- row j has the numbers x and y; it has the first number x
unfoldable pub pair_at : List ℕ → ℕ → ℕ → ℕ → ℕ → Bool
pair_at a base x y j = eqb (cell a (base + 3 * j + 1)) x && eqb (cell a (base + 3 * j + 2)) y

unfoldable pub first_at : List ℕ → ℕ → ℕ → ℕ → Bool
first_at a base x j = eqb (cell a (base + 3 * j + 1)) x

-- one of the first n rows has the numbers x and y
unfoldable pub pair_in : List ℕ → ℕ → ℕ → ℕ → ℕ → Bool
pair_in a base n x y = any (pair_at a base x y) (count_up 0 n)

unfoldable pub first_in : List ℕ → ℕ → ℕ → ℕ → Bool
first_in a base n x = any (first_at a base x) (count_up 0 n)

-- the second numbers of the rows whose first is x
unfoldable pub seconds_in : List ℕ → ℕ → ℕ → ℕ → List ℕ
seconds_in a base n x = map (λ j. cell a (base + 3 * j + 2)) (those (first_at a base x) (count_up 0 n))

unfoldable pub schema_at : List ℕ → Schema
schema_at a =
    record {
      kind = λ t. narrow_at a 0 8 t.0 0;
      low = λ t. narrow_at a 0 8 t.0 1;
      high = λ t. narrow_at a 0 8 t.0 2;
      declared_field = λ f. ltb f.0 (cell a 1);
      field_type = λ owner f. type_no (narrow_at a 1 200 f.0 1);
      list_mark = λ owner f. narrow_at a 1 200 f.0 2;
      declared_arg = λ x. ltb x.0 (cell a 2);
      arg_type = λ x. type_no (narrow_at a 2 584 x.0 1);
      has_field = λ t f. pair_in a 776 (cell a 3) t.0 f.0;
      fields_of = λ t. map field_no (seconds_in a 776 (cell a 3) t.0);
      takes_arg = λ f x. pair_in a 3848 (cell a 4) f.0 x.0;
      has_member = λ t o. pair_in a 6920 (cell a 5) t.0 o.0;
      some_member = λ t. first_in a 6920 (cell a 5) t.0;
      query_type = type_no (cell a 7);
    }

-- ---- wide tables: rows of fourteen cells from `base` on

unfoldable pub wide_at : List ℕ → ℕ → ℕ → ℕ → ℕ
wide_at a base j k = cell a (base + 14 * j + k)

-- the numbers of row j: number i stands in cell i + 2
unfoldable pub numbers_at : List ℕ → ℕ → ℕ → List ℕ
numbers_at a base j = take 12 (drop (base + 14 * j + 2) a)

-- the label of row j, whose field stands in cell c: the fourth number is the count of the pairs, which follow
unfoldable pub named_at : List ℕ → ℕ → ℕ → ℕ → Label
named_at a base j c = record { field = field_no (wide_at a base j c); args = pairs (wide_at a base j 5) (drop 4 (numbers_at a base j)) }

-- of an edge or a property the second number is the field
unfoldable pub label_at : List ℕ → ℕ → ℕ → Label
label_at a base j = named_at a base j 3

-- row j is of node u and has the label l
unfoldable pub starts_at : List ℕ → ℕ → ℕ → Label → ℕ → Bool
starts_at a base u l j = eqb (wide_at a base j 2) u && same_label (label_at a base j) l

-- ---- the graph

-- the edges stand in the node area from 1544 on, the third number is the target
unfoldable pub targets_at : List ℕ → ℕ → Label → List ℕ
targets_at a u l = map (λ j. wide_at a 1544 j 4) (those (starts_at a 1544 u l) (count_up 0 (cell a 1)))

-- the values of property j: from its tag on, as many as its numbers leave behind the pairs
unfoldable pub values_at : List ℕ → List ℕ → ℕ → List ℕ
values_at p v j = take (wide_at p 8 j 1 - (4 + 2 * wide_at p 8 j 5)) (drop (8 + wide_at p 8 j 0) v)

unfoldable pub found_at : List ℕ → List ℕ → List ℕ → Found
found_at p v [] = nothing
found_at p v (j ∷ js) = cond (eqb (wide_at p 8 j 4) 1) (many (values_at p v j)) (one (get_or (values_at p v j) 0 0))

unfoldable pub graph_at : List ℕ → List ℕ → List ℕ → Graph
graph_at a p v =
    record {
      size = cell a 0;
      type_of = λ u. type_no (narrow_at a 0 8 u 1);
      lookup = λ u l. found_at p v (those (starts_at p 8 u l) (count_up 0 (cell p 0)));
      targets = λ u l. targets_at a u l;
    }
