-- How accepted rows lie in the work areas: docs/AREAS.md in definitions. Assumes nothing.
use Rattle.std.specs.Prelude.{ℕ, ◌+◌, List, [], ◌∷◌, ◌++◌, Bool, true, cond, length, take, drop, replicate, eqb, leb}
use Rattle.rules.specs.Lists.{those, each}
use Rattle.rules.specs.Text.{Row, at, values_of, A, E, F, G, H, M, N, P, Q}
use Rattle.rules.specs.Schema.{is, is_type, nth}
use Rattle.text.specs.Line.{padded}
use Rattle.tables.specs.declared.Table.{Table}
use Rattle.tables.specs.declared.Table.TheVariants.{Types, Fields, Args, Has, Takes, Members, Nodes, Edges, Properties, Entries}

-- ---- writing: some numbers laid over an area from a place on

unfoldable pub laid : ℕ → List ℕ → List ℕ → List ℕ
laid place xs area = take place area ++ (xs ++ drop (place + length xs) area)

-- ---- rows as cells

-- A narrow row has three cells: letter, first and second number. A wide row has fourteen: a tag, how many numbers the row has, and
-- the first twelve of them. The tag is the letter, and of a property the place of its first value.
unfoldable pub narrow : Row → List ℕ
narrow r = r.letter ∷ at r 0 ∷ at r 1 ∷ []

unfoldable pub wide : ℕ → Row → List ℕ
wide tag r = tag ∷ length r.numbers ∷ padded 12 r.numbers

-- the number of a table
abbrev pub table_number : Table → ℕ
table_number Types = 1
table_number Fields = 2
table_number Args = 3
table_number Has = 4
table_number Takes = 5
table_number Members = 6
table_number Nodes = 7
table_number Edges = 8
table_number Properties = 9
table_number Entries = 10

-- the table that a number means; any other number is taken for the query's entries
abbrev pub table_for : ℕ → Table
table_for n =
    cond (eqb n 1) Types
    (cond (eqb n 2) Fields
    (cond (eqb n 3) Args
    (cond (eqb n 4) Has
    (cond (eqb n 5) Takes
    (cond (eqb n 6) Members
    (cond (eqb n 7) Nodes
    (cond (eqb n 8) Edges
    (cond (eqb n 9) Properties Entries))))))))

-- The tables, by number: 1 types, 2 fields, 3 arguments, 4 H, 5 G, 6 M, 7 nodes, 8 edges, 9 properties, 10 the query's entries.
-- Which rows belong to a table:
unfoldable pub belongs : ℕ → Row → Bool
belongs k r =
    cond (eqb k 1) (is_type r)
    (cond (eqb k 2) (is F r)
    (cond (eqb k 3) (is A r)
    (cond (eqb k 4) (is H r)
    (cond (eqb k 5) (is G r)
    (cond (eqb k 6) (is M r)
    (cond (eqb k 7) (is N r)
    (cond (eqb k 8) (is E r)
    (cond (eqb k 9) (is P r) true))))))))

-- the cells of a row of a table, where `start` values stand before it
unfoldable pub cells : ℕ → ℕ → Row → List ℕ
cells k start r = cond (leb k 7) (narrow r) (cond (eqb k 9) (wide start r) (wide r.letter r))

unfoldable pub width : ℕ → ℕ
width k = cond (leb k 7) 3 14

-- how many values a row has: those of a property
unfoldable pub valued : Row → ℕ
valued r = cond (is P r) (length (values_of r)) 0

-- the cells of a table, row after row, where `start` values stand before the rows
unfoldable pub table : ℕ → ℕ → List Row → List ℕ
table k start [] = []
table k start (r ∷ rs) = cond (belongs k r) (cells k start r ++ table k (start + valued r) rs) (table k (start + valued r) rs)

-- how many rows a table has
unfoldable pub counted : ℕ → List Row → ℕ
counted k rs = length (those (belongs k) rs)

-- the values of the properties, one after another
unfoldable pub all_values : List Row → List ℕ
all_values rs = each values_of (those (is P) rs)

-- ---- the areas: a head of eight numbers with the counts, and the tables behind it, zeros elsewhere

-- the schema: types from 8, fields from 200, arguments from 584, H from 776, G from 3848, M from 6920, to 9992
unfoldable pub schema_head : List Row → List ℕ
schema_head rs =
    counted 1 rs
    ∷ counted 2 rs
    ∷ counted 3 rs
    ∷ counted 4 rs
    ∷ counted 5 rs
    ∷ counted 6 rs
    ∷ length (those (is Q) rs)
    ∷ at (nth (is Q) rs 0) 0
    ∷ []

-- the tables, laid over an area; and with the head, over zeros
abbrev pub schema_laid : List Row → List ℕ → List ℕ
schema_laid rs area =
    laid 6920 (table 6 0 rs)
    (laid 3848 (table 5 0 rs)
    (laid 776 (table 4 0 rs)
    (laid 584 (table 3 0 rs)
    (laid 200 (table 2 0 rs)
    (laid 8 (table 1 0 rs) area)))))

unfoldable pub schema_tables : ℕ → List Row → List ℕ
schema_tables n rs = laid 0 (schema_head rs) (schema_laid rs (replicate n 0))

-- nodes from 8, edges from 1544, to 15880
unfoldable pub node_area : ℕ → List Row → List ℕ
node_area n rs =
    laid 0 (counted 7 rs ∷ counted 8 rs ∷ []) (laid 1544 (table 8 0 rs) (laid 8 (table 7 0 rs) (replicate n 0)))

-- properties from 8, to 14344
unfoldable pub property_area : ℕ → List Row → List ℕ
property_area n rs = laid 0 (counted 9 rs ∷ []) (laid 8 (table 9 0 rs) (replicate n 0))

-- values from 8, to 8200
unfoldable pub value_area : ℕ → List Row → List ℕ
value_area n rs = laid 0 (length (all_values rs) ∷ []) (laid 8 (all_values rs) (replicate n 0))

-- entries from 8, to 3592
unfoldable pub query_area : ℕ → List Row → List ℕ
query_area n rs = laid 0 (counted 10 rs ∷ []) (laid 8 (table 10 0 rs) (replicate n 0))
