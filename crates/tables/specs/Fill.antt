-- What filling a table asks of a text, and what it reads of a line. Assumes nothing.
use Rattle.std.specs.Prelude.{ℕ, ◌+◌, ◌*◌, ◌-◌, ◌≤◌, ◌≡◌, List, [], ◌∷◌, true, cond, length, get_or, eqb, leb}
use Rattle.rules.specs.Lists.{those}
use Rattle.rules.specs.declared.TypeNo.{TypeNo}
use Rattle.rules.specs.Text.{Line, fields, Row, row, at, values_of, type_no, P, Q}
use Rattle.rules.specs.Schema.{is, nth}
use Rattle.text.specs.Line.{padded, row_from}
use Rattle.text.specs.declared.Row.{Row as Read}
use Rattle.tables.specs.Layout.{belongs, width, counted, all_values}
use Rattle.tables.specs.declared.GraphCounts.{GraphCounts}
use Rattle.tables.specs.declared.Queries.{Queries}
use Rattle.tables.specs.declared.SchemaCounts.{SchemaCounts}

-- a row as the reader hands it on, where the next line starts at n
unfoldable pub whole : Row → ℕ → Read
whole r n =
    record { letter = r.letter; count = length r.numbers; nums = padded 12 r.numbers; bad = 0; ended = true; next = n }

-- A line that the reader reads to its end: every line of a text that keeps the text form.
pub record Plain (l : Line) : Type 0 where
  pub read : (n : ℕ) → row_from (fields l.bytes) l.ended n ≡ whole (row l) n

-- a row of which only the letter counts
unfoldable pub lettered : ℕ → Row
lettered l = record { letter = l; numbers = [] }

-- the cells of a row of table k, from what was read
unfoldable pub cells_of : ℕ → ℕ → Read → List ℕ
cells_of k start r =
    cond (leb k 7) (r.letter ∷ get_or r.nums 0 0 ∷ get_or r.nums 1 0 ∷ [])
    (cond (eqb k 9) (start ∷ r.count ∷ r.nums) (r.letter ∷ r.count ∷ r.nums))

-- the cells that a row adds to table k, from what was read: none where it does not belong there
unfoldable pub row_in : ℕ → ℕ → Read → List ℕ
row_in k start r = cond (belongs k (lettered r.letter)) (cells_of k start r) []

-- how many cells a row with this letter adds to table k
unfoldable pub space : ℕ → ℕ → ℕ
space k letter = cond (belongs k (lettered letter)) (width k) 0

-- how many values a row has, from its letter, the count of its numbers and its n
unfoldable pub values_in : ℕ → ℕ → ℕ → ℕ
values_in l count n = cond (eqb l P) (count - (4 + 2 * n)) 0

-- the values that a row adds: those of a property
unfoldable pub own_values : Row → List ℕ
own_values r = cond (is P r) (values_of r) []

-- how many nodes, edges, properties and values a graph has
unfoldable pub graph_counts_of : List Row → GraphCounts
graph_counts_of rs =
    record { nodes = counted 7 rs; edges = counted 8 rs; properties = counted 9 rs; values = length (all_values rs) }

-- the Q records: how many there are, and the type that the first names
unfoldable pub queries_in : List Row → Queries
queries_in rs = record { count = length (those (is Q) rs); first = type_no (at (nth (is Q) rs 0) 0) }

-- and with a row more, from its letter and its first number
unfoldable pub asked_with : Queries → ℕ → TypeNo → Queries
asked_with q letter first =
    cond (eqb letter Q)
    (cond (eqb q.count 0) (record { count = 1; first = first }) (record { count = q.count + 1; first = q.first }))
    q

-- how many rows each table of a schema has, and its Q records
unfoldable pub schema_counts_of : List Row → SchemaCounts
schema_counts_of rs =
    record {
      types = counted 1 rs;
      fields = counted 2 rs;
      args = counted 3 rs;
      has = counted 4 rs;
      takes = counted 5 rs;
      members = counted 6 rs;
      queries = queries_in rs;
    }

-- the head of the schema's area
unfoldable pub head_of : SchemaCounts → List ℕ
head_of c =
    c.types ∷ c.fields ∷ c.args ∷ c.has ∷ c.takes ∷ c.members ∷ c.queries.count ∷ c.queries.first.0 ∷ []

-- no maximum is passed (checks 11 and 21)
pub record SchemaFits (rs : List Row) : Type 0 where
  pub types : counted 1 rs ≤ 64
  pub fields : counted 2 rs ≤ 128
  pub args : counted 3 rs ≤ 64
  pub has : counted 4 rs ≤ 1024
  pub takes : counted 5 rs ≤ 1024
  pub members : counted 6 rs ≤ 1024

pub record GraphFits (rs : List Row) : Type 0 where
  pub nodes : counted 7 rs ≤ 512
  pub edges : counted 8 rs ≤ 1024
  pub properties : counted 9 rs ≤ 1024
  pub values : length (all_values rs) ≤ 8192
