-- A schema laid out row by row, in one reading of its text: what is left to lay, at a position of the text. Assumes nothing.
use Prim.Native.Nat.{ℕ, ◌+◌, ◌*◌, ◌-◌, ◌/◌, ◌≤◌}
use native.Mathlib.Omega.{arith}
use mathlib.Core.Path.{◌≡◌, refl, ap, ◌∙◌}
use mathlib.Core.List.{List, [], ◌∷◌}
use lib.ListN.{length, get_or}
use Rattle.rules.specs.Text.{lines, Row, row, rows, type_no}
use Rattle.rules.proofs.Clean.{Each}
use Rattle.text.specs.declared.Row.{Row as Read}
use Rattle.text.specs.Line.{line_at}
use Rattle.tables.specs.Layout.{laid, valued, table, counted, schema_laid}
use Rattle.tables.specs.Fill.{Plain, row_in, space, asked_with, queries_in, schema_counts_of, SchemaFits}
use Rattle.tables.specs.declared.Queries.{Queries}
use Rattle.tables.proofs.Turns.{Turn}
use Rattle.tables.proofs.Asking.{Asked, asked-start, asked-on, asked-all}
use Rattle.tables.proofs.Laying.{narrow-long, type_room, field_room, arg_room, has_room, takes-room, member_room}
use Rattle.tables.proofs.Together.{own, own-read_else, own-space, places, ends, puts, moved, todo}
use Rattle.tables.proofs.Together.{Left, left_start, left_on, left_all, left_ends}

-- the tables of a schema, by the places where their next rows go
abbrev pub schema_places : ℕ → ℕ → ℕ → ℕ → ℕ → ℕ → List (ℕ × ℕ)
schema_places types fields args has takes members = (6, members) ∷ (5, takes) ∷ (4, has) ∷ (3, args) ∷ (2, fields) ∷ (1, types) ∷ []

-- `before` values stand before the rows from `here` on: no table of a schema asks for them
pub record SchemaLeft (s area₀ area : List ℕ) (types fields args has takes members : ℕ) (q : Queries) (here : ℕ) : Type 0 where
  pub before : ℕ
  pub left : Left s (schema_places 8 200 584 776 3848 6920) area₀ (schema_places types fields args has takes members) area before here
  pub asked : Asked s q.count q.first.0 here

pub schema-start : {s area : List ℕ} → Each Plain (lines s) → SchemaFits (rows s) → 9992 ≤ length area
    → SchemaLeft s area area 8 200 584 776 3848 6920 (record { count = 0; first = type_no 0 }) 0
schema-start {s} plain f h =
    let rs = rows s in
    record {
      before = 0;
      left =
          left_start (
            omega (arith, member_room rs f),
            (takes-room rs f, (has_room rs f, (arg_room rs f, (field_room rs f, (type_room rs f, tt))))),
          );
      asked = asked-start plain;
    }

-- one turn
module _ {s area₀ area : List ℕ} {types fields args has takes members : ℕ} {q : Queries} {here : ℕ}
    (f : SchemaLeft s area₀ area types fields args has takes members q here) {r : Read} (t : Turn s here r) where
  abbrev x : Row
  x = row (line_at s here)

  -- what was laid of the row in table k, and where the next goes
  put : (k : ℕ) → k ≤ 7 → row_in k 0 r ≡ own k f.before x
  put k h = own-read_else x r.next r t.read k 0 (λ e. absurd (omega arith)) f.before

  wide : (k : ℕ) → space k r.letter ≡ length (own k f.before x)
  wide k = own-space x r.next r t.read k f.before

  -- a row was put in table k
  abbrev pub Put : ℕ → ℕ → ℕ → List ℕ → List ℕ → Type 0
  Put k place place' a a' = (place' ≡ place + space k r.letter) × (a' ≡ laid place (row_in k 0 r) a)

  pub schema-on : {a₁ a₂ a₃ a₄ a₅ a₆ : List ℕ} {types' fields' args' has' takes' members' : ℕ} {q' : Queries}
      → Put 1 types types' area a₁ → Put 2 fields fields' a₁ a₂ → Put 3 args args' a₂ a₃ → Put 4 has has' a₃ a₄
      → Put 5 takes takes' a₄ a₅ → Put 6 members members' a₅ a₆ → q' ≡ asked_with q r.letter (type_no (get_or r.nums 0 0))
      → SchemaLeft s area₀ a₆ types' fields' args' has' takes' members' q' r.next
  unfolding moved puts
  schema-on e₁ e₂ e₃ e₄ e₅ e₆ e =
      record {
        before = f.before + valued x;
        left =
            left_on f.left t
            (cc (e₁.0, e₂.0, e₃.0, e₄.0, e₅.0, e₆.0, wide 1, wide 2, wide 3, wide 4, wide 5, wide 6))
            (cc (
              e₁.1,
              e₂.1,
              e₃.1,
              e₄.1,
              e₅.1,
              e₆.1,
              put 1 (omega arith),
              put 2 (omega arith),
              put 3 (omega arith),
              put 4 (omega arith),
              put 5 (omega arith),
              put 6 (omega arith),
            ))
            refl;
        asked = asked-on f.asked t e;
      }

-- where each table ends
pub record SchemaEnds (rs : List Row) (types fields args has takes members : ℕ) : Type 0 where
  pub types_end : types ≡ 8 + 3 * counted 1 rs
  pub fields_end : fields ≡ 200 + 3 * counted 2 rs
  pub args_end : args ≡ 584 + 3 * counted 3 rs
  pub has_end : has ≡ 776 + 3 * counted 4 rs
  pub takes_end : takes ≡ 3848 + 3 * counted 5 rs
  pub members_end : members ≡ 6920 + 3 * counted 6 rs

-- the end of the text
module _ {s area₀ area : List ℕ} {types fields args has takes members : ℕ} {q : Queries} {here : ℕ}
    (f : SchemaLeft s area₀ area types fields args has takes members q here) (h : length s ≤ here) where
  ended : (i : ℕ) → get_or (places (schema_places types fields args has takes members)) i 0 ≡ get_or (ends (schema_places 8 200 584 776 3848 6920) 0 (rows s)) i 0
  ended i = ap (λ (l : List ℕ). get_or l i 0) (left_ends f.left h)

  long : (k : ℕ) → k ≤ 7 → (base : ℕ) → base + length (table k 0 (rows s)) ≡ base + 3 * counted k (rows s)
  long k h base = ap (λ (n : ℕ). base + n) (narrow-long k (rows s) h)

  pub schema-ends : SchemaEnds (rows s) types fields args has takes members
  unfolding places ends
  schema-ends =
      record {
        types_end = ended 5 ∙ long 1 (omega arith) 8;
        fields_end = ended 4 ∙ long 2 (omega arith) 200;
        args_end = ended 3 ∙ long 3 (omega arith) 584;
        has_end = ended 2 ∙ long 4 (omega arith) 776;
        takes_end = ended 1 ∙ long 5 (omega arith) 3848;
        members_end = ended 0 ∙ long 6 (omega arith) 6920;
      }

  pub schema-all : area ≡ schema_laid (rows s) area₀
  unfolding todo
  schema-all = left_all f.left h

  pub schema_counts : record {
    types = (types - 8) / 3;
    fields = (fields - 200) / 3;
    args = (args - 584) / 3;
    has = (has - 776) / 3;
    takes = (takes - 3848) / 3;
    members = (members - 6920) / 3;
    queries = q;
  } ≡ schema_counts_of (rows s)
  unfolding schema_counts_of
  schema_counts =
      let e = schema-ends in
      let e₁ : (types - 8) / 3 ≡ counted 1 (rows s) = omega arith in
      let e₂ : (fields - 200) / 3 ≡ counted 2 (rows s) = omega arith in
      let e₃ : (args - 584) / 3 ≡ counted 3 (rows s) = omega arith in
      let e₄ : (has - 776) / 3 ≡ counted 4 (rows s) = omega arith in
      let e₅ : (takes - 3848) / 3 ≡ counted 5 (rows s) = omega arith in
      let e₆ : (members - 6920) / 3 ≡ counted 6 (rows s) = omega arith in
      let e₇ : q ≡ queries_in (rows s) = asked-all f.asked h in
      cc
