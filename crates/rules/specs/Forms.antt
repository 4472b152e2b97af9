-- The text form: which letters each text uses, what their numbers must meet, and checks 10, 20 and 30. Assumes nothing.
use Rattle.std.specs.Prelude.{ℕ, ◌+◌, ◌*◌, Bool, true, false, ◌&&◌, not, List, [], ◌∷◌, ◌++◌, ltb, eqb, length, Option}
use Rattle.rules.specs.Text.{Line, lines, fields, is_number, Row, row_of, at, Pair, pairs_of, A, E, F, G, H, I, M, N, O, P, Q, S, T, U}
use Rattle.rules.specs.Search.{Test, ◌#◌, test_each, given, Check, first_line, whole, or_else}
use Rattle.rules.specs.declared.Spot.{Spot}

-- The form of a record: its letter, and the tests of a row with that letter.
pub record Form : Type 0 where
  pub letter : ℕ
  pub tests : Row → List Test

abbrev pub form : ℕ → (Row → List Test) → Form
form l ts = record { letter = l; tests = ts }

-- "has a missing or an extra field": the row has not n numbers
abbrev pub unless : ℕ → Row → Bool
unless n r = not (eqb (length r.numbers) n)

abbrev pub count : ℕ → Row → List Test
count n r = (0 # unless n r) ∷ []

-- "a list mark other than 0 or 1", at place i of the numbers
abbrev pub mark : ℕ → Row → Test
mark i r = (2 + i) # ltb 1 (at r i)

-- "argument numbers strictly rising": the argument in field f is not above the one before it
abbrev pub rising : ℕ → ℕ → List Pair → List Test
rising f a [] = []
rising f a (p ∷ ps) = (f # not (ltb a p.arg.0)) ∷ rising (2 + f) p.arg.0 ps

-- "a count n of 0 to 4", and behind the first pair's argument, in field 6, the others'
abbrev pub rising_pairs : List Pair → List Test
rising_pairs [] = []
rising_pairs (p ∷ ps) = rising 8 p.arg.0 ps

abbrev pub with_pairs : Row → List Test
with_pairs r = (5 # ltb 4 (at r 3)) ∷ rising_pairs (pairs_of r)

-- an edge of the graph and a field of the query: four numbers and the pairs, no more
abbrev pub labelled : Row → List Test
labelled r = (0 # unless (4 + 2 * at r 3) r) ∷ with_pairs r

-- a property: "list 0 has exactly one value, list 1 has none or more"
abbrev pub valued : Row → List Test
valued r =
    mark 2 r
    ∷ (0 # (eqb (at r 2) 0 && unless (5 + 2 * at r 3) r))
    ∷ (0 # ltb (length r.numbers) (4 + 2 * at r 3))
    ∷ with_pairs r

abbrev pub schema_forms : List Form
schema_forms =
    form S (count 2)
    ∷ form O (count 0)
    ∷ form I (count 0)
    ∷ form U (count 0)
    ∷ form F (λ r. mark 1 r ∷ count 2 r)
    ∷ form A (count 1)
    ∷ form H (count 2)
    ∷ form G (count 2)
    ∷ form M (count 2)
    ∷ form Q (count 1)
    ∷ []

abbrev pub graph_forms : List Form
graph_forms = form N (count 1) ∷ form E labelled ∷ form P valued ∷ []

abbrev pub query_forms : List Form
query_forms = form F labelled ∷ form T (count 2) ∷ []

-- The tests of a row: those of its letter's form. "a letter that its text doesn't use" is at fault itself.
abbrev pub form_tests : List Form → Row → List Test
form_tests [] r = (1 # true) ∷ []
form_tests (f ∷ fs) r = elim (eqb r.letter f.letter) [ true ↦ f.tests r | false ↦ form_tests fs r ]

-- "The first field is one letter. All others are decimal numbers"
abbrev pub field_tests : List Form → List (List ℕ) → List Test
field_tests fs [] = []
field_tests fs (l ∷ ns) = test_each (λ n. not (is_number n)) 1 2 ns ++ form_tests fs (row_of (l ∷ ns))

-- "A line also breaks the text form when it is empty"
abbrev pub line_tests : List Form → List ℕ → List Test
line_tests fs [] = (0 # true) ∷ []
line_tests fs (b ∷ s) = field_tests fs (fields (b ∷ s))

abbrev pub breaks : List Form → Check Line
breaks fs before l after = given true ((0 # not l.ended) ∷ line_tests fs l.bytes) ∷ []

abbrev pub longest : ℕ
longest = 65535

-- Checks 10, 20 and 30: "The length of a text is tested before its lines."
abbrev pub text_form : List Form → List ℕ → Option Spot
text_form fs s = or_else (whole (ltb longest (length s))) (first_line (breaks fs) (lines s))
