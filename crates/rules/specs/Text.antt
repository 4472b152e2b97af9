-- "One record a line, fields parted by one tab, each line ended by one newline": from the bytes of a text to its rows. Assumes nothing.
use Rattle.std.specs.Prelude.{ℕ, zero, suc, ◌+◌, ◌-◌, ◌*◌, Bool, true, false, ◌&&◌, not, List, [], ◌∷◌, map, leb, eqb, get_or, drop}
use Rattle.rules.specs.Lists.{all, is_empty}
use Rattle.rules.specs.declared.FieldNo.{FieldNo}
use Rattle.rules.specs.declared.ArgNo.{ArgNo}
use Rattle.rules.specs.declared.TypeNo.{TypeNo}

-- ---- the bytes: the letters, the tab, the newline, the digits

abbrev pub A : ℕ
A = 65

abbrev pub E : ℕ
E = 69

abbrev pub F : ℕ
F = 70

abbrev pub G : ℕ
G = 71

abbrev pub H : ℕ
H = 72

abbrev pub I : ℕ
I = 73

abbrev pub M : ℕ
M = 77

abbrev pub N : ℕ
N = 78

abbrev pub O : ℕ
O = 79

abbrev pub P : ℕ
P = 80

abbrev pub Q : ℕ
Q = 81

abbrev pub S : ℕ
S = 83

abbrev pub T : ℕ
T = 84

abbrev pub U : ℕ
U = 85

abbrev pub tab : ℕ
tab = 9

abbrev pub newline : ℕ
newline = 10

abbrev pub is_digit : ℕ → Bool
is_digit b = leb 48 b && leb b 57

-- ---- lines and fields

-- A line: its bytes, and whether a newline ends it ("A last line without newline breaks it at that line").
pub record Line : Type 0 where
  pub bytes : List ℕ
  pub ended : Bool

abbrev pub on_first_line : ℕ → List Line → List Line
on_first_line b [] = record { bytes = b ∷ []; ended = false } ∷ []
on_first_line b (l ∷ ls) = record { bytes = b ∷ l.bytes; ended = l.ended } ∷ ls

-- The lines of a text. What stands behind the last newline, if anything does, is a line that no newline ends.
abbrev pub lines : List ℕ → List Line
lines [] = []
lines (b ∷ s) = elim (eqb b newline) [ true ↦ record { bytes = []; ended = true } ∷ lines s | false ↦ on_first_line b (lines s) ]

abbrev pub on_first_field : ℕ → List (List ℕ) → List (List ℕ)
on_first_field b [] = (b ∷ []) ∷ []
on_first_field b (f ∷ fs) = (b ∷ f) ∷ fs

-- The fields of a line: what its tabs part, one more than there are tabs.
abbrev pub fields : List ℕ → List (List ℕ)
fields [] = [] ∷ []
fields (b ∷ s) = elim (eqb b tab) [ true ↦ [] ∷ fields s | false ↦ on_first_field b (fields s) ]

-- ---- numbers

-- The number that decimal digits write behind those that write n.
abbrev pub decimal : ℕ → List ℕ → ℕ
decimal n [] = n
decimal n (b ∷ s) = decimal (n * 10 + (b - 48)) s

abbrev pub leading_zero : List ℕ → Bool
leading_zero [] = false
leading_zero (b ∷ []) = false
leading_zero (b ∷ c ∷ s) = eqb b 48

abbrev pub largest : ℕ
largest = 999999999

-- "decimal numbers 0 to 999,999,999 with no needless leading zero"
abbrev pub is_number : List ℕ → Bool
is_number s = not (is_empty s) && (all is_digit s && (not (leading_zero s) && leb (decimal 0 s) largest))

-- ---- rows

-- The row of a line: its letter, and its numbers up to the first field that is no number. (Of a line that keeps the text form
-- these are all.) A line whose first field is not one byte has no letter, which is 0 here, and no numbers.
pub record Row : Type 0 where
  pub letter : ℕ
  pub numbers : List ℕ

abbrev pub no_row : Row
no_row = record { letter = 0; numbers = [] }

abbrev pub leading : List (List ℕ) → List ℕ
leading [] = []
leading (f ∷ fs) = elim (is_number f) [ true ↦ decimal 0 f ∷ leading fs | false ↦ [] ]

abbrev pub row_of : List (List ℕ) → Row
row_of [] = no_row
row_of ([] ∷ fs) = no_row
row_of ((b ∷ []) ∷ fs) = record { letter = b; numbers = leading fs }
row_of ((b ∷ c ∷ s) ∷ fs) = no_row

abbrev pub row : Line → Row
row l = row_of (fields l.bytes)

-- The rows of a text, one for each line.
abbrev pub rows : List ℕ → List Row
rows s = map row (lines s)

-- The number at a place of a row, the first at 0: it stands in field i + 2, the letter in field 1.
abbrev pub at : Row → ℕ → ℕ
at r i = get_or r.numbers i 0

-- ---- the three kinds of number that 000 keeps apart, put on at access

abbrev pub field_no : ℕ → FieldNo
field_no n = record { 0 = n }

abbrev pub arg_no : ℕ → ArgNo
arg_no n = record { 0 = n }

abbrev pub type_no : ℕ → TypeNo
type_no n = record { 0 = n }

-- ---- "a count n of 0 to 4, then n pairs of argument number and value"

-- In each record that has pairs, n stands at 3, the pairs from 4 on, and a property's values behind them.
pub record Pair : Type 0 where
  pub arg : ArgNo
  pub value : ℕ

abbrev pub pairs : ℕ → List ℕ → List Pair
pairs zero ns = []
pairs (suc n) [] = []
pairs (suc n) (a ∷ []) = []
pairs (suc n) (a ∷ v ∷ ns) = record { arg = arg_no a; value = v } ∷ pairs n ns

abbrev pub pairs_of : Row → List Pair
pairs_of r = pairs (at r 3) (drop 4 r.numbers)

abbrev pub values_of : Row → List ℕ
values_of r = drop (4 + 2 * at r 3) r.numbers
