-- A line at a position of a text, as the code hands it on. Assumes nothing.
use Rattle.std.specs.Prelude.{ℕ, zero, suc, ◌+◌, List, [], ◌∷◌, Bool, true, false, cond, ◌&&◌, length, drop, leb, eqb}
use Rattle.rules.specs.Lists.{one_if}
use Rattle.rules.specs.Text.{Line, lines, fields, is_number, leading}
use Rattle.text.specs.declared.Row.{Row}

-- the line that starts at a position; at the end none does, and an empty one that no newline ends stands for it
unfoldable pub head_line : List Line → Line
head_line [] = record { bytes = []; ended = false }
head_line (l ∷ ls) = l

unfoldable pub line_at : List ℕ → ℕ → Line
line_at s at = head_line (lines (drop at s))

-- where the next line starts
unfoldable pub next_at : List ℕ → ℕ → ℕ
next_at s at = at + (length (line_at s at).bytes + one_if (line_at s at).ended)

-- the first k of some numbers, zeros after them where they are fewer
unfoldable pub padded : ℕ → List ℕ → List ℕ
padded zero ns = []
padded (suc k) [] = 0 ∷ padded k []
padded (suc k) (n ∷ ns) = n ∷ padded k ns

-- the first field that is no number, the first of these being field f; 0 where all are numbers
unfoldable pub bad_field : ℕ → List (List ℕ) → ℕ
bad_field f [] = 0
bad_field f (s ∷ ss) = cond (is_number s) (bad_field (suc f) ss) f

-- a capital letter
unfoldable pub is_letter : ℕ → Bool
is_letter b = leb 65 b && leb b 90

unfoldable pub unread_row : ℕ → Row
unread_row bad = record { letter = 0; count = 0; nums = padded 12 []; bad = bad; ended = true; next = 0 }

-- a line with a letter, whose other fields are fs; where one is no number the reader stops there
unfoldable pub read_row : ℕ → List (List ℕ) → Bool → ℕ → Row
read_row b fs ended next =
    record {
      letter = b;
      count = length (leading fs);
      nums = padded 12 (leading fs);
      bad = bad_field 2 fs;
      ended = cond (eqb (bad_field 2 fs) 0) ended true;
      next = cond (eqb (bad_field 2 fs) 0) next 0;
    }

-- the row of some fields: an empty line, a first field that is no capital letter, or a line with a letter
unfoldable pub row_from : List (List ℕ) → Bool → ℕ → Row
row_from [] ended next = unread_row 0
row_from ([] ∷ []) ended next = unread_row 0
row_from ([] ∷ f ∷ fs) ended next = unread_row 1
row_from ((b ∷ []) ∷ fs) ended next = cond (is_letter b) (read_row b fs ended next) (unread_row 1)
row_from ((b ∷ c ∷ s) ∷ fs) ended next = unread_row 1

-- the row of the line that starts at a position
unfoldable pub row_at : List ℕ → ℕ → Row
row_at s at = row_from (fields (line_at s at).bytes) (line_at s at).ended (next_at s at)
