-- A text has no more lines, and its lines no more numbers, than it has bytes. Assumes nothing.
use Prim.Native.Nat.{ℕ, suc, ◌+◌, ◌≤◌}
use native.Mathlib.Omega.{arith}
use mathlib.Core.Path.{◌≡◌, refl}
use mathlib.Core.List.{List, [], ◌∷◌, map}
use lib.ListN.{length}
use lib.Dec.{eqb}
use Rattle.rules.specs.Lists.{one_if, sum_of}
use Rattle.rules.specs.Text.{Line, on_first_line, lines, on_first_field, fields, is_number, leading, row_of, row, rows, newline, tab}
use Rattle.text.proofs.Tools.{by_test}

-- ---- the bytes of a line, with the newline that ends it

abbrev size_of : Line → ℕ
size_of l = length l.bytes + one_if l.ended

size-first : (b : ℕ) (ls : List Line) → sum_of size_of (on_first_line b ls) ≡ suc (sum_of size_of ls)
size-first b [] = omega arith
size-first b (l ∷ ls) = omega arith

-- the lines of a text have all its bytes
lines-size : (s : List ℕ) → sum_of size_of (lines s) ≡ length s
lines-size [] = refl
lines-size (b ∷ s) =
    by_test (eqb b newline)
    (λ e. rw (e, lines) (omega (arith, lines-size s)))
    (λ e. rw (e, lines) (omega (arith, size-first b (lines s), lines-size s)))

length-first : (b : ℕ) (ls : List Line) → length (on_first_line b ls) ≤ suc (length ls)
length-first b [] = omega arith
length-first b (l ∷ ls) = omega arith

lines-length : (s : List ℕ) → length (lines s) ≤ length s
lines-length [] = omega arith
lines-length (b ∷ s) =
    by_test (eqb b newline)
    (λ e. rw (e, lines) (omega (arith, lines-length s)))
    (λ e. rw (e, lines) (omega (arith, length-first b (lines s), lines-length s)))

-- ---- the numbers of a line

field-first : (b : ℕ) (fs : List (List ℕ)) (n : ℕ) → length fs ≤ suc n → length (on_first_field b fs) ≤ suc (suc n)
field-first b [] n h = omega arith
field-first b (f ∷ fs) n h = omega arith

fields-length : (bs : List ℕ) → length (fields bs) ≤ suc (length bs)
fields-length [] = omega arith
fields-length (b ∷ bs) =
    by_test (eqb b tab)
    (λ e. rw (e, fields) (omega (arith, fields-length bs)))
    (λ e. rw (e, fields) (field-first b (fields bs) (length bs) (fields-length bs)))

leading_length : (fs : List (List ℕ)) → length (leading fs) ≤ length fs
leading_length [] = omega arith
leading_length (f ∷ fs) =
    by_test (is_number f) (λ e. rw (e, leading) (omega (arith, leading_length fs))) (λ e. rw (e, leading) (omega arith))

row-length : (fs : List (List ℕ)) (n : ℕ) → length fs ≤ suc n → length (row_of fs).numbers ≤ n
row-length [] n h = omega arith
row-length ([] ∷ fs) n h = omega arith
row-length ((b ∷ []) ∷ fs) n h = omega (arith, leading_length fs)
row-length ((b ∷ c ∷ s) ∷ fs) n h = omega arith

numbers_length : (l : Line) → length (row l).numbers ≤ length l.bytes
numbers_length l = row-length (fields l.bytes) (length l.bytes) (fields-length l.bytes)

-- ---- the numbers of all rows

numbers_within : (ls : List Line) → sum_of (λ r. length r.numbers) (map row ls) ≤ sum_of size_of ls
numbers_within [] = omega arith
numbers_within (l ∷ ls) = omega (arith, numbers_length l, numbers_within ls)

pub rows_numbers : (s : List ℕ) → sum_of (λ r. length r.numbers) (rows s) ≤ length s
rows_numbers s = omega (arith, numbers_within (lines s), lines-size s)

length-map : {A B : Type 0} (f : A → B) (xs : List A) → length (map f xs) ≡ length xs
length-map f [] = refl
length-map f (x ∷ xs) = omega (arith, length-map f xs)

pub rows-length : (s : List ℕ) → length (rows s) ≤ length s
rows-length s = omega (arith, lines-length s, length-map row (lines s))
