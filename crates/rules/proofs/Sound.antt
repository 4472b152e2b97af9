-- What the text form gives, line by line: checks 10, 20 and 30. Assumes nothing.
use Prim.Native.Nat.{ℕ, ◌≤◌}
use mathlib.Core.Path.{◌≡◌, refl, ap}
use mathlib.Core.Bool.{Bool, true, false, ◌&&◌, not, true≢false}
use mathlib.Core.List.{List, [], ◌∷◌, map, tail}
use Rattle.std.specs.Prelude.{None}
use lib.Dec.{leb, ltb}
use lib.ListN.{length, length-map}
use borrow.Author.Tests.{leb-true, not-false}
use Rattle.rules.specs.Lists.{all, is_empty}
use Rattle.rules.specs.Text.{Line, lines, fields, is_digit, decimal, leading_zero, largest, is_number, Row, leading, row_of, row, rows}
use Rattle.rules.specs.Search.{first_line, whole, test_each}
use Rattle.rules.specs.Forms.{Form, form_tests, line_tests, field_tests, breaks, text_form, longest}
use Rattle.rules.proofs.Bools.{and-true_right}
use Rattle.rules.proofs.Clean.{Silent, silent_left, silent_right, Calm, Each, each_map, each-silent, clean, clean-each, or_else_none}
use Rattle.rules.proofs.Parting.{joined, lines-joined, Filled, fields-filled}

abbrev pub Small : List ℕ → Type 0
Small ns = Each (λ n. n ≤ largest) ns

-- A line that keeps the form: a newline ends it, all its fields but the first are numbers, and it breaks no test of its letter.
pub record Sound (fs : List Form) (l : Line) : Type 0 where
  pub ended : l.ended ≡ true
  pub numbers : Each (λ n. not (is_number n) ≡ false) (tail (fields l.bytes))
  pub formed : Silent (form_tests fs (row l))

-- ---- one line

number_small : (s : List ℕ) → is_number s ≡ true → decimal 0 s ≤ largest
number_small s h =
    let r1 = and-true_right (not (is_empty s)) (all is_digit s && (not (leading_zero s) && leb (decimal 0 s) largest)) h in
    let r2 = and-true_right (all is_digit s) (not (leading_zero s) && leb (decimal 0 s) largest) r1 in
    leb-true (decimal 0 s) largest (and-true_right (not (leading_zero s)) (leb (decimal 0 s) largest) r2)

-- the numbers of any row are small, and those of fields that are all numbers are all of them
leading_small : (fs : List (List ℕ)) → Small (leading fs)
leading_small [] = tt
leading_small (f ∷ fs) = go (leading_small fs) (is_number f) refl
  where
    go : Small (leading fs) → (b : Bool) → is_number f ≡ b → Small (leading (f ∷ fs))
    go ih true e = rw (e, leading) (number_small f e, ih)
    go ih false e = rw (e, leading) tt

pub fields_small : (fs : List (List ℕ)) → Small (row_of fs).numbers
fields_small [] = tt
fields_small ([] ∷ fs) = tt
fields_small ((b ∷ []) ∷ fs) = leading_small fs
fields_small ((b ∷ c ∷ s) ∷ fs) = tt

pub leading-all : (fs : List (List ℕ)) → Each (λ n. not (is_number n) ≡ false) fs → leading fs ≡ map (decimal 0) fs
leading-all [] e = refl
leading-all (f ∷ fs) e = rw (not-false (is_number f) e.0, leading) (ap (λ (r : List ℕ). decimal 0 f ∷ r) (leading-all fs e.1))

fields-sound : (fs : List Form) (ss : List (List ℕ)) → Filled ss → Silent (field_tests fs ss)
    → Each (λ n. not (is_number n) ≡ false) (tail ss) × Silent (form_tests fs (row_of ss))
fields-sound fs [] f h = absurd f
fields-sound fs (l ∷ ns) f h =
    let numbers = test_each (λ n. not (is_number n)) 1 2 ns in (
      each-silent (λ n. not (is_number n)) 1 2 ns (silent_left numbers (form_tests fs (row_of (l ∷ ns))) h),
      silent_right numbers (form_tests fs (row_of (l ∷ ns))) h,
    )

bytes_sound : (fs : List Form) (s : List ℕ) → Silent (line_tests fs s)
    → Each (λ n. not (is_number n) ≡ false) (tail (fields s)) × Silent (form_tests fs (row_of (fields s)))
bytes_sound fs [] h = absurd (true≢false h.0)
bytes_sound fs (b ∷ s) h = fields-sound fs (fields (b ∷ s)) (fields-filled (b ∷ s)) h

line-sound : (fs : List Form) (before : List Line) (l : Line) (after : List Line) → Calm (breaks fs before l after) → Sound fs l
line-sound fs before l after c =
    let t = c.0 refl in
    let b = bytes_sound fs l.bytes t.1 in
    record { ended = not-false l.ended t.0; numbers = b.0; formed = b.1 }

-- ---- the lines of a text

each_row : (P : Row → Type 0) (ls : List Line) → Each (λ l. P (row l)) ls → Each P (map row ls)
each_row P [] e = tt
each_row P (l ∷ ls) e = (e.0, each_row P ls e.1)

lines_small : (ls : List Line) → Each (λ l. Small (row l).numbers) ls
lines_small [] = tt
lines_small (l ∷ ls) = (fields_small (fields l.bytes), lines_small ls)

-- every number of any text is at most 999,999,999
pub rows_small : (s : List ℕ) → Each (λ r. Small r.numbers) (rows s)
rows_small s = each_row (λ r. Small r.numbers) (lines s) (lines_small (lines s))

module _ (fs : List Form) where
  pub text-sound : (s : List ℕ) → text_form fs s ≡ None → Each (Sound fs) (lines s)
  text-sound s h =
      clean-each (breaks fs) (Sound fs) (line-sound fs) [] (lines s)
      (clean (breaks fs) [] 1 (lines s) (or_else_none (whole (ltb longest (length s))) (first_line (breaks fs) (lines s)) h))

  -- what every sound line gives of its row holds of every row
  pub rows-each : (P : Row → Type 0) → ((l : Line) → Sound fs l → P (row l)) → (s : List ℕ) → text_form fs s ≡ None → Each P (rows s)
  rows-each P f s h = each_row P (lines s) (each_map (Sound fs) (λ l. P (row l)) f (lines s) (text-sound s h))

  -- 8: a sound text is its lines, each ended by one newline,
  pub text-is_lines : (s : List ℕ) → text_form fs s ≡ None → joined (lines s) ≡ s
  text-is_lines s h = lines-joined s (each_map (Sound fs) (λ l. l.ended ≡ true) (λ l k. k.ended) (lines s) (text-sound s h))

-- and any text has one row for each of its lines
pub row_for_each_line : (s : List ℕ) → length (rows s) ≡ length (lines s)
row_for_each_line s = length-map (lines s) row
