-- The row that the code hands on, of a line that keeps a text form. Assumes nothing.
use Prim.Native.Nat.{ℕ, zero, suc, ◌<◌}
use mathlib.Core.Path.{◌≡◌, refl, ap, ◌∙◌}
use mathlib.Core.List.{List, [], ◌∷◌, tail}
use mathlib.Core.Bool.{Bool, true, false, cond, not, false≢true}
use native.Mathlib.Omega.{arith}
use lib.ListN.{length, get_or}
use borrow.Author.Tests.{not-false}
use Rattle.rules.specs.Text.{is_number, leading, row_of}
use Rattle.rules.proofs.Clean.{Each}
use Rattle.text.specs.declared.Row.{Row}
use Rattle.text.specs.Line.{padded, bad_field, is_letter, read_row, row_from}

-- ---- the first k numbers

pub padded-length : (k : ℕ) (ns : List ℕ) → length (padded k ns) ≡ k
unfolding padded
padded-length zero ns = refl
padded-length (suc k) [] = ap suc (padded-length k [])
padded-length (suc k) (n ∷ ns) = ap suc (padded-length k ns)

pub padded-at : (k : ℕ) (ns : List ℕ) (i : ℕ) → i < k → get_or (padded k ns) i 0 ≡ get_or ns i 0
unfolding padded
padded-at zero ns i h = absurd (omega arith)
padded-at (suc k) [] zero h = refl
padded-at (suc k) [] (suc i) h = padded-at k [] i (omega arith) ∙ refl
padded-at (suc k) (n ∷ ns) zero h = refl
padded-at (suc k) (n ∷ ns) (suc i) h = padded-at k ns i (omega arith)

-- ---- a line all of whose fields but the first are numbers

none_bad : (k : ℕ) (fs : List (List ℕ)) → Each (λ f. not (is_number f) ≡ false) fs → bad_field k fs ≡ 0
unfolding bad_field
none_bad k [] e = refl
none_bad k (f ∷ fs) e =
    ap (λ (t : Bool). cond t (bad_field (suc k) fs) k) (not-false (is_number f) e.0) ∙ none_bad (suc k) fs e.1

no_letter : is_letter 0 ≡ true → ⊥
unfolding is_letter
no_letter h = false≢true h

-- the row that the code hands on, of a letter and numbers
abbrev pub whole_row : ℕ → List ℕ → ℕ → Row
whole_row l ns n = record { letter = l; count = length ns; nums = padded 12 ns; bad = 0; ended = true; next = n }

read_whole : (b : ℕ) (fs : List (List ℕ)) (n : ℕ) → bad_field 2 fs ≡ 0 → read_row b fs true n ≡ whole_row b (leading fs) n
unfolding read_row
read_whole b fs n z = simp z

-- a line with a letter, which a newline ends: the row has every number, no bad field, and where the next line starts
pub fields-row : (ss : List (List ℕ)) (n : ℕ) → Each (λ f. not (is_number f) ≡ false) (tail ss) → is_letter (row_of ss).letter ≡ true
    → row_from ss true n ≡ whole_row (row_of ss).letter (row_of ss).numbers n
unfolding row_from
fields-row [] n e h = absurd (no_letter h)
fields-row ([] ∷ fs) n e h = absurd (no_letter h)
fields-row ((b ∷ []) ∷ fs) n e h = simp h (read_whole b fs n (none_bad 2 fs e))
fields-row ((b ∷ c ∷ s) ∷ fs) n e h = absurd (no_letter h)
