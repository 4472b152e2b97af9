-- Going through a text line by line: the lines from a position on are the one that starts there and those after it. Assumes nothing.
use Prim.Native.Nat.{ℕ, suc, ◌+◌, ◌≤◌, ◌<◌}
use mathlib.Core.Path.{◌≡◌, refl, sym, ap, ◌∙◌}
use mathlib.Core.List.{List, [], ◌∷◌}
use mathlib.Core.Bool.{Bool, false, cond, ◌||◌}
use native.Mathlib.Omega.{arith}
use lib.ListN.{length, drop, get_or, drop_of_length-le, length-drop}
use lib.Seq.{drop-cons, drop-drop}
use lib.Dec.{eqb}
use Rattle.rules.specs.Lists.{one_if}
use Rattle.rules.specs.Text.{Line, on_first_line, lines, newline}
use Rattle.text.specs.Line.{head_line, line_at, next_at}
use Rattle.text.proofs.Tools.{by_test}

-- ---- the first line of a text, byte by byte

-- its bytes, whether a newline ends it, and how many bytes it takes with that newline
unfoldable pub body_of : List ℕ → List ℕ
body_of [] = []
body_of (b ∷ bs) = cond (eqb b newline) [] (b ∷ body_of bs)

unfoldable pub is_ended : List ℕ → Bool
is_ended [] = false
is_ended (b ∷ bs) = eqb b newline || is_ended bs

unfoldable pub line_length : List ℕ → ℕ
line_length [] = 0
line_length (b ∷ bs) = cond (eqb b newline) 1 (suc (line_length bs))

abbrev line_of : List ℕ → Line
line_of bs = record { bytes = body_of bs; ended = is_ended bs }

on-head : (b : ℕ) (ls : List Line) → head_line (on_first_line b ls) ≡ record { bytes = b ∷ (head_line ls).bytes; ended = (head_line ls).ended }
unfolding head_line
on-head b [] = refl
on-head b (l ∷ ls) = refl

pub head-is : (bs : List ℕ) → head_line (lines bs) ≡ line_of bs
unfolding head_line body_of is_ended
head-is [] = refl
head-is (b ∷ bs) =
    by_test (eqb b newline)
    (λ e. rw (e, lines))
    (λ e. rw (e, lines) (on-head b (lines bs) ∙ ap (λ (l : Line). record { bytes = b ∷ l.bytes; ended = l.ended }) (head-is bs)))

length-is : (bs : List ℕ) → length (body_of bs) + one_if (is_ended bs) ≡ line_length bs
unfolding body_of is_ended line_length
length-is [] = refl
length-is (b ∷ bs) = by_test (eqb b newline) (λ e. simp e) (λ e. simp e (omega (arith, length-is bs)))

first_on : (b : ℕ) (l : Line) (ls rest : List Line) → ls ≡ l ∷ rest → on_first_line b ls ≡ record { bytes = b ∷ l.bytes; ended = l.ended } ∷ rest
first_on b l ls rest e = ap (on_first_line b) e

pub lines-first : (b : ℕ) (bs : List ℕ) → lines (b ∷ bs) ≡ line_of (b ∷ bs) ∷ lines (drop (line_length (b ∷ bs)) (b ∷ bs))
unfolding body_of is_ended line_length
lines-first b [] = by_test (eqb b newline) (λ e. rw (e, lines)) (λ e. rw (e, lines))
lines-first b (c ∷ cs) =
    by_test (eqb b newline)
    (λ e. rw (e, lines))
    (λ e. rw (e, lines) (first_on b (line_of (c ∷ cs)) (lines (c ∷ cs)) (lines (drop (line_length (c ∷ cs)) (c ∷ cs))) (lines-first c cs)))

pub line-length : (b : ℕ) (bs : List ℕ) → (0 < line_length (b ∷ bs)) × (line_length (b ∷ bs) ≤ length (b ∷ bs))
unfolding line_length
line-length b [] = by_test (eqb b newline) (λ e. simp e (omega arith)) (λ e. simp e (omega arith))
line-length b (c ∷ cs) = by_test (eqb b newline) (λ e. simp e (omega arith)) (λ e. simp e (omega (arith, line-length c cs)))

-- ---- the line at a position

module _ (s : List ℕ) (at : ℕ) where
  pub line-is : line_at s at ≡ line_of (drop at s)
  unfolding line_at
  line-is = head-is (drop at s)

  pub next-is : next_at s at ≡ at + line_length (drop at s)
  unfolding next_at
  next-is =
      ap (λ (l : Line). at + (length l.bytes + one_if l.ended)) line-is ∙ ap (λ (n : ℕ). at + n) (length-is (drop at s))

  module _ (h : at < length s) where
    here : drop at s ≡ get_or s at 0 ∷ drop (suc at) s
    here = drop-cons s at 0 h

    pub lines-here : lines (drop at s) ≡ line_at s at ∷ lines (drop (next_at s at) s)
    lines-here =
        ap lines here
        ∙ lines-first (get_or s at 0) (drop (suc at) s)
        ∙ sym (ap (λ (bs : List ℕ). line_of bs ∷ lines (drop (line_length bs) bs)) here)
        ∙ ap (λ (bs : List ℕ). line_of (drop at s) ∷ lines bs) (drop-drop (line_length (drop at s)) at s)
        ∙ ap (λ (n : ℕ). line_of (drop at s) ∷ lines (drop n s)) (sym next-is)
        ∙ ap (λ (l : Line). l ∷ lines (drop (next_at s at) s)) (sym line-is)

    pub next-inside : (at < next_at s at) × (next_at s at ≤ length s)
    next-inside =
        let w = line-length (get_or s at 0) (drop (suc at) s) in
        let e = ap line_length here in
        let l = ap length here in
        let n = next-is in
        omega (arith, length-drop at s)

  pub lines_end : length s ≤ at → lines (drop at s) ≡ []
  lines_end h = ap lines (drop_of_length-le s h)
