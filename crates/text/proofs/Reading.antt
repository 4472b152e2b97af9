-- Reading a line field by field: what is still to come of its row, from a position at which a field has ended. Assumes nothing.
use Prim.Native.Nat.{ℕ, zero, suc, ◌+◌, ◌≤◌, ◌<◌}
use mathlib.Core.Path.{◌≡◌, refl, sym, ap, ◌∙◌}
use mathlib.Core.Logic.{◌⊎◌, ⊎_elim}
use mathlib.Core.List.{List, [], ◌∷◌, ◌++◌, append_assoc, append-nil}
use mathlib.Core.Bool.{Bool, true, false, cond, false≢true, true≢false, and-false}
use native.Mathlib.Omega.{arith}
use native.Mathlib.Nat.{add-zero, zero-add}
use lib.ListN.{length, drop, set, drop_of_length-le, length-append}
use lib.Dec.{eqb}
use borrow.Author.Tests.{le-leb, lt-leb, ne_eqb, eqb-true, eqb-false}
use mir.Val.{bool_byte}
use Rattle.rules.specs.Lists.{is_empty}
use Rattle.rules.specs.Text.{Line, fields, decimal, is_number, leading}
use Rattle.text.specs.declared.Row.{Row}
use Rattle.text.specs.Number.{is_stop, stop_in, field_of, number_to, stopped_at, number_at, ByteAt}
use Rattle.text.specs.Line.{next_at, padded, bad_field, is_letter, unread_row, read_row, row_from, row_at}
use Rattle.text.proofs.Tools.{by_test, by_order, shift}
use Rattle.text.proofs.Lines.{body_of, is_ended, line_length, line-is, next-is}
use Rattle.text.proofs.Fields.{left_of, fields_left, stop-field, by_byte, fields_split, ended-split, line-split}
use Rattle.text.proofs.Fields.{leading-more, leading-stop, value-here, fault-here, left_at, Ends, ends, not-stop, run_field}
use Rattle.text.proofs.Bytes.{first-is}

-- ---- the first k numbers, filled one by one

set-padded : (k : ℕ) (ns : List ℕ) (v : ℕ) → set (padded k ns) (length ns) v ≡ padded k (ns ++ v ∷ [])
unfolding padded
set-padded zero ns v = refl
set-padded (suc k) [] v = refl
set-padded (suc k) (n ∷ ns) v = ap (λ (l : List ℕ). n ∷ l) (set-padded k ns v)

fill_from : ℕ → List ℕ → List ℕ → List ℕ
fill_from c ns [] = ns
fill_from c ns (v ∷ vs) = fill_from (c + 1) (set ns c v) vs

fill_padded : (k : ℕ) (ns vs : List ℕ) → fill_from (length ns) (padded k ns) vs ≡ padded k (ns ++ vs)
unfolding fill_from
fill_padded k ns [] = ap (padded k) (sym (append-nil ns))
fill_padded k ns (v ∷ vs) =
    ap (λ (l : List ℕ). fill_from (length ns + 1) l vs) (set-padded k ns v)
    ∙ ap (λ (n : ℕ). fill_from n (padded k (ns ++ v ∷ [])) vs) (sym (length-append ns (v ∷ [])))
    ∙ fill_padded k (ns ++ v ∷ []) vs
    ∙ ap (padded k) (append_assoc ns (v ∷ []) vs)

-- ---- a row, from its letter, the numbers so far, and the fields that are left

-- a row by its fields: one that broke off at a field that is no number, and one read to its end
abbrev row_by : ℕ → ℕ → List ℕ → ℕ → Bool → ℕ → Row
row_by l c ns bad e n = record { letter = l; count = c; nums = ns; bad = bad; ended = e; next = n }

abbrev broken_row : ℕ → ℕ → List ℕ → Row
broken_row l c ns = row_by l c ns (c + 2) true 0

abbrev ended_row : ℕ → ℕ → List ℕ → Bool → ℕ → Row
ended_row l c ns e n = row_by l c ns 0 e n

-- where `bad` is the first of the fields left that is no number
abbrev row_with : ℕ → ℕ → List ℕ → List ℕ → ℕ → Bool → ℕ → Row
row_with l c ns vs bad e n = row_by l (c + length vs) (fill_from c ns vs) bad (cond (eqb bad 0) e true) (cond (eqb bad 0) n 0)

rest_of : ℕ → ℕ → List ℕ → List (List ℕ) → Bool → ℕ → Row
rest_of l c ns fs e n = row_with l c ns (leading fs) (bad_field (c + 2) fs) e n

module _ (f : List ℕ) (fs : List (List ℕ)) where
  bad_more : (k : ℕ) → is_number f ≡ true → bad_field k (f ∷ fs) ≡ bad_field (suc k) fs
  unfolding bad_field
  bad_more k g = ap (λ (t : Bool). cond t (bad_field (suc k) fs) k) g

  bad_here : (k : ℕ) → is_number f ≡ false → bad_field k (f ∷ fs) ≡ k
  unfolding bad_field
  bad_here k g = ap (λ (t : Bool). cond t (bad_field (suc k) fs) k) g

module _ (l c : ℕ) (ns : List ℕ) where
  module _ (f : List ℕ) (fs : List (List ℕ)) (e : Bool) (n : ℕ) where
    rest_more : is_number f ≡ true → rest_of l c ns (f ∷ fs) e n ≡ rest_of l (c + 1) (set ns c (decimal 0 f)) fs e n
    unfolding rest_of fill_from
    rest_more g =
        let bad = bad_field (c + 1 + 2) fs in
        let k : suc (c + 2) ≡ c + 1 + 2 = omega arith in
        ap (λ (vs : List ℕ). row_with l c ns vs (bad_field (c + 2) (f ∷ fs)) e n) (leading-more f fs g)
        ∙ ap (λ (b : ℕ). row_with l c ns (decimal 0 f ∷ leading fs) b e n) (bad_more f fs (c + 2) g ∙ ap (λ (j : ℕ). bad_field j fs) k)
        ∙ ap (λ (m : ℕ). row_by l m (fill_from (c + 1) (set ns c (decimal 0 f)) (leading fs)) bad (cond (eqb bad 0) e true) (cond (eqb bad 0) n 0))
        (shift c (length (leading fs)))

    rest_bad : is_number f ≡ false → rest_of l c ns (f ∷ fs) e n ≡ broken_row l c ns
    unfolding rest_of fill_from
    rest_bad g =
        let z : eqb (c + 2) 0 ≡ false = ne_eqb (c + 2) 0 (λ k. omega arith) in
        ap (λ (vs : List ℕ). row_with l c ns vs (bad_field (c + 2) (f ∷ fs)) e n) (leading-stop f fs g)
        ∙ ap (λ (b : ℕ). row_with l c ns [] b e n) (bad_here f fs (c + 2) g)
        ∙ simp (z, add-zero)

  rest-none : (e : Bool) (n : ℕ) → rest_of l c ns [] e n ≡ ended_row l c ns e n
  unfolding rest_of fill_from bad_field
  rest-none e n = simp add-zero

rest_all : (b : ℕ) (fs : List (List ℕ)) (e : Bool) (n : ℕ) → read_row b fs e n ≡ rest_of b 0 (padded 12 []) fs e n
unfolding read_row rest_of
rest_all b fs e n = simp (zero-add, fill_padded 12 [] (leading fs))

-- ---- the row of the first line of a text

-- what is still to come of it, at a position where a field has ended
row_rest : ℕ → ℕ → List ℕ → ℕ → List ℕ → Row
row_rest l c ns i bs = rest_of l c ns (fields_left bs) (is_ended bs) (i + line_length bs)

-- all of it
row_text : ℕ → List ℕ → Row
row_text at bs = row_from (field_of bs ∷ fields_left (left_of bs)) (is_ended bs) (at + line_length bs)

row-text : (s : List ℕ) (at : ℕ) → row_at s at ≡ row_text at (drop at s)
unfolding row_at row_text
row-text s at =
    ap (λ (l : Line). row_from (fields l.bytes) l.ended (next_at s at)) (line-is s at)
    ∙ ap (λ (n : ℕ). row_from (fields (body_of (drop at s))) (is_ended (drop at s)) n) (next-is s at)
    ∙ ap (λ (fs : List (List ℕ)). row_from fs (is_ended (drop at s)) (at + line_length (drop at s))) (fields_split (drop at s))

text-none : (at : ℕ) → row_text at [] ≡ unread_row 0
unfolding row_text field_of left_of fields_left row_from
text-none at = refl

letter_low : (b : ℕ) → b < 65 → is_letter b ≡ false
unfolding is_letter
letter_low b h = simp (lt-leb 65 b h)

letter_high : (b : ℕ) → 90 < b → is_letter b ≡ false
unfolding is_letter
letter_high b h = simp (lt-leb b 90 h, and-false)

letter_yes : (b : ℕ) → 65 ≤ b → b ≤ 90 → is_letter b ≡ true
unfolding is_letter
letter_yes b l u = simp (le-leb 65 b l, le-leb b 90 u)

from_other : (b : ℕ) (f : List ℕ) (fs : List (List ℕ)) (e : Bool) (n : ℕ) → is_letter b ≡ false → row_from ((b ∷ f) ∷ fs) e n ≡ unread_row 1
unfolding row_from
from_other b [] fs e n h = simp h
from_other b (c ∷ f) fs e n h = refl

from-long : (b : ℕ) (f : List ℕ) (fs : List (List ℕ)) (e : Bool) (n : ℕ) → is_empty f ≡ false → row_from ((b ∷ f) ∷ fs) e n ≡ unread_row 1
unfolding row_from
from-long b [] fs e n h = absurd (true≢false h)
from-long b (c ∷ f) fs e n h = refl

from-tab : (f : List ℕ) (fs : List (List ℕ)) (e : Bool) (n : ℕ) → row_from ([] ∷ f ∷ fs) e n ≡ unread_row 1
unfolding row_from
from-tab f fs e n = refl

module _ (at b : ℕ) (bs : List ℕ) where
  text_run : is_stop b ≡ false
      → row_text at (b ∷ bs) ≡ row_from ((b ∷ field_of bs) ∷ fields_left (left_of bs)) (is_ended (b ∷ bs)) (at + line_length (b ∷ bs))
  unfolding row_text field_of left_of
  text_run s = simp s

  text-line : b ≡ 10 → row_text at (b ∷ bs) ≡ unread_row 0
  unfolding row_text field_of left_of fields_left is_stop row_from
  text-line h = simp h

  -- a first byte that is no letter and no newline
  text_bad : is_letter b ≡ false → (b ≡ 10 → ⊥) → row_text at (b ∷ bs) ≡ unread_row 1
  unfolding row_text field_of left_of fields_left
  text_bad h n =
      by_byte b
      (λ t l s. simp (s, t, fields_split bs) (from-tab _ _ _ _))
      (λ t l s. absurd (n (eqb-true b 10 l)))
      (λ t l s. text_run s ∙ from_other b _ _ _ _ h)

  module _ (l : 65 ≤ b) (u : b ≤ 90) where
    runs : is_stop b ≡ false
    unfolding is_stop
    runs = simp (ne_eqb b 9 (λ e. omega arith), ne_eqb b 10 (λ e. omega arith))

    text-long : stop_in bs ≡ false → row_text at (b ∷ bs) ≡ unread_row 1
    text-long h = text_run runs ∙ from-long b _ _ _ _ (run_field bs h)

    text-start : stop_in bs ≡ true → row_text at (b ∷ bs) ≡ row_rest b 0 (padded 12 []) (at + 1) bs
    unfolding row_rest row_from is_ended line_length
    text-start h =
        let n : eqb b 10 ≡ false = ne_eqb b 10 (λ e. omega arith) in
        text_run runs
        ∙ simp ((stop-field bs h).0, (stop-field bs h).1, letter_yes b l u, n)
        (rest_all b (fields_left bs) (is_ended bs) (at + suc (line_length bs)) ∙ simp shift)

-- ---- the loop: what a turn, and each way out, makes of what is still to come

module _ (l c : ℕ) (ns : List ℕ) (i : ℕ) (bs : List ℕ) where
  turn-length : i + line_length (9 ∷ bs) ≡ i + 1 + length (field_of bs) + line_length (left_of bs)
  unfolding line_length
  turn-length = omega (arith, line-split bs)

  left_tab : fields_left (9 ∷ bs) ≡ field_of bs ∷ fields_left (left_of bs)
  unfolding fields_left
  left_tab = fields_split bs

  row-turn : is_number (field_of bs) ≡ true
      → row_rest l c ns i (9 ∷ bs) ≡ row_rest l (c + 1) (set ns c (decimal 0 (field_of bs))) (i + 1 + length (field_of bs)) (left_of bs)
  unfolding row_rest is_ended
  row-turn g =
      ap (λ (fs : List (List ℕ)). rest_of l c ns fs (is_ended bs) (i + line_length (9 ∷ bs))) left_tab
      ∙ ap (λ (e : Bool). rest_of l c ns (field_of bs ∷ fields_left (left_of bs)) e (i + line_length (9 ∷ bs))) (ended-split bs)
      ∙ ap (λ (n : ℕ). rest_of l c ns (field_of bs ∷ fields_left (left_of bs)) (is_ended (left_of bs)) n) turn-length
      ∙ rest_more l c ns (field_of bs) (fields_left (left_of bs)) (is_ended (left_of bs)) (i + 1 + length (field_of bs) + line_length (left_of bs)) g

  row_bad : is_number (field_of bs) ≡ false → row_rest l c ns i (9 ∷ bs) ≡ broken_row l c ns
  unfolding row_rest
  row_bad g =
      ap (λ (fs : List (List ℕ)). rest_of l c ns fs (is_ended (9 ∷ bs)) (i + line_length (9 ∷ bs))) left_tab
      ∙ rest_bad l c ns (field_of bs) (fields_left (left_of bs)) (is_ended (9 ∷ bs)) (i + line_length (9 ∷ bs)) g

  row_line : row_rest l c ns i (10 ∷ bs) ≡ ended_row l c ns true (i + 1)
  unfolding row_rest fields_left is_ended line_length
  row_line = rest-none l c ns true (i + 1)

  row_end : row_rest l c ns i [] ≡ ended_row l c ns false i
  unfolding row_rest fields_left is_ended line_length
  row_end = rest-none l c ns false (i + 0) ∙ simp add-zero

-- ---- the same at a position of a text, as the code has it

pub row_left : List ℕ → ℕ → ℕ → List ℕ → ℕ → Row
row_left s l c ns i = row_rest l c ns i (drop i s)

abbrev pub twelve : List ℕ
twelve = 0 ∷ 0 ∷ 0 ∷ 0 ∷ 0 ∷ 0 ∷ 0 ∷ 0 ∷ 0 ∷ 0 ∷ 0 ∷ 0 ∷ []

module _ (s : List ℕ) (at b : ℕ) where
  text-here : ByteAt s at b → at < length s → row_at s at ≡ row_text at (b ∷ drop (at + 1) s)
  text-here h l = row-text s at ∙ ap (row_text at) (first-is s at b h l)

  -- a line that is empty, or none
  pub row_empty : ByteAt s at b → ((at < length s) × (b ≡ 10)) ⊎ (length s ≤ at) → unread_row 0 ≡ row_at s at
  row_empty h o =
      by_order at (length s)
      (λ l. ⊎_elim (λ n. sym (text-here h l ∙ text-line at b (drop (at + 1) s) n.1)) (λ m. absurd (omega arith)) o)
      (λ l. sym (row-text s at ∙ ap (row_text at) (drop_of_length-le s l) ∙ text-none at))

  -- a first byte that is no letter
  pub row_other : ByteAt s at b → at < length s → (b ≡ 10 → ⊥) → (b < 65) ⊎ (90 < b) → unread_row 1 ≡ row_at s at
  row_other h l n o = sym (text-here h l ∙ text_bad at b (drop (at + 1) s) (⊎_elim (letter_low b) (letter_high b) o) n)

  -- a letter that is no field of its own
  pub row_long : ByteAt s at b → 65 ≤ b → b ≤ 90 → false ≡ stop_in (drop (at + 1) s) → unread_row 1 ≡ row_at s at
  row_long h l u e = sym (text-here h (h.inside (omega arith)) ∙ text-long at b (drop (at + 1) s) l u (sym e))

  pub row_start : ByteAt s at b → 65 ≤ b → b ≤ 90 → stop_in (drop (at + 1) s) ≡ true → row_at s at ≡ row_left s b 0 twelve (at + 1)
  unfolding row_left padded
  row_start h l u e = text-here h (h.inside (omega arith)) ∙ text-start at b (drop (at + 1) s) l u e

module _ (s : List ℕ) (at l c : ℕ) (ns : List ℕ) (i b : ℕ) where
  pub row_more : (v n : ℕ) → row_at s at ≡ row_left s l c ns i → ByteAt s i b → b ≡ 9 → number_to v n ≡ number_at s (i + 1)
      → row_at s at ≡ row_left s l (c + 1) (set ns c v) n
  unfolding row_left
  row_more v n k h t p =
      let f = first-is s i b h (h.inside (omega arith)) in
      let w = value-here s (i + 1) v n p in
      cc (row-turn l c ns i (drop (i + 1) s) w.good, left_at s (i + 1) v n w)

  pub row_fault : (f : ℕ) → row_at s at ≡ row_left s l c ns i → ByteAt s i b → b ≡ 9 → stopped_at f ≡ number_at s (i + 1)
      → broken_row l c ns ≡ row_at s at
  unfolding row_left
  row_fault f k h t p =
      let g = first-is s i b h (h.inside (omega arith)) in
      cc (row_bad l c ns i (drop (i + 1) s) (fault-here s (i + 1) f p))

  -- behind the numbers stands the newline, or the text's end
  pub row_ended : row_at s at ≡ row_left s l c ns i → stop_in (drop i s) ≡ true → ByteAt s i b → (b ≡ 9 → ⊥)
      → ended_row l c ns (eqb b 10) (i + bool_byte (eqb b 10)) ≡ row_at s at
  unfolding row_left
  row_ended k p h t =
      by_order i (length s)
      (λ q. by_test (eqb b 10)
      (λ n. let f = first-is s i b h q in let e = eqb-true b 10 n in simp n (cc (row_line l c ns i (drop (i + 1) s))))
      (λ n. let f = first-is s i b h q in absurd (false≢true (cc (not-stop b (drop (i + 1) s) t (eqb-false b 10 n))))))
      (λ q. simp (ne_eqb b 10 (λ n. omega (arith, h.inside (omega arith))), add-zero) (cc (row_end l c ns i [], drop_of_length-le s q)))

-- where the number behind a tab ends
pub turn_ends : (s : List ℕ) (i b v n : ℕ) → ByteAt s i b → b ≡ 9 → number_to v n ≡ number_at s (i + 1) → Ends s (i + 1) n
turn_ends s i b v n h t p = ends s (i + 1) v n p (omega (arith, h.inside (omega arith)))

pub bit-most : (b : Bool) → bool_byte b ≤ 1
bit-most true = omega arith
bit-most false = omega arith

pub ruleset row_laws = (row_empty, row_start, row_ended, bit-most)
