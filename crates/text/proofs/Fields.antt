-- The fields of a line, one after another, off the text that goes on behind it; and where a number's field ends. Assumes nothing.
use Prim.Native.Nat.{ℕ, ◌+◌, ◌≤◌, ◌<◌}
use mathlib.Core.Path.{◌≡◌, refl, sym, ap, ◌∙◌}
use mathlib.Core.List.{List, [], ◌∷◌}
use mathlib.Core.Bool.{true, false, cond, false≢true, true≢false}
use native.Mathlib.Omega.{arith}
use native.Mathlib.Nat.{zero-add}
use lib.ListN.{length, drop, length-drop}
use lib.Seq.{drop-drop}
use lib.Dec.{eqb}
use borrow.Author.Tests.{ne_eqb, eqb-true}
use Rattle.rules.specs.Lists.{is_empty}
use Rattle.rules.specs.Text.{tab, newline, on_first_field, fields, decimal, is_number, leading}
use Rattle.text.specs.declared.Numeral.{Numeral}
use Rattle.text.specs.Number.{is_stop, stop_in, field_of, number_to, stopped_at, number_of, number_at}
use Rattle.text.proofs.Tools.{by_test}
use Rattle.text.proofs.Lines.{body_of, is_ended, line_length}

-- ---- a field, and what stands behind it

unfoldable pub left_of : List ℕ → List ℕ
left_of [] = []
left_of (b ∷ bs) = cond (is_stop b) (b ∷ bs) (left_of bs)

pub left_drop : (bs : List ℕ) → left_of bs ≡ drop (length (field_of bs)) bs
unfolding left_of field_of
left_drop [] = refl
left_drop (b ∷ bs) = by_test (is_stop b) (λ e. simp e) (λ e. simp (e, left_drop bs))

left_stops : (bs : List ℕ) → stop_in (left_of bs) ≡ true
unfolding left_of stop_in
left_stops [] = refl
left_stops (b ∷ bs) = by_test (is_stop b) (λ e. simp e) (λ e. simp (e, left_stops bs))

pub stop-field : (bs : List ℕ) → stop_in bs ≡ true → (field_of bs ≡ []) × (left_of bs ≡ bs)
unfolding stop_in field_of left_of
stop-field [] e = (refl, refl)
stop-field (b ∷ bs) e = (simp e, simp e)

-- the fields behind a tab
unfoldable pub fields_left : List ℕ → List (List ℕ)
fields_left [] = []
fields_left (b ∷ bs) = cond (eqb b tab) (fields (body_of bs)) []

-- a byte is a tab, a newline or neither
pub by_byte {ℓ} : {X : Type ℓ} (b : ℕ)
    → (eqb b tab ≡ true → eqb b newline ≡ false → is_stop b ≡ true → X)
    → (eqb b tab ≡ false → eqb b newline ≡ true → is_stop b ≡ true → X)
    → (eqb b tab ≡ false → eqb b newline ≡ false → is_stop b ≡ false → X) → X
unfolding is_stop
by_byte b t n o =
    by_test (eqb b tab)
    (λ e. t e (ne_eqb b newline (λ f. omega (arith, eqb-true b tab e))) (simp e))
    (λ e. by_test (eqb b newline) (λ f. n e f (simp (e, f))) (λ f. o e f (simp (e, f))))

fields-tab : (b : ℕ) (s : List ℕ) → eqb b tab ≡ true → fields (b ∷ s) ≡ [] ∷ fields s
fields-tab b s e = rw (e, fields)

fields-on : (b : ℕ) (s : List ℕ) → eqb b tab ≡ false → fields (b ∷ s) ≡ on_first_field b (fields s)
fields-on b s e = rw (e, fields)

-- the fields of the first line of a text: the one at the front, and those behind its tab
pub fields_split : (bs : List ℕ) → fields (body_of bs) ≡ field_of bs ∷ fields_left (left_of bs)
unfolding body_of field_of fields_left left_of
fields_split [] = refl
fields_split (b ∷ bs) =
    by_byte b
    (λ t n s. simp (n, s, t) (fields-tab b (body_of bs) t))
    (λ t n s. simp (t, n, s))
    (λ t n s. simp (n, s) (fields-on b (body_of bs) t ∙ ap (on_first_field b) (fields_split bs)))

pub ended-split : (bs : List ℕ) → is_ended bs ≡ is_ended (left_of bs)
unfolding is_ended left_of
ended-split [] = refl
ended-split (b ∷ bs) =
    by_byte b (λ t n s. simp s) (λ t n s. simp s) (λ t n s. simp (n, s, ended-split bs))

pub line-split : (bs : List ℕ) → line_length bs ≡ length (field_of bs) + line_length (left_of bs)
unfolding line_length left_of field_of
line-split [] = refl
line-split (b ∷ bs) =
    by_byte b (λ t n s. simp (s, zero-add)) (λ t n s. simp (s, zero-add)) (λ t n s. simp (n, s) (omega (arith, line-split bs)))

-- ---- the numbers of the fields before the first that is none

module _ (f : List ℕ) (fs : List (List ℕ)) where
  pub leading-more : is_number f ≡ true → leading (f ∷ fs) ≡ decimal 0 f ∷ leading fs
  leading-more g = rw (g, leading)

  pub leading-stop : is_number f ≡ false → leading (f ∷ fs) ≡ []
  leading-stop g = rw (g, leading)

-- ---- what reading a number says of the field that stands there

pub record NumberHere (s : List ℕ) (at v n : ℕ) : Type 0 where
  pub good : is_number (field_of (drop at s)) ≡ true
  pub value : v ≡ decimal 0 (field_of (drop at s))
  pub next : n ≡ at + length (field_of (drop at s))

same_number : (v n w m : ℕ) → number_to v n ≡ number_to w m → (v ≡ w) × (n ≡ m)
same_number v n w m e =
    let r : ◌≡◌ {A = Numeral} (record { value = v; next = n }) (record { value = w; next = m }) = cc in
    (ap (λ (x : Numeral). x.value) r, ap (λ (x : Numeral). x.next) r)

pub value-here : (s : List ℕ) (at v n : ℕ) → number_to v n ≡ number_at s at → NumberHere s at v n
unfolding number_at number_of
value-here s at v n e =
    by_test (is_number (field_of (drop at s)))
    (λ g. let h = same_number v n _ _ (simp g at e) in record { good = g; value = h.0; next = h.1 })
    (λ g. absurd (let h = simp g at e in cc))

pub fault-here : (s : List ℕ) (at k : ℕ) → stopped_at k ≡ number_at s at → is_number (field_of (drop at s)) ≡ false
unfolding number_at number_of
fault-here s at k e =
    by_test (is_number (field_of (drop at s))) (λ g. absurd (let h = simp g at e in cc)) (λ g. g)

-- ---- where a number ends

field-length : (bs : List ℕ) → length (field_of bs) ≤ length bs
unfolding field_of
field-length [] = omega arith
field-length (b ∷ bs) = by_test (is_stop b) (λ e. simp e (omega arith)) (λ e. simp e (omega (arith, field-length bs)))

number-length : (f : List ℕ) → is_number f ≡ true → 0 < length f
number-length [] e = absurd (false≢true e)
number-length (b ∷ f) e = omega arith

pub left_at : (s : List ℕ) (at v n : ℕ) → NumberHere s at v n → left_of (drop at s) ≡ drop n s
left_at s at v n h =
    left_drop (drop at s) ∙ drop-drop (length (field_of (drop at s))) at s ∙ ap (λ (k : ℕ). drop k s) (sym h.next)

pub record Ends (s : List ℕ) (at n : ℕ) : Type 0 where
  pub after : at < n
  pub inside : n ≤ length s
  pub stops : stop_in (drop n s) ≡ true

pub ends : (s : List ℕ) (at v n : ℕ) → number_to v n ≡ number_at s at → at ≤ length s → Ends s at n
ends s at v n p l =
    let h = value-here s at v n p in
    let e = left_at s at v n h in
    record {
      after = omega (arith, number-length (field_of (drop at s)) h.good);
      inside = omega (arith, field-length (drop at s), length-drop at s);
      stops = ap stop_in (sym e) ∙ left_stops (drop at s);
    }

-- ---- one byte of it

pub not-stop : (b : ℕ) (bs : List ℕ) → (b ≡ 9 → ⊥) → (b ≡ 10 → ⊥) → stop_in (b ∷ bs) ≡ false
unfolding stop_in is_stop
not-stop b bs t n = simp (ne_eqb b 9 t, ne_eqb b 10 n)

pub run_field : (bs : List ℕ) → stop_in bs ≡ false → is_empty (field_of bs) ≡ false
unfolding stop_in field_of
run_field [] e = absurd (true≢false e)
run_field (b ∷ bs) e = simp e
