-- Reading a number byte by byte: what is still to come of it, from the value so far and the bytes left. Assumes nothing.
use Prim.Native.Nat.{ℕ, ◌+◌, ◌-◌, ◌*◌, ◌≤◌, ◌<◌}
use mathlib.Core.Path.{◌≡◌, sym, ap, ◌∙◌}
use mathlib.Core.List.{List, [], ◌∷◌}
use mathlib.Core.Bool.{Bool, true, false, cond, not, ◌&&◌, ◌||◌, false≢true, true≢false, and-false, or-true}
use native.Mathlib.Omega.{arith}
use native.Mathlib.Nat.{add-zero, zero-add}
use native.Mathlib.Numerals.{add-one}
use lib.ListN.{length, drop, get_or, drop_of_length-le}
use lib.Dec.{ltb, leb, eqb}
use borrow.Author.Tests.{le-ltb, lt-ltb, le-leb, lt-leb, ne_eqb, leb-true, leb-false, ltb-true, eqb-true, eqb-false}
use Rattle.rules.specs.Lists.{all, is_empty}
use Rattle.rules.specs.Text.{is_digit, decimal, largest, is_number}
use Rattle.std.specs.Prelude.{Some, None, Result}
use Rattle.text.specs.declared.Numeral.{Numeral}
use Rattle.text.specs.declared.Stopped.{Stopped}
use Rattle.text.specs.Number.{DigitAt, is_stop, digit_in, stop_in, field_of, goes, good_from, good_part, number_to, stopped_at, number_of, number_at}
use Rattle.text.proofs.Tools.{by_test, by_order, shift}
use Rattle.text.proofs.Bytes.{at_first}

value_grows : (v : ℕ) (f : List ℕ) → v ≤ decimal v f
value_grows v [] = omega arith
value_grows v (b ∷ bs) = omega (arith, value_grows (v * 10 + (b - 48)) bs)

-- whether digits may follow digits that write v
all_of : ℕ → List ℕ → Bool
all_of v f = all is_digit f && ((is_empty f || ltb 0 v) && leb (decimal v f) largest)

module _ (v b : ℕ) where
  goes-yes : is_digit b ≡ true → ltb 0 v ≡ true → leb v 99999999 ≡ true → goes v b ≡ true
  unfolding goes
  goes-yes d p s = simp (d, p, s)

  goes-big : is_digit b ≡ true → leb v 99999999 ≡ false → goes v b ≡ false
  unfolding goes
  goes-big d s = simp (d, s, and-false)

  goes-zero : is_digit b ≡ true → ltb 0 v ≡ false → goes v b ≡ false
  unfolding goes
  goes-zero d p = simp (d, p)

  goes-not : is_digit b ≡ false → goes v b ≡ false
  unfolding goes
  goes-not d = simp d

all-step : (v b : ℕ) (bs : List ℕ) → all_of v (b ∷ bs) ≡ cond (goes v b) (all_of (v * 10 + (b - 48)) bs) false
unfolding all_of
all-step v b bs =
    by_test (is_digit b)
    (λ d. by_test (ltb 0 v)
    (λ p. by_test (leb v 99999999)
    (λ s. let pos : 0 < v * 10 + (b - 48) = omega (arith, ltb-true 0 v p) in
    simp (d, p, goes-yes v b d p s, lt-ltb 0 (v * 10 + (b - 48)) pos, or-true))
    (λ s. let big : 999999999 < decimal (v * 10 + (b - 48)) bs = omega (arith, leb-false v 99999999 s, value_grows (v * 10 + (b - 48)) bs) in
    simp (d, p, goes-big v b d s, lt-leb (decimal (v * 10 + (b - 48)) bs) 999999999 big, and-false)))
    (λ p. simp (d, p, goes-zero v b d p, and-false)))
    (λ d. simp (d, goes-not v b d))

digit_range : (b : ℕ) → is_digit b ≡ true → (48 ≤ b) × (b ≤ 57)
digit_range b d =
    by_test (leb 48 b)
    (λ l. (leb-true 48 b l, leb-true b 57 (simp l at d)))
    (λ l. absurd (false≢true (simp l at d)))

-- a digit is no tab and no newline
digit-runs : (b : ℕ) → is_digit b ≡ true → is_stop b ≡ false
unfolding is_stop
digit-runs b d =
    let r = digit_range b d in
    simp (ne_eqb b 9 (λ e. omega arith), ne_eqb b 10 (λ e. omega arith))

zero-digit : (b : ℕ) → is_digit b ≡ true → not (eqb b 48) ≡ ltb 0 (b - 48)
zero-digit b d =
    let r = digit_range b d in
    by_test (eqb b 48)
    (λ e. simp (e, le-ltb 0 (b - 48) (omega (arith, eqb-true b 48 e))))
    (λ e. simp (e, lt-ltb 0 (b - 48) (omega (arith, eqb-false b 48 e))))

-- a number is a first digit and digits that may follow it
number-all : (b : ℕ) (bs : List ℕ) → is_number (b ∷ bs) ≡ (is_digit b && all_of (b - 48) bs)
unfolding all_of
number-all b [] = by_test (is_digit b) (λ d. simp (d, zero-add)) (λ d. simp d)
number-all b (c ∷ bs) = by_test (is_digit b) (λ d. simp (d, zero-add, zero-digit b d)) (λ d. simp d)

-- what reading comes to, from the value so far, the position, and the field's bytes that are left
pub read_from : ℕ → ℕ → List ℕ → Result Numeral Stopped
read_from v i f = cond (all_of v f) (number_to (decimal v f) (i + length f)) (stopped_at (i + good_from v f))

value-first : (b : ℕ) (bs : List ℕ) → decimal 0 (b ∷ bs) ≡ decimal (b - 48) bs
value-first b bs = ap (λ (v : ℕ). decimal v bs) (zero-add (b - 48))

module _ (v i b : ℕ) (bs : List ℕ) (d : is_digit b ≡ true) where
  read_more : 0 < v → v ≤ 99999999 → read_from v i (field_of (b ∷ bs)) ≡ read_from (v * 10 + (b - 48)) (i + 1) (field_of bs)
  unfolding read_from field_of good_from
  read_more p s = simp (digit-runs b d, all-step, goes-yes v b d (lt-ltb 0 v p) (le-leb v 99999999 s), shift)

  read-zero : v ≡ 0 → read_from v i (field_of (b ∷ bs)) ≡ stopped_at i
  unfolding read_from field_of good_from
  read-zero p = simp (digit-runs b d, all-step, goes-zero v b d (le-ltb 0 v (omega arith)), add-zero)

  read-big : 99999999 < v → read_from v i (field_of (b ∷ bs)) ≡ stopped_at i
  unfolding read_from field_of good_from
  read-big p = simp (digit-runs b d, all-step, goes-big v b d (lt-leb v 99999999 p), add-zero)

  field-more : field_of (b ∷ bs) ≡ b ∷ field_of bs
  unfolding field_of
  field-more = simp (digit-runs b d)

  number_more : number_of (field_of (b ∷ bs)) i ≡ read_from (b - 48) (i + 1) (field_of bs)
  unfolding number_of read_from good_part
  number_more =
      let f = field_of bs in
      let t : is_number (b ∷ f) ≡ all_of (b - 48) f = number-all b f ∙ simp d in
      ap (λ (g : List ℕ). number_of g i) field-more
      ∙ ap (λ (n : Bool). cond n (number_to (decimal 0 (b ∷ f)) (i + length (b ∷ f))) (stopped_at (i + good_part (b ∷ f)))) t
      ∙ ap (λ (v : ℕ). cond (all_of (b - 48) f) (number_to v (i + length (b ∷ f))) (stopped_at (i + good_part (b ∷ f)))) (value-first b f)
      ∙ simp (d, shift)

digit-none : (b : ℕ) (bs : List ℕ) → None ≡ digit_in (b ∷ bs) → is_digit b ≡ false
unfolding digit_in
digit-none b bs e = by_test (is_digit b) (λ d. absurd (let f : None ≡ Some (b - 48) = simp d at e in cc)) (λ d. d)

-- the digit that the code read, as the first byte of what is left
pub record DigitHere (s : List ℕ) (i d : ℕ) : Type 0 where
  pub byte : ℕ
  pub first : drop i s ≡ byte ∷ drop (i + 1) s
  pub digit : is_digit byte ≡ true
  pub is : d ≡ byte - 48
  pub small : d ≤ 9
  pub inside : i < length s

some-digit : (b : ℕ) (bs : List ℕ) (d : ℕ) → Some d ≡ digit_in (b ∷ bs) → (is_digit b ≡ true) × (d ≡ b - 48)
unfolding digit_in
some-digit b bs d e =
    by_test (is_digit b)
    (λ t. (t, let f : Some d ≡ Some (b - 48) = simp t at e in cc))
    (λ t. absurd (let f : Some d ≡ None = simp t at e in cc))

digit-here : (s : List ℕ) (i d : ℕ) → Some d ≡ digit_in (drop i s) → DigitHere s i d
unfolding digit_in
digit-here s i d e =
    by_order i (length s)
    (λ l. let f : drop i s ≡ get_or s i 0 ∷ drop (i + 1) s = rw add-one (at_first s i l) in
    let w = some-digit (get_or s i 0) (drop (i + 1) s) d (e ∙ ap digit_in f) in
    let r = digit_range (get_or s i 0) w.0 in
    record { byte = get_or s i 0; first = f; digit = w.0; is = w.1; small = omega (arith, w.1); inside = l })
    (λ l. absurd (let f : Some d ≡ None = e ∙ ap digit_in (drop_of_length-le s l) in cc))

-- ---- what the code's tests say of what is still to come

-- what is still to come of a number, at a position of a text
pub read_at : List ℕ → ℕ → ℕ → Result Numeral Stopped
read_at s v i = read_from v i (field_of (drop i s))

-- no digit at the front: no number, and nothing more of one
none_first : (at : ℕ) (bs : List ℕ) → None ≡ digit_in bs → number_of (field_of bs) at ≡ stopped_at at
unfolding number_of field_of good_part digit_in
none_first at [] h = simp add-zero
none_first at (b ∷ bs) h = by_test (is_stop b) (λ e. simp (e, add-zero)) (λ e. simp (e, digit-none b bs h, add-zero))

end_here : (v i : ℕ) (bs : List ℕ) → v ≤ 999999999 → None ≡ digit_in bs → stop_in bs ≡ true → read_from v i (field_of bs) ≡ number_to v i
unfolding read_from all_of field_of good_from stop_in
end_here v i [] s h e = simp (le-leb v 999999999 s, add-zero)
end_here v i (b ∷ bs) s h e = simp (e, le-leb v 999999999 s, add-zero)

fault-here : (v i : ℕ) (bs : List ℕ) → None ≡ digit_in bs → stop_in bs ≡ false → read_from v i (field_of bs) ≡ stopped_at i
unfolding read_from all_of field_of good_from stop_in
fault-here v i [] h e = absurd (true≢false e)
fault-here v i (b ∷ bs) h e = simp (e, digit-none b bs h, goes-not v b (digit-none b bs h), add-zero)

-- The loop of `number`: `read_at s v i` is what is still to come, and d the digit at i.
module _ (s : List ℕ) (at v i : ℕ) where
  pub number-none : DigitAt s at None → stopped_at at ≡ number_at s at
  unfolding number_at
  number-none h = sym (none_first at (drop at s) h.is)

  pub number_end : number_at s at ≡ read_at s v i → v ≤ 999999999 → DigitAt s i None → true ≡ stop_in (drop i s)
      → number_to v i ≡ number_at s at
  unfolding read_at
  number_end k m h e = sym (k ∙ end_here v i (drop i s) m h.is (sym e))

  pub number-fault : number_at s at ≡ read_at s v i → DigitAt s i None → false ≡ stop_in (drop i s) → stopped_at i ≡ number_at s at
  unfolding read_at
  number-fault k h e = sym (k ∙ fault-here v i (drop i s) h.is (sym e))

  module _ (d : ℕ) where
    pub number-first : DigitAt s at (Some d) → number_at s at ≡ read_at s d (at + 1)
    unfolding number_at read_at
    number-first h = let w = digit-here s at d h.is in cc (number_more 0 at w.byte (drop (at + 1) s) w.digit)

    pub number-more_at : number_at s at ≡ read_at s v i → DigitAt s i (Some d) → (v ≡ 0 → ⊥) → v ≤ 99999999
        → number_at s at ≡ read_at s (v * 10 + d) (i + 1)
    unfolding read_at
    number-more_at k h p q = let w = digit-here s i d h.is in cc (read_more v i w.byte (drop (i + 1) s) w.digit (omega arith) q)

    pub number-zero : number_at s at ≡ read_at s v i → DigitAt s i (Some d) → v ≡ 0 → stopped_at i ≡ number_at s at
    unfolding read_at
    number-zero k h p = let w = digit-here s i d h.is in cc (read-zero v i w.byte (drop (i + 1) s) w.digit p)

    pub number-big : number_at s at ≡ read_at s v i → DigitAt s i (Some d) → 99999999 < v → stopped_at i ≡ number_at s at
    unfolding read_at
    number-big k h p = let w = digit-here s i d h.is in cc (read-big v i w.byte (drop (i + 1) s) w.digit p)

pub ruleset number_laws = (number-none, number-first, number-more_at, number-zero, number-big, number_end, number-fault)
