-- What one byte of a text says, as the code tests it. Assumes nothing.
use Prim.Native.Nat.{ℕ, suc, ◌+◌, ◌-◌, ◌≤◌, ◌<◌}
use mathlib.Core.Path.{◌≡◌, sym}
use mathlib.Core.List.{List, ◌∷◌}
use mathlib.Core.Bool.{true, false}
use native.Mathlib.Omega.{arith}
use native.Mathlib.Numerals.{add-one}
use lib.ListN.{length, drop, get_or, set, drop_of_length-le}
use lib.Seq.{drop-cons, set_out}
use borrow.Author.Tests.{ne_eqb}
use Rattle.std.specs.Prelude.{Some, None}
use Rattle.rules.specs.Text.{is_digit}
use Rattle.text.specs.Number.{is_stop, digit_in, stop_in, DigitAt, ByteAt}
use Rattle.text.proofs.Tools.{by_order}

-- the byte at a position is the first of what is left
pub at_first : (s : List ℕ) (i : ℕ) → i < length s → drop i s ≡ get_or s i 0 ∷ drop (suc i) s
at_first s i h = drop-cons s i 0 h

module _ (s : List ℕ) (i b : ℕ) where
  -- the byte that was read is the first of what is left
  pub first-is : ByteAt s i b → i < length s → drop i s ≡ b ∷ drop (i + 1) s
  first-is h l = cc (at_first s i l, add-one i, h.is)

  pub digit-yes : ByteAt s i b → true ≡ is_digit b → 48 ≤ b → b ≤ 57 → DigitAt s i (Some (b - 48))
  unfolding digit_in
  digit-yes h d l u =
      let inside = h.inside (omega arith) in
      record { is = simp (first-is h inside, sym d); most = omega arith; inside = inside }

  pub digit_no : ByteAt s i b → false ≡ is_digit b → DigitAt s i None
  unfolding digit_in
  digit_no h d =
      by_order i (length s)
      (λ l. record { is = simp (first-is h l, sym d); most = tt; inside = tt })
      (λ l. record { is = simp (drop_of_length-le s l); most = tt; inside = tt })

pub ruleset digit_laws = (digit-yes, digit_no)

module _ (s : List ℕ) (i : ℕ) where
  pub stop_here : i < length s → get_or s i 0 ≡ 9 → true ≡ stop_in (drop i s)
  unfolding stop_in is_stop
  stop_here h e = simp (at_first s i h, e)

  pub stop_line : i < length s → get_or s i 0 ≡ 10 → true ≡ stop_in (drop i s)
  unfolding stop_in is_stop
  stop_line h e = simp (at_first s i h, e)

  pub stop_not : i < length s → (get_or s i 0 ≡ 9 → ⊥) → (get_or s i 0 ≡ 10 → ⊥) → false ≡ stop_in (drop i s)
  unfolding stop_in is_stop
  stop_not h t n = simp (at_first s i h, ne_eqb (get_or s i 0) 9 t, ne_eqb (get_or s i 0) 10 n)

  pub stop_end : length s ≤ i → true ≡ stop_in (drop i s)
  unfolding stop_in
  stop_end h = simp (drop_of_length-le s h)

pub ruleset stop_laws = (stop_here, stop_line, stop_not, stop_end)

pub set_past : (l : List ℕ) (i v : ℕ) → length l ≤ i → l ≡ set l i v
set_past l i v h = sym (set_out l i v h)
