-- A number at a position of a text. A field ends before a tab, a newline or the end. Assumes nothing.
use Rattle.std.specs.Prelude.{ℕ, suc, ◌+◌, ◌-◌, ◌*◌, ◌<◌, ◌≡◌, List, [], ◌∷◌, Bool, true, cond, ◌&&◌, ◌||◌, length, drop, get_or, ltb, leb, eqb, Option, Some, None, IfSome, Result, Ok, Err}
use Rattle.rules.specs.Text.{tab, newline, is_digit, decimal, is_number}
use Rattle.text.specs.declared.Numeral.{Numeral}
use Rattle.text.specs.declared.Stopped.{Stopped}

-- a tab or a newline
unfoldable pub is_stop : ℕ → Bool
is_stop b = eqb b tab || eqb b newline

-- the field at the front of a list of bytes
unfoldable pub field_of : List ℕ → List ℕ
field_of [] = []
field_of (b ∷ bs) = cond (is_stop b) [] (b ∷ field_of bs)

-- whether the byte b may continue a number that so far is v: a digit, after no lone 0, with at most nine digits in all
unfoldable pub goes : ℕ → ℕ → Bool
goes v b = is_digit b && (ltb 0 v && leb v 99999999)

unfoldable pub good_from : ℕ → List ℕ → ℕ
good_from v [] = 0
good_from v (b ∷ bs) = cond (goes v b) (suc (good_from (v * 10 + (b - 48)) bs)) 0

-- how many bytes of a field can be read before one that no number has there
unfoldable pub good_part : List ℕ → ℕ
good_part [] = 0
good_part (b ∷ bs) = cond (is_digit b) (suc (good_from (b - 48) bs)) 0

-- a number and where its field ends; where the reader of a number stopped
abbrev pub number_to : ℕ → ℕ → Result Numeral Stopped
number_to n end = Ok (record { value = n; next = end })

abbrev pub stopped_at : ℕ → Result Numeral Stopped
stopped_at i = Err (record { at = i })

unfoldable pub number_of : List ℕ → ℕ → Result Numeral Stopped
number_of f at = cond (is_number f) (number_to (decimal 0 f) (at + length f)) (stopped_at (at + good_part f))

-- what reading a number at a position of a text finds
unfoldable pub number_at : List ℕ → ℕ → Result Numeral Stopped
number_at s at = number_of (field_of (drop at s)) at

-- ---- one byte

unfoldable pub digit_in : List ℕ → Option ℕ
digit_in [] = None
digit_in (b ∷ bs) = cond (is_digit b) (Some (b - 48)) None

unfoldable pub stop_in : List ℕ → Bool
stop_in [] = true
stop_in (b ∷ bs) = is_stop b

-- r is the digit that stands at i, if one does
pub record DigitAt (s : List ℕ) (i : ℕ) (r : Option ℕ) : Type 0 where
  pub is : r ≡ digit_in (drop i s)
  pub most : IfSome r (λ d. d < 10)
  pub inside : IfSome r (λ d. i < length s)

-- r is the byte at i, 0 past the end
pub record ByteAt (s : List ℕ) (i r : ℕ) : Type 0 where
  pub is : r ≡ get_or s i 0
  pub inside : 0 < r → i < length s
