-- One token of the check: where each leads, and the open objects as one number. Assumes nothing.
use mathlib.Core.Path.{◌≡◌, ap}
use mathlib.Core.Bool.{Bool, true, false}
use mathlib.Core.List.{List, [], ◌∷◌}
use Prim.Native.Nat.{ℕ, suc, ◌+◌, ◌*◌, ◌/◌, ◌%◌, ◌^◌, ◌≤◌, ◌<◌}
use native.Mathlib.Omega.{arith}
use native.Mathlib.Nat.{pow-succ', le_trans, lt_of_lt_of_le}
use lib.Pow.{pow_mono}
use lib.ListN.{length}
use Rattle.std.specs.Prelude.{Option, Some}
use borrow.Author.Tests.{lt-ltb, le-ltb, le-leb, eq-eqb, ne_eqb}
use Rattle.rules.specs.Lists.{one_if}
use Rattle.rules.specs.Text.{largest}
use Rattle.rules.specs.Eval.{label, close_object}
use Rattle.tokens.specs.Response.{largest_label, most_open}
use Rattle.tokens.specs.Check.{onward, full_nest, deeper, shut, accepts, step_of, on_fields, on_content, on_first, on_values}
use Rattle.tokens.specs.declared.Mode.TheVariants.{Fields, Labelled, InValues, InObjects}
use Rattle.tokens.specs.declared.State.{State}
use Rattle.tokens.proofs.Labels.{label_is_lem, close_no_label}

-- ---- the open objects, the innermost first: true where it is one of a list

abbrev pub nest : List Bool → ℕ
nest [] = 1
nest (b ∷ st) = 2 * nest st + one_if b

one_if_low : (b : Bool) → one_if b ≤ 1
one_if_low true = omega arith
one_if_low false = omega arith

nest_above : (st : List Bool) → nest st < 2 ^ suc (length st)
nest_above [] = omega arith
nest_above (b ∷ st) = omega (arith, nest_above st, one_if_low b, pow-succ' 2 (suc (length st)))

nest-below : (st : List Bool) → 2 ^ length st ≤ nest st
nest-below [] = omega arith
nest-below (b ∷ st) = omega (arith, nest-below st, pow-succ' 2 (length st))

nest-room : (st : List Bool) → length st < most_open → nest st < full_nest
nest-room st h = lt_of_lt_of_le (nest_above st) (pow_mono {j = 16} h)

pub nest-full : (st : List Bool) → most_open ≤ length st → full_nest ≤ nest st
nest-full st h = le_trans (pow_mono {i = 16} h) (nest-below st)

pub nest-one : (st : List Bool) → 1 ≤ nest st
nest-one [] = omega arith
nest-one (b ∷ st) = omega (arith, nest-one st)

-- ---- where a token leads

pub after-label : (l n : ℕ) → l ≤ largest_label → on_fields (label l) n ≡ onward Labelled n
after-label l n h = rw (label_is_lem l h)

pub after_close : (n : ℕ) → on_fields close_object n ≡ shut n
after_close n = rw close_no_label

pub after-value : (v n : ℕ) → v ≤ largest → on_content v n ≡ onward Fields n
after-value v n h = rw (le-leb v largest h)

pub after-first_value : (v n : ℕ) → v ≤ largest → on_first v n ≡ onward InValues n
after-first_value v n h = rw (le-leb v largest h)

pub after-further_value : (v n : ℕ) → v ≤ largest → on_values v n ≡ onward InValues n
after-further_value v n h = rw (le-leb v largest h)

pub opened : (b : Bool) (st : List Bool) → length st < most_open → deeper b (nest st) ≡ onward Fields (nest (b ∷ st))
opened b st h = rw (lt-ltb (nest st) full_nest (nest-room st h))

pub closed_field : (st : List Bool) → shut (nest (false ∷ st)) ≡ onward Fields (nest st)
closed_field st =
    let h : 1 ≤ nest st = nest-one st in
    let q : (2 * nest st + 0) / 2 ≡ nest st = omega arith in
    rw (le-ltb (2 * nest st + 0) 2 (omega arith), eq-eqb ((2 * nest st + 0) % 2) 0 (omega arith), q)

pub closed_row : (st : List Bool) → shut (nest (true ∷ st)) ≡ onward InObjects (nest st)
closed_row st =
    let h : 1 ≤ nest st = nest-one st in
    let q : (2 * nest st + 1) / 2 ≡ nest st = omega arith in
    rw (le-ltb (2 * nest st + 1) 2 (omega arith), ne_eqb ((2 * nest st + 1) % 2) 0 (omega arith), q)

-- one token
pub step : (x : ℕ) (f : List ℕ) (p : State) (q : Option State) → step_of p x ≡ q → accepts (x ∷ f) (Some p) ≡ accepts f q
unfolding accepts
step x f p q e = ap (accepts f) e
