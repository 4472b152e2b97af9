-- Which tokens are labels. Assumes nothing.
use mathlib.Core.Path.{◌≡◌, refl}
use mathlib.Core.Bool.{true, false}
use Prim.Native.Nat.{ℕ, ◌-◌, ◌≤◌}
use native.Mathlib.Omega.{arith}
use lib.Dec.{leb}
use borrow.Author.Tests.{le-leb, lt-leb, leb-true}
use Rattle.rules.specs.Text.{largest}
use Rattle.rules.specs.Eval.{label, open_object, close_object, open_list, close_list, null}
use Rattle.rules.proofs.Bools.{and-true_left, and-true_right}
use Rattle.tokens.specs.Response.{largest_label}
use Rattle.tokens.specs.Check.{is_label}

pub label_is_lem : (l : ℕ) → l ≤ largest_label → is_label (label l) ≡ true
unfolding is_label
label_is_lem l h = rw (le-leb (label 0) (label l) (omega arith), le-leb (label l) (label largest_label) (omega arith))

pub value_no_label : (v : ℕ) → v ≤ largest → is_label v ≡ false
unfolding is_label
value_no_label v h = rw (lt-leb (label 0) v (omega arith))

-- The label that a token is.
pub record LabelOf (x : ℕ) : Type 0 where
  pub number : ℕ
  pub is : x ≡ label number
  pub low : number ≤ largest_label

pub label_of : (x : ℕ) → is_label x ≡ true → LabelOf x
unfolding is_label
label_of x h =
    let above : label 0 ≤ x = leb-true _ _ (and-true_left (leb (label 0) x) _ h) in
    let below : x ≤ label largest_label = leb-true _ _ (and-true_right (leb (label 0) x) _ h) in
    record { number = x - label 0; is = omega arith; low = omega arith }

-- No mark is one.
pub open_no_label : is_label open_object ≡ false
unfolding is_label
open_no_label = refl

pub close_no_label : is_label close_object ≡ false
unfolding is_label
close_no_label = refl

pub begin_no_label : is_label open_list ≡ false
unfolding is_label
begin_no_label = refl

pub end_no_label : is_label close_list ≡ false
unfolding is_label
end_no_label = refl

pub null_no_label : is_label null ≡ false
unfolding is_label
null_no_label = refl
