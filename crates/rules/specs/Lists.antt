-- What the definitions say of lists. Assumes nothing.
use Rattle.std.specs.Prelude.{ℕ, zero, suc, ◌+◌, Bool, true, false, ◌&&◌, ◌||◌, List, [], ◌∷◌, ◌++◌, eqb}

module _ {A : Type 0} where
  -- x in front of xs where the test is true
  abbrev pub keep_if : Bool → A → List A → List A
  keep_if true x xs = x ∷ xs
  keep_if false x xs = xs

  -- the elements that pass a test, in their order
  abbrev pub those : (A → Bool) → List A → List A
  those p [] = []
  those p (x ∷ xs) = keep_if (p x) x (those p xs)

  -- whether one passes, and whether all do
  abbrev pub any : (A → Bool) → List A → Bool
  any p [] = false
  any p (x ∷ xs) = p x || any p xs

  abbrev pub all : (A → Bool) → List A → Bool
  all p [] = true
  all p (x ∷ xs) = p x && all p xs

  -- a fact of each element
  abbrev pub Each : (A → Type 0) → List A → Type 0
  Each P [] = Unit {0}
  Each P (x ∷ xs) = P x × Each P xs

  -- the sum of g over the elements
  abbrev pub sum_of : (A → ℕ) → List A → ℕ
  sum_of g [] = 0
  sum_of g (x ∷ xs) = g x + sum_of g xs

  abbrev pub is_empty : List A → Bool
  is_empty [] = true
  is_empty (x ∷ xs) = false

module _ {A B : Type 0} where
  -- the lists that g gives, one after another
  abbrev pub each : (A → List B) → List A → List B
  each g [] = []
  each g (x ∷ xs) = g x ++ each g xs

-- two lists of numbers are the same
abbrev pub same_numbers : List ℕ → List ℕ → Bool
same_numbers [] [] = true
same_numbers [] (y ∷ ys) = false
same_numbers (x ∷ xs) [] = false
same_numbers (x ∷ xs) (y ∷ ys) = eqb x y && same_numbers xs ys

-- x is one of the numbers
abbrev pub among : ℕ → List ℕ → Bool
among x ys = any (eqb x) ys

abbrev pub one_if : Bool → ℕ
one_if true = 1
one_if false = 0

-- how often x stands in a list
abbrev pub times : ℕ → List ℕ → ℕ
times x ys = sum_of (λ y. one_if (eqb x y)) ys

-- 0, 1, .. : the n numbers from i on
abbrev pub count_up : ℕ → ℕ → List ℕ
count_up i zero = []
count_up i (suc n) = i ∷ count_up (suc i) n
