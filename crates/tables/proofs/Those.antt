-- Laws of `those` and `any`, and of a list that is read by its places. Assumes nothing.
use Prim.Native.Nat.{ℕ, zero, suc, ◌+◌, ◌<◌}
use native.Mathlib.Omega.{arith}
use mathlib.Core.Path.{◌≡◌, refl, ap, ap₂, ◌∙◌}
use mathlib.Core.Bool.{Bool, true, false, ◌&&◌, ◌||◌, or-false}
use mathlib.Core.List.{List, [], ◌∷◌, ◌++◌, map, reverse, reverse_aux}
use lib.ListN.{length, get_or, get_or-append}
use Rattle.rules.specs.Lists.{those, keep_if, any, count_up}

module _ {A : Type 0} where
  -- ---- the elements that pass a test

  pub those-append : (p : A → Bool) (xs ys : List A) → those p (xs ++ ys) ≡ those p xs ++ those p ys
  those-append p [] ys = refl
  those-append p (x ∷ xs) ys = go (those-append p xs ys) (p x)
    where
      go : those p (xs ++ ys) ≡ those p xs ++ those p ys → (b : Bool) → keep_if b x (those p (xs ++ ys)) ≡ keep_if b x (those p xs) ++ those p ys
      go ih true = ap (λ (l : List A). x ∷ l) ih
      go ih false = ih

  pub those-pass : (p : A → Bool) (xs : List A) (d : A) (j : ℕ) → j < length (those p xs) → p (get_or (those p xs) j d) ≡ true
  those-pass p [] d j h = absurd (omega arith)
  those-pass p (x ∷ xs) d j h = go (λ i k. those-pass p xs d i k) (p x) refl j h
    where
      go : ((i : ℕ) → i < length (those p xs) → p (get_or (those p xs) i d) ≡ true) → (b : Bool) → p x ≡ b
          → (i : ℕ) → i < length (keep_if b x (those p xs)) → p (get_or (keep_if b x (those p xs)) i d) ≡ true
      go ih true e zero k = e
      go ih true e (suc i) k = ih i (omega arith)
      go ih false e i k = ih i k

  -- those of the front come first
  pub those-front : (p : A → Bool) (xs ys : List A) (d : A) (j : ℕ) → j < length (those p xs)
      → get_or (those p (xs ++ ys)) j d ≡ get_or (those p xs) j d
  those-front p xs ys d j h =
      ap (λ (l : List A). get_or l j d) (those-append p xs ys) ∙ get_or-append (those p xs) (those p ys) d j h

  -- two tests, one after the other, are one
  pub any-those : (p g : A → Bool) (xs : List A) → any g (those p xs) ≡ any (λ x. p x && g x) xs
  any-those p g [] = refl
  any-those p g (x ∷ xs) = go (any-those p g xs) (p x)
    where
      go : any g (those p xs) ≡ any (λ y. p y && g y) xs → (b : Bool)
          → any g (keep_if b x (those p xs)) ≡ ((b && g x) || any (λ y. p y && g y) xs)
      go ih true = ap (λ (t : Bool). g x || t) ih
      go ih false = ih

  pub those-those : (p g : A → Bool) (xs : List A) → those g (those p xs) ≡ those (λ x. p x && g x) xs
  those-those p g [] = refl
  those-those p g (x ∷ xs) = go (those-those p g xs) (p x)
    where
      go : those g (those p xs) ≡ those (λ y. p y && g y) xs → (b : Bool)
          → those g (keep_if b x (those p xs)) ≡ keep_if (b && g x) x (those (λ y. p y && g y) xs)
      go ih true = ap (λ (l : List A). keep_if (g x) x l) ih
      go ih false = ih

  -- ---- places in place of elements: f asks of a place what g asks of the element there

  shifted : {B : Type 0} (d : A) (f : ℕ → B) (g : A → B) (i : ℕ) (x : A) (xs : List A)
      → ((j : ℕ) → j < length (x ∷ xs) → f (i + j) ≡ g (get_or (x ∷ xs) j d)) → (j : ℕ) → j < length xs → f (suc i + j) ≡ g (get_or xs j d)
  shifted d f g i x xs h j k = ap f (omega arith) ∙ h (suc j) (omega arith)

  starting : {B : Type 0} (d : A) (f : ℕ → B) (g : A → B) (i : ℕ) (x : A) (xs : List A)
      → ((j : ℕ) → j < length (x ∷ xs) → f (i + j) ≡ g (get_or (x ∷ xs) j d)) → f i ≡ g x
  starting d f g i x xs h = ap f (omega arith) ∙ h 0 (omega arith)

  pub any-from : (d : A) (f : ℕ → Bool) (g : A → Bool) (i : ℕ) (xs : List A)
      → ((j : ℕ) → j < length xs → f (i + j) ≡ g (get_or xs j d)) → any f (count_up i (length xs)) ≡ any g xs
  any-from d f g i [] h = refl
  any-from d f g i (x ∷ xs) h =
      ap₂ (λ (s t : Bool). s || t) (starting d f g i x xs h) (any-from d f g (suc i) xs (shifted d f g i x xs h))

  -- and u gives of a place what v gives of the element there
  pub kept_from : {B : Type 0} (d : A) (f : ℕ → Bool) (g : A → Bool) (u : ℕ → B) (v : A → B) (i : ℕ) (xs : List A)
      → ((j : ℕ) → j < length xs → f (i + j) ≡ g (get_or xs j d)) → ((j : ℕ) → j < length xs → u (i + j) ≡ v (get_or xs j d))
      → map u (those f (count_up i (length xs))) ≡ map v (those g xs)
  kept_from d f g u v i [] h k = refl
  kept_from {B = B} d f g u v i (x ∷ xs) h k =
      rw (starting d f g i x xs h) (go (kept_from d f g u v (suc i) xs (shifted d f g i x xs h) (shifted d u v i x xs k)) (g x))
    where
      go : map u (those f (count_up (suc i) (length xs))) ≡ map v (those g xs) → (b : Bool)
          → map u (keep_if b i (those f (count_up (suc i) (length xs)))) ≡ map v (keep_if b x (those g xs))
      go ih true = ap₂ (λ (y : B) (ys : List B). y ∷ ys) (starting d u v i x xs k) ih
      go ih false = ih

  -- the same from place 0 on
  pub any-places : (d : A) (f : ℕ → Bool) (g : A → Bool) (xs : List A)
      → ((j : ℕ) → j < length xs → f j ≡ g (get_or xs j d)) → any f (count_up 0 (length xs)) ≡ any g xs
  any-places d f g xs h = any-from d f g 0 xs (λ j k. ap f (omega arith) ∙ h j k)

  pub kept-places : {B : Type 0} (d : A) (f : ℕ → Bool) (g : A → Bool) (u : ℕ → B) (v : A → B) (xs : List A)
      → ((j : ℕ) → j < length xs → f j ≡ g (get_or xs j d)) → ((j : ℕ) → j < length xs → u j ≡ v (get_or xs j d))
      → map u (those f (count_up 0 (length xs))) ≡ map v (those g xs)
  kept-places d f g u v xs h k =
      kept_from d f g u v 0 xs (λ j l. ap f (omega arith) ∙ h j l) (λ j l. ap u (omega arith) ∙ k j l)

  -- ---- places in place of the elements that pass a test

  module _ (d : A) (p : A → Bool) (xs : List A) (f : ℕ → Bool) (g : A → Bool)
      (same : (j : ℕ) → j < length (those p xs) → f j ≡ g (get_or (those p xs) j d)) where
    pub any-passing : any f (count_up 0 (length (those p xs))) ≡ any (λ x. p x && g x) xs
    any-passing = any-places d f g (those p xs) same ∙ any-those p g xs

    pub kept-passing : {B : Type 0} (u : ℕ → B) (v : A → B) → ((j : ℕ) → j < length (those p xs) → u j ≡ v (get_or (those p xs) j d))
        → map u (those f (count_up 0 (length (those p xs)))) ≡ map v (those (λ x. p x && g x) xs)
    kept-passing u v e = kept-places d f g u v (those p xs) same e ∙ ap (map v) (those-those p g xs)

  -- ---- the lines before one are held the last first: tests and counts do not mind

  any-turned : (p : A → Bool) (xs ys : List A) → any p (reverse_aux xs ys) ≡ (any p xs || any p ys)
  any-turned p [] ys = refl
  any-turned p (x ∷ xs) ys = any-turned p xs (x ∷ ys) ∙ swap (p x) (any p xs)
    where
      swap : (b c : Bool) → (c || (b || any p ys)) ≡ ((b || c) || any p ys)
      swap true true = refl
      swap true false = refl
      swap false true = refl
      swap false false = refl

  pub any-reverse : (p : A → Bool) (xs : List A) → any p (reverse xs) ≡ any p xs
  any-reverse p xs = any-turned p xs [] ∙ or-false (any p xs)

  those-turned : (p : A → Bool) (xs ys : List A) → length (those p (reverse_aux xs ys)) ≡ length (those p xs) + length (those p ys)
  those-turned p [] ys = omega arith
  those-turned p (x ∷ xs) ys = those-turned p xs (x ∷ ys) ∙ go (p x)
    where
      go : (b : Bool) → length (those p xs) + length (keep_if b x (those p ys)) ≡ length (keep_if b x (those p xs)) + length (those p ys)
      go true = omega arith
      go false = refl

  pub those-reverse : (p : A → Bool) (xs : List A) → length (those p (reverse xs)) ≡ length (those p xs)
  those-reverse p xs = omega (arith, those-turned p xs [])
