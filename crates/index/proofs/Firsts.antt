-- The numbers from j on that pass a test, and the first of them: n where there is none. Assumes nothing.
use Prim.Native.Nat.{ℕ, zero, suc, ◌-◌, ◌≤◌, ◌<◌}
use native.Mathlib.Omega.{arith}
use native.Mathlib.Decide.{dec_lt}
use mathlib.Core.Path.{◌≡◌, refl, sym, ap, ◌∙◌}
use mathlib.Core.Bool.{Bool, true, false}
use mathlib.Core.List.{List}
use lib.ListN.{get_or}
use Rattle.rules.specs.Lists.{those, keep_if, count_up}
use Rattle.rules.proofs.Bools.{clash}

module _ (p : ℕ → Bool) (n : ℕ) where
  abbrev pub passing : ℕ → ℕ → List ℕ
  passing j k = those p (count_up j k)

  abbrev pub first : ℕ → ℕ → ℕ
  first j k = get_or (passing j k) 0 n

  -- it does not stand before j, and it passes
  pub first_past : (k j : ℕ) → n - j ≡ k → first j k < n → j ≤ first j k
  first_past zero j e h = absurd (omega arith)
  first_past (suc k) j e h = go (λ x. first_past k (suc j) (omega arith) x) (p j) h
    where
      go : (first (suc j) k < n → suc j ≤ first (suc j) k) → (b : Bool) → get_or (keep_if b j (passing (suc j) k)) 0 n < n
          → j ≤ get_or (keep_if b j (passing (suc j) k)) 0 n
      go ih true x = omega arith
      go ih false x = omega (arith, ih x)

  pub first_passes : (k j : ℕ) → n - j ≡ k → first j k < n → p (first j k) ≡ true
  first_passes zero j e h = absurd (omega arith)
  first_passes (suc k) j e h = go (λ x. first_passes k (suc j) (omega arith) x) (p j) refl h
    where
      go : (first (suc j) k < n → p (first (suc j) k) ≡ true) → (b : Bool) → p j ≡ b → get_or (keep_if b j (passing (suc j) k)) 0 n < n
          → p (get_or (keep_if b j (passing (suc j) k)) 0 n) ≡ true
      go ih true t x = t
      go ih false t x = ih x

  -- none before it does
  pub first_misses : (k j i : ℕ) → n - j ≡ k → j ≤ i → i < first j k → p i ≡ false
  first_misses zero j i e l h = absurd (omega arith)
  first_misses (suc k) j i e l h = go (λ x y. first_misses k (suc j) i (omega arith) x y) (p j) refl h (dec_lt j i)
    where
      go : (suc j ≤ i → i < first (suc j) k → p i ≡ false) → (b : Bool) → p j ≡ b → i < get_or (keep_if b j (passing (suc j) k)) 0 n
          → Dec (j < i) → p i ≡ false
      go ih true t x d = absurd (omega arith)
      go ih false t x (yes d) = ih (omega arith) x
      go ih false t x (no d) = let s : i ≡ j = omega arith in ap p s ∙ t

  -- those that pass a narrower test start at the first that passes this one
  pub skipped : (q : ℕ → Bool) → ((i : ℕ) → q i ≡ true → p i ≡ true) → (k j : ℕ) → n - j ≡ k
      → those q (count_up j k) ≡ those q (count_up (first j k) (n - first j k))
  skipped q s zero j e = let z : n - n ≡ 0 = omega arith in sym (ap (λ (m : ℕ). those q (count_up n m)) z)
  skipped q s (suc k) j e = go (skipped q s k (suc j) (omega arith)) (p j) refl (q j) refl
    where
      go : those q (count_up (suc j) k) ≡ those q (count_up (first (suc j) k) (n - first (suc j) k)) → (b : Bool) → p j ≡ b
          → (d : Bool) → q j ≡ d
          → keep_if d j (those q (count_up (suc j) k))
          ≡ those q (count_up (get_or (keep_if b j (passing (suc j) k)) 0 n) (n - get_or (keep_if b j (passing (suc j) k)) 0 n))
      go ih true t d r =
          ap (λ (x : Bool). keep_if x j (those q (count_up (suc j) k))) (sym r) ∙ ap (λ (m : ℕ). those q (count_up j m)) (sym e)
      go ih false t true r = absurd (clash (s j r) t)
      go ih false t false r = ih
