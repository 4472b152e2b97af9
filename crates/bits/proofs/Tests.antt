-- Tests that are equal, and a test of n numbers, one after another. Assumes nothing.
use Prim.Native.Nat.{ℕ, zero, suc, ◌+◌, ◌≤◌, ◌<◌}
use native.Mathlib.Omega.{arith}
use mathlib.Core.Path.{◌≡◌, refl, sym, ap, ◌∙◌}
use mathlib.Core.Bool.{Bool, true, false, false≢true}
use borrow.Author.Tests.{eqb-true, eqb-false}
use lib.Dec.{eqb}
use Rattle.rules.specs.Lists.{any, count_up}

pub both_ways : (b c : Bool) → (b ≡ true → c ≡ true) → (c ≡ true → b ≡ true) → b ≡ c
both_ways true c f g = sym (f refl)
both_ways false true f g = g refl
both_ways false false f g = refl

pub any_where : (f : ℕ → Bool) (i n : ℕ) → any f (count_up i n) ≡ true → (j : ℕ) × ((j < i + n) × (f j ≡ true))
any_where f i zero h = absurd (false≢true h)
any_where f i (suc n) h = go (λ k. any_where f (suc i) n k) (f i) refl
  where
    go : (any f (count_up (suc i) n) ≡ true → (j : ℕ) × ((j < suc i + n) × (f j ≡ true))) → (b : Bool) → f i ≡ b
        → (j : ℕ) × ((j < i + suc n) × (f j ≡ true))
    go ih true e = (i, (omega arith, e))
    go ih false e = let r = ih (rw e at h) in (r.0, (omega (arith, r.1.0), r.1.1))

pub any-there : (f : ℕ → Bool) (i n j : ℕ) → i ≤ j → j < i + n → f j ≡ true → any f (count_up i n) ≡ true
any-there f i zero j h l e = absurd (omega arith)
any-there f i (suc n) j h l e = go (λ k. any-there f (suc i) n j k (omega arith) e) (f i) refl
  where
    further : f i ≡ false → suc i ≤ j
    further t = at (eqb i j) refl
      where
        at : (b : Bool) → eqb i j ≡ b → suc i ≤ j
        at true s = absurd (false≢true (sym t ∙ ap f (eqb-true i j s) ∙ e))
        at false s = omega (arith, eqb-false i j s)

    go : (suc i ≤ j → any f (count_up (suc i) n) ≡ true) → (b : Bool) → f i ≡ b → any f (count_up i (suc n)) ≡ true
    go ih true t = rw t
    go ih false t = rw t (ih (further t))
