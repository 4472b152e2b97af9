-- What each answer says, and no two answers are right; one law for each way through `judge`. Assumes nothing.
use mathlib.Core.Path.{◌≡◌, refl}
use mathlib.Core.Logic.{◌↔◌}
use mathlib.Core.Bool.{Bool, true, false}
use mathlib.Core.List.{List}
use Prim.Native.Nat.{ℕ}
use native.Mathlib.Omega.{arith}
use Rattle.rules.specs.Lists.{one_if}
use Rattle.rules.specs.declared.Reply.{Reply}
use Rattle.rules.proofs.Bools.{clash}
use Rattle.tokens.specs.Response.{IsResponse}
use Rattle.shorten.specs.Strikes.{enough, Shortened}
use Rattle.shorten.specs.Judge.{reply_of, Judged, says-yes, says_no, refuses-first, refuses-second}

first_of : {f s : List ℕ} → Shortened f s → IsResponse f
first_of h = (h.0, h.2)

second-of : {f s : List ℕ} → Shortened f s → IsResponse s
second-of h = (h.1, h.3)

-- One answer is right.
pub single : (f s : List ℕ) (a b : Reply) → Judged f s a → Judged f s b → a ≡ b
single f s _ _ (says-yes p) (says-yes q) = refl
single f s _ _ (says-yes p) (says_no q r n) = absurd (n p)
single f s _ _ (says-yes p) (refuses-first n) = absurd (n (first_of p))
single f s _ _ (says-yes p) (refuses-second q n) = absurd (n (second-of p))
single f s _ _ (says_no q r n) (says-yes p) = absurd (n p)
single f s _ _ (says_no q r n) (says_no _ _ _) = refl
single f s _ _ (says_no q r n) (refuses-first k) = absurd (k q)
single f s _ _ (says_no q r n) (refuses-second _ k) = absurd (k r)
single f s _ _ (refuses-first n) (says-yes p) = absurd (n (first_of p))
single f s _ _ (refuses-first n) (says_no q r k) = absurd (n q)
single f s _ _ (refuses-first n) (refuses-first _) = refl
single f s _ _ (refuses-first n) (refuses-second q k) = absurd (n q)
single f s _ _ (refuses-second q n) (says-yes p) = absurd (n (second-of p))
single f s _ _ (refuses-second q n) (says_no _ r k) = absurd (n r)
single f s _ _ (refuses-second q n) (refuses-first k) = absurd (k q)
single f s _ _ (refuses-second q n) (refuses-second _ _) = refl

-- What each part of a right answer says: yes exactly when the second sequence is made from the first,
pub yes_exactly : {f s : List ℕ} {r : Reply} → Judged f s r → (r.yes ≡ 1) ↔ Shortened f s
yes_exactly (says-yes m) = (λ e. m, λ h. refl)
yes_exactly (says_no a b n) = (λ e. absurd (omega arith), λ h. absurd (n h))
yes_exactly (refuses-first n) = (λ e. absurd (omega arith), λ h. absurd (n (first_of h)))
yes_exactly (refuses-second a n) = (λ e. absurd (omega arith), λ h. absurd (n (second-of h)))

-- 71 exactly when the first is no response,
pub first-refused_exactly : {f s : List ℕ} {r : Reply} → Judged f s r → (r.outcome.number ≡ 71) ↔ (IsResponse f → ⊥)
first-refused_exactly (says-yes m) = (λ e. absurd (omega arith), λ n. absurd (n (first_of m)))
first-refused_exactly (says_no a b n) = (λ e. absurd (omega arith), λ k. absurd (k a))
first-refused_exactly (refuses-first n) = (λ e. n, λ k. refl)
first-refused_exactly (refuses-second a n) = (λ e. absurd (omega arith), λ k. absurd (k a))

-- 72 exactly when the first is one and the second is not,
pub second-refused_exactly : {f s : List ℕ} {r : Reply} → Judged f s r
    → (r.outcome.number ≡ 72) ↔ (IsResponse f × (IsResponse s → ⊥))
second-refused_exactly (says-yes m) = (λ e. absurd (omega arith), λ k. absurd (k.1 (second-of m)))
second-refused_exactly (says_no a b n) = (λ e. absurd (omega arith), λ k. absurd (k.1 b))
second-refused_exactly (refuses-first n) = (λ e. absurd (omega arith), λ k. absurd (n k.0))
second-refused_exactly (refuses-second a n) = (λ e. (a, n), λ k. refl)

-- the place is 0, and a response is made from itself.
pub place_none : {f s : List ℕ} {r : Reply} → Judged f s r → r.outcome.place ≡ 0
place_none (says-yes m) = refl
place_none (says_no a b n) = refl
place_none (refuses-first n) = refl
place_none (refuses-second a n) = refl

pub unchanged : (f : List ℕ) → IsResponse f → Judged f f (reply_of 1 0)
unchanged f (R, h) = says-yes (R, R, h, h, enough)

-- ---- the ways through `judge`: a and b are what was told of the two sequences, m what was told of both

pub told : {P : Type 0} {b : Bool} → (b ≡ true) ↔ P → b ≡ true → P
told tells p = tells.0 p

pub denied : {P : Type 0} {b : Bool} → (b ≡ true) ↔ P → b ≡ false → P → ⊥
denied tells p h = clash (tells.1 h) p

pub judged : {f s : List ℕ} → IsResponse f → IsResponse s → (b : Bool) → (b ≡ true) ↔ Shortened f s → Judged f s (reply_of (one_if b) 0)
judged a b true m = says-yes (m.0 refl)
judged a b false m = says_no a b (denied m refl)
