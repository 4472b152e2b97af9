-- 01's words on type conditions: a child takes its parent's multiplicity at nodes of compatible type, and all others are 0. Assumes nothing.
use Prim.Native.Nat.{ℕ, zero, suc, ◌+◌, ◌*◌, ◌<◌}
use native.Mathlib.Nat.{mul-zero, mul-one}
use native.Mathlib.Omega.{arith}
use mathlib.Core.Path.{◌≡◌, refl, sym, ap, ◌∙◌, subst}
use mathlib.Core.Bool.{Bool, true, false, cond}
use mathlib.Core.List.{List, [], ◌∷◌}
use lib.ListN.{get_or}
use borrow.Author.Tests.{eq-eqb, ne_eqb}
use Rattle.rules.specs.Lists.{times}
use Rattle.rules.specs.Tree.{on}
use Rattle.rules.specs.World.{World}
use Rattle.rules.specs.Eval.{next, stay}
use Rattle.rules.specs.Sizing.{weighed, passed}
use Rattle.rules.specs.declared.TypeNo.{TypeNo}
use Rattle.rules.proofs.Visited.{get_or_up}

stay_other : (b : Bool) (v u : ℕ) → (v ≡ u → ⊥) → times v (stay b u) ≡ 0
stay_other true v u h = rw (ne_eqb v u h)
stay_other false v u h = refl

stay-same : (b : Bool) (m v : ℕ) → m * times v (stay b v) ≡ cond b m 0
stay-same true m v = rw (eq-eqb v v refl) (mul-one m)
stay-same false m v = mul-zero m

module _ (f : ℕ → Bool) where
  past : (v i : ℕ) (row : List ℕ) → v < i → weighed (λ u. times v (stay (f u) u)) i row ≡ 0
  past v i [] h = refl
  past v i (m ∷ ms) h =
      let r = past v (suc i) ms (omega arith) in
      let z = ap (λ (x : ℕ). m * x) (stay_other (f i) v i (λ e. omega arith)) in
      omega (arith, mul-zero m)

  pub at_place : (v i k : ℕ) (row : List ℕ) → v ≡ i + k → weighed (λ u. times v (stay (f u) u)) i row ≡ cond (f v) (get_or row k 0) 0
  at_place v i k [] p = go (f v)
    where
      go : (b : Bool) → ◌≡◌ {A = ℕ} 0 (cond b 0 0)
      go true = refl
      go false = refl
  at_place v i zero (m ∷ ms) p =
      let e : i ≡ v = omega arith in
      let h : m * times v (stay (f i) i) ≡ cond (f v) m 0 =
      subst (λ (x : ℕ). m * times v (stay (f x) x) ≡ cond (f v) m 0) (sym e) (stay-same (f v) m v) in
      omega (arith, past v (suc i) ms (omega arith))
  at_place v i (suc k) (m ∷ ms) p =
      let r = at_place v (suc i) k ms (omega arith) in
      let z = ap (λ (x : ℕ). m * x) (stay_other (f i) v i (λ e. omega arith)) in
      omega (arith, mul-zero m)

pub kept : (w : World) (t : TypeNo) (row : List ℕ) (v : ℕ) → v < w.size
    → get_or (passed w (on t) row) v 0 ≡ cond (w.holds v t) (get_or row v 0) 0
kept w t row v h =
    get_or_up (λ x. weighed (λ u. times x (next w (on t) u)) 0 row) 0 w.size v h
    ∙ ap (λ (x : ℕ). weighed (λ u. times x (next w (on t) u)) 0 row) (omega arith)
    ∙ at_place (λ u. w.holds u t) v 0 v row (omega arith)
