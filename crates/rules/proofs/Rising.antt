-- Fields rise along a list of tests, so that the first broken test decides. Assumes nothing.
use Prim.Native.Nat.{ℕ, zero, suc, ◌+◌, ◌≤◌, min}
use native.Mathlib.Omega.{arith}
use mathlib.Core.Path.{◌≡◌, refl, sym, ap, ◌∙◌}
use mathlib.Core.Bool.{Bool, true, false}
use mathlib.Core.List.{List, [], ◌∷◌, ◌++◌}
use Rattle.std.specs.Prelude.{Option, None, Some}
use Rattle.rules.specs.Search.{Test, test_each, earlier, worse, fault_if, fault_of}

-- no fault, or one in field f or behind it
abbrev pub Behind : ℕ → Option ℕ → Type 0
Behind f None = Unit {0}
Behind f (Some g) = f ≤ g

pub behind-worse : (f : ℕ) (a b : Option ℕ) → Behind f a → Behind f b → Behind f (worse a b)
behind-worse f None b h k = k
behind-worse f (Some x) None h k = h
behind-worse f (Some zero) (Some y) h k = k
behind-worse f (Some (suc x)) (Some zero) h k = h
behind-worse f (Some (suc x)) (Some (suc y)) h k = omega arith

pub behind-if : (f g : ℕ) (b : Bool) → f ≤ g → Behind f (fault_if b g)
behind-if f g true h = h
behind-if f g false h = tt

pub behind-later : (f g : ℕ) (a : Option ℕ) → f ≤ g → Behind g a → Behind f a
behind-later f g None h k = tt
behind-later f g (Some x) h k = omega arith

pub behind-each : {A : Type 0} (bad : A → Bool) (step f : ℕ) (xs : List A) → Behind f (fault_of (test_each bad step f xs))
behind-each bad step f [] = tt
behind-each bad step f (x ∷ xs) =
    behind-worse f (fault_if (bad x) f) (fault_of (test_each bad step (step + f) xs)) (behind-if f f (bad x) (omega arith))
    (behind-later f (step + f) (fault_of (test_each bad step (step + f) xs)) (omega arith) (behind-each bad step (step + f) xs))

-- of two faults the one in the smaller field counts, whichever comes first
pub first-decides : (f : ℕ) (a : Option ℕ) → 1 ≤ f → Behind f a → worse (Some f) a ≡ Some f
first-decides f None h k = refl
first-decides zero (Some g) h k = absurd (omega arith)
first-decides (suc f) (Some zero) h k = refl
first-decides (suc f) (Some (suc g)) h k = let e : min f g ≡ f = omega arith in rw e

-- of tests one after another, the first that fails decides; one that passes says nothing
module _ {A : Type 0} (bad : A → Bool) (step f : ℕ) (x : A) (xs : List A) where
  abbrev later : Option ℕ
  later = fault_of (test_each bad step (step + f) xs)

  pub each-stop : 1 ≤ f → bad x ≡ true → fault_of (test_each bad step f (x ∷ xs)) ≡ Some f
  each-stop h e = rw e (first-decides f later h (behind-later f (step + f) later (omega arith) (behind-each bad step (step + f) xs)))

  pub each_on : bad x ≡ false → fault_of (test_each bad step f (x ∷ xs)) ≡ later
  each_on e = rw e

pub earlier-decides : (f g : ℕ) (a : Option ℕ) → 1 ≤ f → f ≤ g → Behind g a → worse (Some f) a ≡ Some f
earlier-decides f g a h l k = first-decides f a h (behind-later f g a l k)

pub last-decides : (f : ℕ) (a : Option ℕ) → 1 ≤ f → Behind f a → worse a (Some f) ≡ Some f
last-decides f None h k = refl
last-decides zero (Some g) h k = absurd (omega arith)
last-decides (suc f) (Some zero) h k = absurd (omega arith)
last-decides (suc f) (Some (suc g)) h k = let e : min g f ≡ f = omega arith in rw e

pub worse-none : (a : Option ℕ) → worse a None ≡ a
worse-none None = refl
worse-none (Some f) = refl

earlier-regroup : (x y z : ℕ) → earlier (earlier x y) z ≡ earlier x (earlier y z)
earlier-regroup zero y z = refl
earlier-regroup (suc x) zero z = refl
earlier-regroup (suc x) (suc y) zero = refl
earlier-regroup (suc x) (suc y) (suc z) = let e : min (min x y) z ≡ min x (min y z) = omega arith in ap suc e

pub worse-regroup : (a b c : Option ℕ) → worse (worse a b) c ≡ worse a (worse b c)
worse-regroup None b c = refl
worse-regroup (Some x) None c = refl
worse-regroup (Some x) (Some y) None = refl
worse-regroup (Some x) (Some y) (Some z) = ap Some (earlier-regroup x y z)

-- the fault of two lists of tests
pub fault-append : (ts us : List Test) → fault_of (ts ++ us) ≡ worse (fault_of ts) (fault_of us)
fault-append [] us = refl
fault-append (t ∷ ts) us =
    ap (λ o. worse (fault_if t.broken t.field) o) (fault-append ts us)
    ∙ sym (worse-regroup (fault_if t.broken t.field) (fault_of ts) (fault_of us))
