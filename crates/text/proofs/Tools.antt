-- Cases on a test, what a test that is known decides, and one step further on. Assumes nothing.
use Prim.Native.Nat.{ℕ, suc, ◌+◌, ◌≤◌, ◌<◌}
use mathlib.Core.Path.{◌≡◌, refl}
use native.Mathlib.Decide.{dec_lt}
use native.Mathlib.Omega.{arith}
use mathlib.Core.Bool.{Bool, true, false}

pub by_test {ℓ} : {X : Type ℓ} (b : Bool) → (b ≡ true → X) → (b ≡ false → X) → X
by_test true t f = t refl
by_test false t f = f refl

pub by_order {ℓ} : {X : Type ℓ} (a b : ℕ) → (a < b → X) → (b ≤ a → X) → X
by_order a b f g = elim (dec_lt a b) [ yes h ↦ f h | no h ↦ g (omega arith) ]

pub shift : (i n : ℕ) → i + suc n ≡ i + 1 + n
shift i n = omega arith
