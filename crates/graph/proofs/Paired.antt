-- Pairs read from numbers: one more pair, the first of them, and two lists of pairs compared. Assumes nothing.
use Prim.Native.Nat.{ℕ, zero, suc, ◌+◌, ◌*◌, ◌-◌, ◌≤◌, ◌<◌}
use native.Mathlib.Omega.{arith}
use mathlib.Core.Path.{◌≡◌, refl, ap}
use mathlib.Core.Bool.{Bool, true, false, ◌&&◌}
use mathlib.Core.List.{List, [], ◌∷◌}
use lib.ListN.{length, get_or, take, drop}
use lib.Seq.{drop-cons}
use lib.Dec.{eqb}
use lib.Pointwise.{pointwise}
use Rattle.rules.specs.Text.{Pair, pairs, arg_no}
use Rattle.rules.specs.Graph.{same_pairs}

abbrev pub pair : ℕ → ℕ → Pair
pair a v = record { arg = arg_no a; value = v }

-- the first pair from place k on
next-pair : (xs : List ℕ) (m n k k₁ k₂ : ℕ) → n ≡ suc m → k₁ ≡ suc k → k₂ ≡ suc (suc k) → suc k < length xs
    → pairs n (drop k xs) ≡ pair (get_or xs k 0) (get_or xs k₁ 0) ∷ pairs m (drop k₂ xs)
next-pair xs m n k k₁ k₂ e f g h =
    let l : k < length xs = omega arith in
    rw (e, f, g, drop-cons xs k 0 l, drop-cons xs (suc k) 0 h)

-- of a row's pairs, those from pair i on are pair i and those from pair i + 1 on
pub pairs-on : (nums : List ℕ) (n i : ℕ) → i < n → n ≤ 4 → length nums ≡ 12
    → pairs (n - i) (drop (4 + 2 * i) nums)
    ≡ pair (get_or nums (4 + 2 * i) 0) (get_or nums (5 + 2 * i) 0) ∷ pairs (n - (i + 1)) (drop (4 + 2 * (i + 1)) nums)
pairs-on nums n i h k l =
    next-pair nums (n - (i + 1)) (n - i) (4 + 2 * i) (5 + 2 * i) (4 + 2 * (i + 1)) (omega arith) (omega arith) (omega arith) (omega arith)

-- ---- the first pairs of a list, told by its first numbers

pub pairs-taken : (n m : ℕ) (xs : List ℕ) → 2 * n ≤ m → pairs n (take m xs) ≡ pairs n xs
pairs-taken zero m xs h = refl
pairs-taken (suc n) zero xs h = absurd (omega arith)
pairs-taken (suc n) (suc zero) xs h = absurd (omega arith)
pairs-taken (suc n) (suc (suc m)) [] h = refl
pairs-taken (suc n) (suc (suc m)) (x ∷ []) h = refl
pairs-taken (suc n) (suc (suc m)) (x ∷ v ∷ xs) h = rw (pairs-taken n m xs (omega arith))

-- ---- two lists of pairs compared, number by number

pub pairs_compared : (n : ℕ) (xs ys : List ℕ) → 2 * n ≤ length xs → 2 * n ≤ length ys
    → same_pairs (pairs n xs) (pairs n ys) ≡ pointwise eqb (take (2 * n) xs) (take (2 * n) ys)
pairs_compared zero xs ys h k = refl
pairs_compared (suc n) [] ys h k = absurd (omega arith)
pairs_compared (suc n) (x ∷ []) ys h k = absurd (omega arith)
pairs_compared (suc n) (x ∷ v ∷ xs) [] h k = absurd (omega arith)
pairs_compared (suc n) (x ∷ v ∷ xs) (y ∷ []) h k = absurd (omega arith)
pairs_compared (suc n) (x ∷ v ∷ xs) (y ∷ w ∷ ys) h k =
    let e : 2 * suc n ≡ suc (suc (2 * n)) = omega arith in
    rw (e, pairs_compared n xs ys (omega arith) (omega arith))

-- ---- unequal counts

pub and-false : (b c : Bool) → c ≡ false → (b && c) ≡ false
and-false true c h = h
and-false false c h = refl

pub counts_differ : (n m : ℕ) (xs ys : List ℕ) → (n ≡ m → ⊥) → 2 * n ≤ length xs → 2 * m ≤ length ys → same_pairs (pairs n xs) (pairs m ys) ≡ false
counts_differ zero zero xs ys d h k = absurd (d refl)
counts_differ zero (suc m) xs [] d h k = absurd (omega arith)
counts_differ zero (suc m) xs (y ∷ []) d h k = absurd (omega arith)
counts_differ zero (suc m) xs (y ∷ w ∷ ys) d h k = refl
counts_differ (suc n) m [] ys d h k = absurd (omega arith)
counts_differ (suc n) m (x ∷ []) ys d h k = absurd (omega arith)
counts_differ (suc n) zero (x ∷ v ∷ xs) ys d h k = refl
counts_differ (suc n) (suc m) (x ∷ v ∷ xs) [] d h k = absurd (omega arith)
counts_differ (suc n) (suc m) (x ∷ v ∷ xs) (y ∷ []) d h k = absurd (omega arith)
counts_differ (suc n) (suc m) (x ∷ v ∷ xs) (y ∷ w ∷ ys) d h k =
    and-false (eqb x y) (eqb v w && same_pairs (pairs n xs) (pairs m ys))
    (and-false (eqb v w) (same_pairs (pairs n xs) (pairs m ys)) (counts_differ n m xs ys (λ e. d (ap suc e)) (omega arith) (omega arith)))
