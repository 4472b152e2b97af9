-- Theorem 9: the second half of Proposition 1, the doubling, for every n. Assumes nothing.
use Prim.Native.Nat.{ℕ, zero, suc, ◌+◌, ◌*◌, ◌^◌}
use native.Mathlib.Nat.{pow-suc}
use native.Mathlib.Omega.{arith}
use mathlib.Core.Path.{◌≡◌, refl, ap, ◌∙◌}
use mathlib.Core.List.{List, [], ◌∷◌, ◌++◌}
use lib.Dec.{eqb}
use lib.ListN.{length, length-append}
use Rattle.rules.specs.Lists.{times, one_if}
use Rattle.rules.specs.Tree.{preorder}
use Rattle.rules.specs.Eval.{eval, label, object, listed}
use Rattle.rules.specs.Doubling.{people, query, knows, alpha, phi, doubled, alice}
use Rattle.rules.proofs.Sums.{sum_append}

-- ---- one step: α_{i+1} at v shows knows{α_i} at w and x, and either of those α_i at v, whose response is r

abbrev once : List ℕ → List ℕ
once r = (label knows ∷ listed (object r ++ [])) ++ []

abbrev twice : List ℕ → List ℕ
twice r = (label knows ∷ listed (object (once r) ++ (object (once r) ++ []))) ++ []

abbrev asked : List ℕ → List ℕ
asked r = (label query ∷ object r) ++ []

step : (n : ℕ) → eval people (alpha (suc n)) 1 ≡ twice (eval people (alpha n) 1)
step n = refl

top : (n : ℕ) → doubled n ≡ asked (eval people (alpha n) 1)
top n = refl

-- ---- the size

twice-length : (r : List ℕ) → length (twice r) ≡ 17 + 2 * length r
twice-length r = simp length-append (omega arith)

asked-length : (r : List ℕ) → length (asked r) ≡ 3 + length r
asked-length r = simp length-append (omega arith)

grown : (a b p q : ℕ) → b ≡ 17 + 2 * a → a + 17 ≡ 19 * p → q ≡ p * 2 → b + 17 ≡ 19 * q
grown a b p q h k l = omega arith

topped : (a b p : ℕ) → b ≡ 3 + a → a + 17 ≡ 19 * p → b + 14 ≡ 19 * p
topped a b p h k = omega arith

alpha-size : (n : ℕ) → length (eval people (alpha n) 1) + 17 ≡ 19 * 2 ^ n
alpha-size zero = refl
alpha-size (suc n) =
    grown (length (eval people (alpha n) 1)) _ (2 ^ n) (2 ^ suc n) (ap length (step n) ∙ twice-length (eval people (alpha n) 1)) (alpha-size n) (pow-suc 2 n)

-- "19 × 2^(n-1) - 14" tokens
pub doubled-size : (n : ℕ) → length (doubled n) + 14 ≡ 19 * 2 ^ n
doubled-size n = topped (length (eval people (alpha n) 1)) _ (2 ^ n) (ap length (top n) ∙ asked-length (eval people (alpha n) 1)) (alpha-size n)

-- ---- the name

names : List ℕ → ℕ
names r = times alice r

twice-names : (r : List ℕ) → names (twice r) ≡ 2 * names r
unfolding names
twice-names r = simp (sum_append (λ y. one_if (eqb alice y))) (omega arith)

asked-names : (r : List ℕ) → names (asked r) ≡ names r
unfolding names
asked-names r = simp (sum_append (λ y. one_if (eqb alice y))) (omega arith)

alpha-names : (n : ℕ) → names (eval people (alpha n) 1) ≡ 2 ^ n
unfolding names
alpha-names zero = refl
alpha-names (suc n) = ap names (step n) ∙ twice-names (eval people (alpha n) 1) ∙ omega (arith, alpha-names n, pow-suc 2 n)

-- "the name Alice occurs 2^{n-1} times"
pub doubled-names : (n : ℕ) → times alice (doubled n) ≡ 2 ^ n
unfolding names
doubled-names n = ap names (top n) ∙ asked-names (eval people (alpha n) 1) ∙ alpha-names n

-- ---- the query

-- "every query φ_n is of size O(n)": 2n entries
alpha-entries : (n : ℕ) → length (preorder (alpha n)) ≡ 1 + 2 * n
alpha-entries zero = refl
alpha-entries (suc n) = simp length-append (omega (arith, alpha-entries n))

pub phi-entries : (n : ℕ) → length (preorder (phi n)) ≡ 2 * suc n
phi-entries n = simp length-append (omega (arith, alpha-entries n))
