-- What stands where in an entry of a query area. Assumes nothing.
use Prim.Native.Nat.{ℕ, ◌+◌, ◌*◌, ◌<◌}
use mathlib.Core.Path.{◌≡◌, refl, ap, ◌∙◌}
use mathlib.Core.List.{List}
use mathlib.Core.Bool.{Bool, true, false, cond}
use native.Mathlib.Omega.{arith}
use lib.ListN.{length, get_or, drop, length-take, length-drop}
use lib.Seq.{get_or-take, get_or-drop}
use Rattle.rules.specs.Text.{at}
use Rattle.tables.specs.Read.{cell, wide_at, numbers_at}
use Rattle.query.specs.Entries.{QueryHeld, entry_at}

-- the two ways to choose by a test
pub elim_cond : {A : Type 0} (b : Bool) (x y : A) → elim b [ true ↦ x | false ↦ y ] ≡ cond b x y
elim_cond true x y = refl
elim_cond false x y = refl

-- ---- number i of entry k stands in its cell i + 2

module _ (q : List ℕ) (k : ℕ) where
  same-cell : (i j : ℕ) → i ≡ j → get_or q i 0 ≡ get_or q j 0
  same-cell i j e = ap (λ (n : ℕ). get_or q n 0) e

  pub number_at : (i : ℕ) → i < 12 → at (entry_at q k) i ≡ wide_at q 8 k (i + 2)
  unfolding entry_at numbers_at wide_at cell
  number_at i h =
      get_or-take 12 (drop (8 + 14 * k + 2) q) i 0 h ∙ get_or-drop (8 + 14 * k + 2) q i 0
      ∙ same-cell (8 + 14 * k + 2 + i) (8 + 14 * k + (i + 2)) (omega arith)

  pub letter_at_lem : (entry_at q k).letter ≡ wide_at q 8 k 0
  unfolding entry_at
  letter_at_lem = refl

  pub depth-at : at (entry_at q k) 0 ≡ wide_at q 8 k 2
  depth-at = number_at 0 (omega arith)

  pub second_at : at (entry_at q k) 1 ≡ wide_at q 8 k 3
  second_at = number_at 1 (omega arith)

  pub third_at : at (entry_at q k) 2 ≡ wide_at q 8 k 4
  third_at = number_at 2 (omega arith)

  pub count_at : at (entry_at q k) 3 ≡ wide_at q 8 k 5
  count_at = number_at 3 (omega arith)

  pub numbers_long : QueryHeld q → k < cell q 0 → length (numbers_at q 8 k) ≡ 12
  unfolding numbers_at
  numbers_long h l =
      let f = h.long in
      let n = h.entries in
      simp (length-take, length-drop) (omega arith)
