-- Checks 11, 21 and 31: a line and the counts of the lines before it decide. Assumes nothing.
use Prim.Native.Nat.{ℕ, ◌+◌, ◌*◌, ◌-◌}
use native.Mathlib.Omega.{arith}
use mathlib.Core.Path.{◌≡◌, refl, sym, ap, ap₂, ◌∙◌}
use mathlib.Core.Bool.{Bool, true, false, cond, ◌&&◌}
use mathlib.Core.List.{List, [], ◌∷◌, reverse, reverse_aux}
use Rattle.std.specs.Prelude.{None}
use lib.ListN.{length, get_or, length-drop, length-reverse}
use lib.Dec.{ltb, leb}
use Rattle.rules.specs.Lists.{those, keep_if, sum_of}
use Rattle.rules.specs.Text.{Row, at, values_of, P}
use Rattle.rules.specs.Search.{◌#◌, worse, fault_if, fault}
use Rattle.rules.specs.Schema.{is, check11}
use Rattle.rules.specs.Graph.{check21}
use Rattle.rules.specs.Query.{check31}
use Rattle.text.specs.Line.{padded}
use Rattle.tables.specs.Layout.{belongs, counted, valued}
use Rattle.tables.specs.Fill.{lettered, values_in}
use Rattle.tables.proofs.Those.{those-reverse}
use Rattle.tables.proofs.Wide.{padded-at}
use Rattle.search.specs.Count.{counts_of}
use Rattle.search.specs.Search.{full, alone11, alone21, alone31}
use Rattle.search.proofs.Groups.{worse-none, grouped, one_test, one_group}

-- ---- sums

module _ {A : Type 0} where
  sum_turned : (g : A → ℕ) (xs ys : List A) → sum_of g (reverse_aux xs ys) ≡ sum_of g xs + sum_of g ys
  sum_turned g [] ys = omega arith
  sum_turned g (x ∷ xs) ys = sum_turned g xs (x ∷ ys) ∙ omega arith

  sum_reverse : (g : A → ℕ) (xs : List A) → sum_of g (reverse xs) ≡ sum_of g xs
  sum_reverse g xs = sum_turned g xs [] ∙ omega arith

  -- a sum over those that pass a test
  sum_those : (p : A → Bool) (g : A → ℕ) (xs : List A) → sum_of g (those p xs) ≡ sum_of (λ x. cond (p x) (g x) 0) xs
  sum_those p g [] = refl
  sum_those p g (x ∷ xs) = go (sum_those p g xs) (p x)
    where
      go : sum_of g (those p xs) ≡ sum_of (λ y. cond (p y) (g y) 0) xs → (b : Bool)
          → sum_of g (keep_if b x (those p xs)) ≡ cond b (g x) 0 + sum_of (λ y. cond (p y) (g y) 0) xs
      go ih true = omega arith
      go ih false = omega arith

-- ---- the checks

module _ (ps : List Row) (r : Row) (rs : List Row) where
  -- a maximum: as many rows of table k before the line as there may be
  full-split : (k n : ℕ)
      → grouped (belongs k r) ((0 # leb n (length (those (belongs k) (reverse ps)))) ∷ []) ≡ full k n (counted k ps) r.letter
  unfolding full counted belongs lettered
  full-split k n =
      one_test (belongs k r) (leb n (length (those (belongs k) (reverse ps)))) 0
      ∙ ap (λ (c : ℕ). fault_if (belongs k r && leb n c) 0) (those-reverse (belongs k) ps)

  pub split_11 : fault (check11 (reverse ps) r rs) ≡ alone11 (counts_of ps) r.letter
  unfolding alone11 counts_of belongs
  split_11 =
      ap₂ worse (full-split 1 64)
      (ap₂ worse (full-split 2 128)
      (ap₂ worse (full-split 3 64)
      (ap₂ worse (full-split 4 1024)
      (ap₂ worse (full-split 5 1024) (ap₂ worse (full-split 6 1024) refl ∙ worse-none (full 6 1024 (counted 6 ps) r.letter))))))

  -- the values of the properties before the line
  values-split : sum_of (λ p. length (values_of p)) (those (is P) (reverse ps)) ≡ sum_of valued ps
  unfolding valued
  values-split = sum_those (is P) (λ p. length (values_of p)) (reverse ps) ∙ sum_reverse valued ps

  most-split : (b : Bool) (v : ℕ)
      → (b && ltb 8192 (length (values_of r) + v))
      ≡ (b && ltb 8192 (cond b (length r.numbers - (4 + 2 * get_or (padded 12 r.numbers) 3 0)) 0 + v))
  most-split true v =
      ap (λ (n : ℕ). ltb 8192 (n + v))
      (length-drop (4 + 2 * at r 3) r.numbers
      ∙ ap (λ (n : ℕ). length r.numbers - (4 + 2 * n)) (sym (padded-at 12 r.numbers 3 (omega arith))))
  most-split false v = refl

  pub split_21 : fault (check21 (reverse ps) r rs)
      ≡ alone21 (counts_of ps) r.letter (length r.numbers) (get_or (padded 12 r.numbers) 3 0)
  unfolding alone21 counts_of belongs values_in
  split_21 =
      ap₂ worse (full-split 7 512)
      (ap₂ worse (full-split 8 1024)
      (ap₂ worse (full-split 9 1024)
      (one_group (is P r) (ltb 8192 (length (values_of r) + sum_of (λ p. length (values_of p)) (those (is P) (reverse ps)))) 0
      ∙ ap (λ (v : ℕ). fault_if (is P r && ltb 8192 (length (values_of r) + v)) 0) values-split
      ∙ ap (λ (b : Bool). fault_if b 0) (most-split (is P r) (sum_of valued ps)))))

  pub split_31 : fault (check31 (reverse ps) r rs) ≡ alone31 (counts_of ps) (get_or (padded 12 r.numbers) 0 0)
  unfolding alone31 counts_of
  split_31 =
      worse-none (worse (fault_if (leb 256 (length (reverse ps))) 0) (worse (fault_if (ltb 15 (at r 0)) 2) None))
      ∙ ap₂ worse (ap (λ (c : ℕ). fault_if (leb 256 c) 0) (length-reverse ps))
      (worse-none (fault_if (ltb 15 (at r 0)) 2) ∙ ap (λ (d : ℕ). fault_if (ltb 15 d) 2) (sym (padded-at 12 r.numbers 0 (omega arith))))
