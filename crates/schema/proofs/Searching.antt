-- Looking through the first n rows of a table, for any test of a row; then for the three tests of the code. Assumes nothing.
use Prim.Native.Nat.{ℕ, suc, ◌+◌, ◌*◌, ◌-◌, ◌≤◌, ◌<◌}
use mathlib.Core.Path.{◌≡◌, refl, sym, ◌∙◌}
use mathlib.Core.List.{List, [], ◌∷◌, map}
use mathlib.Core.Bool.{Bool, true, false, not, ◌&&◌, ◌||◌}
use native.Mathlib.Omega.{arith}
use native.Mathlib.Numerals.{add-one, unary_clauses}
use borrow.Author.Tests.{eq-eqb, ne_eqb, not-true, not-false}
use Rattle.rules.specs.Lists.{any, those, keep_if, count_up}
use Rattle.rules.specs.Text.{field_no}
use Rattle.rules.specs.Schema.{has_field}
use Rattle.rules.specs.declared.TypeNo.{TypeNo}
use Rattle.tables.specs.Read.{cell, pair_at, first_at, pair_in, first_in, seconds_in, schema_at}
use Rattle.schema.specs.Faults.{lacks}

module _ (p : ℕ → Bool) where
  -- The loop of a search: the rows before j decide nothing.
  unfoldable pub Left : ℕ → ℕ → Type 0
  Left n j = any p (count_up 0 n) ≡ any p (count_up j (n - j))

  pub left_all : (n : ℕ) → Left n 0
  unfolding Left
  left_all n = simp unary_clauses

  one_more : (n j : ℕ) → j < n → n - j ≡ suc (n - (j + 1))
  one_more n j h = omega arith

  pub left_found : (n j : ℕ) → Left n j → j < n → p j ≡ true → any p (count_up 0 n) ≡ true
  unfolding Left
  left_found n j k h t = k ∙ simp (one_more n j h, t)

  pub left_on : (n j : ℕ) → Left n j → j < n → p j ≡ false → Left n (j + 1)
  unfolding Left
  left_on n j k h t = k ∙ rw (one_more n j h, t, add-one j)

  pub left_ended : (n j : ℕ) → Left n j → n ≤ j → any p (count_up 0 n) ≡ false
  unfolding Left
  left_ended n j k h = let z : n - j ≡ 0 = omega arith in k ∙ rw z

-- a row of two numbers
module _ (a : List ℕ) (base n x y j : ℕ) (b : Bool) where
  pub pair_found : Left (pair_at a base x y) n j → j < n → b ≡ pair_at a base x y j → b ≡ true → true ≡ pair_in a base n x y
  unfolding pair_in
  pair_found k h e t = sym (left_found (pair_at a base x y) n j k h (sym e ∙ t))

pub pair_ended : (a : List ℕ) (base n x y j : ℕ) → Left (pair_at a base x y) n j → n ≤ j → false ≡ pair_in a base n x y
unfolding pair_in
pair_ended a base n x y j k h = sym (left_ended (pair_at a base x y) n j k h)

-- a row with one number, v
module _ (a : List ℕ) (base n x j v : ℕ) where
  pub first_found_lem : Left (first_at a base x) n j → j < n → v ≡ cell a (base + 3 * j + 1) → v ≡ x → true ≡ first_in a base n x
  unfolding first_in first_at
  first_found_lem k h f e = sym (left_found (first_at a base x) n j k h (rw (← f) (eq-eqb v x e)))

  pub first_on : Left (first_at a base x) n j → j < n → v ≡ cell a (base + 3 * j + 1) → (v ≡ x → ⊥) → Left (first_at a base x) n (j + 1)
  unfolding first_at
  first_on k h f e = left_on (first_at a base x) n j k h (rw (← f) (ne_eqb v x e))

pub first_ended : (a : List ℕ) (base n x j : ℕ) → Left (first_at a base x) n j → n ≤ j → false ≡ first_in a base n x
unfolding first_in
first_ended a base n x j k h = sym (left_ended (first_at a base x) n j k h)

pub ruleset first_laws = (left_all, first_found_lem, first_on, first_ended)

-- a search through what a search has chosen is one search
any-those : {A B : Type 0} (p : ℕ → Bool) (q : B → Bool) (g : ℕ → A) (h : A → B) (js : List ℕ)
    → any q (map h (map g (those p js))) ≡ any (λ j. p j && q (h (g j))) js
any-those p q g h [] = refl
any-those p q g h (j ∷ js) = kept (p j) (any-those p q g h js)
  where
    kept : (b : Bool) → any q (map h (map g (those p js))) ≡ any (λ i. p i && q (h (g i))) js
        → any q (map h (map g (keep_if b j (those p js)))) ≡ ((b && q (h (g j))) || any (λ i. p i && q (h (g i))) js)
    kept true e = rw e
    kept false e = e

-- row j gives t a field that o has not
unfoldable pub lacks_at : List ℕ → TypeNo → TypeNo → ℕ → Bool
lacks_at a t o j = first_at a 776 t.0 j && not (has_field (schema_at a) o (field_no (cell a (776 + 3 * j + 2))))

pub lacks-first : (a : List ℕ) (t o : TypeNo) (j : ℕ) → first_at a 776 t.0 j ≡ false → lacks_at a t o j ≡ false
unfolding lacks_at
lacks-first a t o j h = rw h

pub lacks-any : (a : List ℕ) (t o : TypeNo) → lacks a t o ≡ any (lacks_at a t o) (count_up 0 (cell a 3))
unfolding lacks lacks_at schema_at seconds_in
lacks-any a t o = any-those (first_at a 776 t.0) _ _ field_no (count_up 0 (cell a 3))

-- v and w are the numbers of the row, b is whether o has the field w
module _ (a : List ℕ) (t o : TypeNo) (j v : ℕ) (f : v ≡ cell a (776 + 3 * j + 1)) where
  pub lacks_other : (v ≡ t.0 → ⊥) → lacks_at a t o j ≡ false
  unfolding lacks_at first_at
  lacks_other e = simp (← f, ne_eqb v t.0 e)

  module _ (w : ℕ) (b : Bool) (e : v ≡ t.0) (g : w ≡ cell a (776 + 3 * j + 2)) (d : b ≡ has_field (schema_at a) o (field_no w)) where
    pub lacks-not : b ≡ true → lacks_at a t o j ≡ false
    unfolding lacks_at first_at
    lacks-not n = simp (← f, eq-eqb v t.0 e, ← g, ← d, n)

    pub lacks-found : Left (lacks_at a t o) (cell a 3) j → j < cell a 3 → b ≡ false → true ≡ lacks a t o
    unfolding lacks_at first_at
    lacks-found k h n = sym (lacks-any a t o ∙ left_found (lacks_at a t o) (cell a 3) j k h (simp (← f, eq-eqb v t.0 e, ← g, ← d, n)))

pub lacks-ended : (a : List ℕ) (t o : TypeNo) (j : ℕ) → Left (lacks_at a t o) (cell a 3) j → cell a 3 ≤ j → false ≡ lacks a t o
lacks-ended a t o j k h = sym (lacks-any a t o ∙ left_ended (lacks_at a t o) (cell a 3) j k h)

pub ruleset lacks_laws = (not-true, not-false, lacks-found, lacks-ended)
