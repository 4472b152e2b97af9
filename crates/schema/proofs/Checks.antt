-- What each check says of a row, letter by letter: the laws of checks 12, 14 and 15, each shaped like what a function returns.
-- Assumes nothing.
use Prim.Native.Nat.{ℕ}
use mathlib.Core.Path.{◌≡◌, ◌∙◌}
use mathlib.Core.List.{List}
use mathlib.Core.Bool.{Bool, true, false, not}
use Rattle.std.specs.Prelude.{Option, None}
use lib.ListN.{get_or}
use lib.Dec.{eqb, ltb}
use borrow.Author.Tests.{ne_eqb}
use Rattle.rules.specs.Text.{type_no, field_no, arg_no}
use Rattle.rules.specs.Search.{worse, fault_if}
use Rattle.rules.specs.Schema.{declared_type, declared_field, declared_arg, is_scalar, is_object, owns_fields, has_members}
use Rattle.rules.proofs.Rising.{worse-none}
use Rattle.tables.specs.Read.{schema_at, first_in, cell}
use Rattle.schema.specs.Faults.{row_for, fault12, fault14, fault15, lacks}

-- ---- check 12: r is what the code returns, b and d are what its functions answer

module _ (a : List ℕ) (l x y : ℕ) (r : Option ℕ) where
  -- a letter that is known
  known : (m : ℕ) → l ≡ m → r ≡ fault12 a m x y → r ≡ fault12 a l x y
  known m e h = rw e h

  pub scalar_law : l ≡ 83 → r ≡ fault_if (ltb y x) 3 → r ≡ fault12 a l x y
  unfolding fault12 row_for
  scalar_law e h = known 83 e (simp worse-none h)

  -- the letters with one test

  module _ (b : Bool) (h : r ≡ fault_if (not b) 2) where
    pub field_law : l ≡ 70 → b ≡ declared_type (schema_at a) (type_no x) → r ≡ fault12 a l x y
    unfolding fault12 row_for
    field_law e f = known 70 e (simp (worse-none, ← f) h)

    pub arg_law : l ≡ 65 → b ≡ is_scalar (schema_at a) (type_no x) → r ≡ fault12 a l x y
    unfolding fault12 row_for
    arg_law e f = known 65 e (simp (worse-none, ← f) h)

    pub query_law : l ≡ 81 → b ≡ is_object (schema_at a) (type_no x) → r ≡ fault12 a l x y
    unfolding fault12 row_for
    query_law e f = known 81 e (simp (worse-none, ← f) h)

  -- the letters with two

  module _ (b d : Bool) (h : r ≡ worse (fault_if (not b) 2) (fault_if (not d) 3)) where
    pub has_law : l ≡ 72 → b ≡ owns_fields (schema_at a) (type_no x) → d ≡ declared_field (schema_at a) (field_no y) → r ≡ fault12 a l x y
    unfolding fault12 row_for
    has_law e f g = known 72 e (simp (worse-none, ← f, ← g) h)

    pub takes_law : l ≡ 71 → b ≡ declared_field (schema_at a) (field_no x) → d ≡ declared_arg (schema_at a) (arg_no y) → r ≡ fault12 a l x y
    unfolding fault12 row_for
    takes_law e f g = known 71 e (simp (worse-none, ← f, ← g) h)

    pub member_law : l ≡ 77 → b ≡ has_members (schema_at a) (type_no x) → d ≡ is_object (schema_at a) (type_no y) → r ≡ fault12 a l x y
    unfolding fault12 row_for
    member_law e f g = known 77 e (simp (worse-none, ← f, ← g) h)

module _ (a : List ℕ) (l x y : ℕ) where
  pub other_fine : (l ≡ 83 → ⊥) → (l ≡ 70 → ⊥) → (l ≡ 65 → ⊥) → (l ≡ 72 → ⊥) → (l ≡ 71 → ⊥) → (l ≡ 77 → ⊥) → (l ≡ 81 → ⊥)
      → None ≡ fault12 a l x y
  unfolding fault12 row_for
  other_fine s f g h t m q =
      rw (ne_eqb l 83 s, ne_eqb l 70 f, ne_eqb l 65 g, ne_eqb l 72 h, ne_eqb l 71 t, ne_eqb l 77 m, ne_eqb l 81 q)

pub ruleset letter_laws = (scalar_law, field_law, arg_law, query_law, has_law, takes_law, member_law, other_fine)

-- ---- checks 14 and 15: r is what the code returns, b whether it finds the row at fault

module _ (a : List ℕ) (l x y : ℕ) (b : Bool) (r : Option ℕ) (h : r ≡ fault_if b 0) where
  pub interface_law : (d : Bool) → l ≡ 77 → b ≡ d → d ≡ lacks a (type_no x) (type_no y) → r ≡ fault14 a l x y
  unfolding fault14 row_for lacks
  interface_law d e k f = h ∙ rw (e, ← f, k) (simp worse-none)

  pub no_interface : (l ≡ 77 → ⊥) → b ≡ eqb l 77 → r ≡ fault14 a l x y
  unfolding fault14 row_for
  no_interface n k = h ∙ rw (k, ne_eqb l 77 n)

pub ruleset interface_laws = (interface_law, no_interface)

module _ (a : List ℕ) (l n : ℕ) (b : Bool) (r : Option ℕ) (h : r ≡ fault_if b 0) where
  pub empty_union : (d : Bool) → l ≡ 85 → d ≡ first_in a 6920 (get_or a 5 0) n → d ≡ false → b ≡ true → r ≡ fault15 a l n
  unfolding fault15 schema_at cell
  empty_union d e f g k = h ∙ rw (e, ← f, g, k)

  pub full_union : (d : Bool) → l ≡ 85 → d ≡ first_in a 6920 (get_or a 5 0) n → d ≡ true → b ≡ false → r ≡ fault15 a l n
  unfolding fault15 schema_at cell
  full_union d e f g k = h ∙ rw (e, ← f, g, k)

  pub no_union : (l ≡ 85 → ⊥) → b ≡ eqb l 85 → r ≡ fault15 a l n
  unfolding fault15
  no_union m k = h ∙ rw (k, ne_eqb l 85 m)

pub ruleset union_laws = (empty_union, full_union, no_union)
