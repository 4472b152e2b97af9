-- A mask read from its two cells. Assumes nothing.
use Prim.Native.Nat.{ℕ, ◌+◌, ◌*◌, ◌≤◌, ◌<◌}
use mathlib.Core.Path.{◌≡◌, ap₂, ◌∙◌}
use mathlib.Core.List.{List}
use borrow.Author.Tests.{lt-ltb, le-ltb}
use Rattle.rules.specs.declared.TypeNo.{TypeNo}
use Rattle.tables.specs.Read.{cell, schema_at}
use Rattle.masks.specs.Masks.{members_of, masks_from, cell_size, mask_at, Masked}

module _ (a : List ℕ) where
  -- a number that cannot be a type's has none, and that of another stands in two halves
  pub mask_none : (t : ℕ) → 64 ≤ t → 0 ≡ mask_at a t
  unfolding mask_at
  mask_none t h = rw (le-ltb t 64 h)

  pub mask_read : (t l h : ℕ) → t < 64 → l ≡ cell a (masks_from + 2 * t) → h ≡ cell a (masks_from + 2 * t + 1) → l + cell_size * h ≡ mask_at a t
  unfolding mask_at
  mask_read t l h k p q = rw (lt-ltb t 64 k) (ap₂ (λ (x y : ℕ). x + cell_size * y) p q)

  -- and it is the type's members
  pub members_read : (t : TypeNo) (m : ℕ) → Masked a → m ≡ mask_at a t.0 → m ≡ members_of (schema_at a) t
  unfolding Masked
  members_read t m held e = e ∙ held.agree t

pub ruleset reading_laws = (mask_none, mask_read, members_read)
