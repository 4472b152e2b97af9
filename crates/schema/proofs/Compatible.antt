-- Compatibility, asked of the members of a type. Assumes nothing.
use Prim.Native.Nat.{ℕ}
use mathlib.Core.Path.{◌≡◌, ap, ◌∙◌}
use mathlib.Core.Bool.{Bool}
use mathlib.Core.List.{List}
use borrow.Author.Tests.{ne_eqb}
use Rattle.rules.specs.Schema.{compatible}
use Rattle.rules.specs.declared.TypeNo.{TypeNo}
use Rattle.bits.specs.Bits.{bit}
use Rattle.tables.specs.Read.{schema_at}
use Rattle.masks.specs.Masks.{members_of, Masked}
use Rattle.masks.proofs.Membership.{bit_other}

module _ (a : List ℕ) (o t : TypeNo) where
  -- another type is compatible by its bit
  pub bit_compatible : (m : ℕ) (r : Bool) → Masked a → (o.0 ≡ t.0 → ⊥) → m ≡ members_of (schema_at a) t → r ≡ bit m o.0
      → r ≡ compatible (schema_at a) o t
  unfolding Masked
  bit_compatible m r held ne e b =
      rw (ne_eqb o.0 t.0 ne) (b ∙ ap (λ (x : ℕ). bit x o.0) e ∙ bit_other (schema_at a) held.sound t o ne)
