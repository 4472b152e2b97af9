-- The members of a type as the bits of one number say what the rule says, for all numbers. Assumes nothing.
use Prim.Native.Nat.{ℕ, ◌≤◌, ◌<◌}
use native.Mathlib.Omega.{arith}
use native.Mathlib.Decide.{dec_lt}
use mathlib.Core.Path.{◌≡◌, refl, sym, ap, ◌∙◌}
use mathlib.Core.Bool.{Bool, true, false, ◌&&◌, ◌||◌, false≢true}
use mathlib.Core.List.{[], ◌∷◌}
use mathlib.Core.Logic.{◌⊎◌, inl, inr}
use lib.Dec.{eqb}
use borrow.Author.Tests.{eqb-true, ne_eqb}
use Rattle.rules.specs.Lists.{among}
use Rattle.rules.specs.Text.{type_no, I, O, U}
use Rattle.rules.specs.Schema.{Schema, kind, is_object, has_members, compatible}
use Rattle.rules.specs.declared.TypeNo.{TypeNo}
use Rattle.rules.proofs.Bools.{and-true_left, and-true_right, clash}
use Rattle.text.proofs.Tools.{by_test}
use Rattle.bits.specs.Bits.{bit}
use Rattle.bits.proofs.Laws.{bit_in, bit_above, bits_small, bits_none}
use Rattle.masks.specs.Masks.{member_of, members_of, MembersSound}

-- ---- tests

-- an object type joins itself, a member its type: what is joined is what the rule says, where a member is an object type
pub rule : (same object member : Bool) → (member ≡ true → object ≡ true) → ((same && object) || member) ≡ (object && (same || member))
rule true true m h = refl
rule false true m h = refl
rule e false true h = absurd (false≢true (h refl))
rule true false false h = refl
rule false false false h = refl

-- of another type the rule asks for a member alone
others : (object member : Bool) → (member ≡ true → object ≡ true) → (object && member) ≡ member
others true m h = refl
others false true h = absurd (false≢true (h refl))
others false false h = refl

-- ---- kinds of types

module _ (s : Schema) (t : TypeNo) where
  pub object_declared : is_object s t ≡ true → kind s t ≡ 0 → ⊥
  object_declared h z = omega (arith, eqb-true (kind s t) O h)

  pub members_declared : has_members s t ≡ true → kind s t ≡ 0 → ⊥
  members_declared h z = clash h (ap (λ (k : ℕ). among k (U ∷ I ∷ [])) z)

-- ---- the bits

module _ (s : Schema) (sound : MembersSound s) where
  pub object-given : (t o : TypeNo) → s.has_member t o ≡ true → is_object s o ≡ true
  object-given t o h = (sound.given t o h).1

  -- a member is an object type, and its type is declared
  member_object : (t o : ℕ) → member_of s t o ≡ true → is_object s (type_no o) ≡ true
  unfolding member_of
  member_object t o h = and-true_left (is_object s (type_no o)) (compatible s (type_no o) (type_no t)) h

  member_type : (t o : ℕ) → member_of s t o ≡ true → kind s (type_no t) ≡ 0 → ⊥
  unfolding member_of
  member_type t o h z =
      by_test (eqb o t)
      (λ e. object_declared s (type_no o) (member_object t o h) (ap (λ (x : ℕ). kind s (type_no x)) (eqb-true o t e) ∙ z))
      (λ e. let c = and-true_right (is_object s (type_no o)) (compatible s (type_no o) (type_no t)) h in
      members_declared s (type_no t) (sound.given (type_no t) (type_no o) (rw e at c)).0 z)

  -- so that both are below 64
  no_member : (t o : ℕ) → (64 ≤ t) ⊎ (64 ≤ o) → member_of s t o ≡ false
  no_member t o far =
      by_test (member_of s t o)
      (λ e. let low = sound.below (type_no t) (member_type t o e) in
      let own = sound.below (type_no o) (object_declared s (type_no o) (member_object t o e)) in
      absurd (elim far [ inl h ↦ omega arith | inr h ↦ omega arith ]))
      (λ e. e)

  -- Bit o is set exactly where o is an object type that is compatible with t, whatever number o is.
  pub bit_member : (t : TypeNo) (o : ℕ) → bit (members_of s t) o ≡ (is_object s (type_no o) && compatible s (type_no o) t)
  unfolding members_of member_of
  bit_member t o = go (dec_lt o 64)
    where
      go : Dec (o < 64) → bit (members_of s t) o ≡ member_of s t.0 o
      go (yes h) = bit_in (member_of s t.0) 64 o h
      go (no h) =
          bit_above (members_of s t) 64 o (bits_small (member_of s t.0) 64) (omega arith) ∙ sym (no_member t.0 o (inr (omega arith)))

  -- No bit is set for an undeclared number, and none of an undeclared number.
  pub bit-undeclared : (t : TypeNo) (o : ℕ) → (kind s t ≡ 0) ⊎ (kind s (type_no o) ≡ 0) → bit (members_of s t) o ≡ false
  unfolding member_of
  bit-undeclared t o z =
      bit_member t o
      ∙ by_test (member_of s t.0 o)
      (λ e. absurd
      (elim z [
        | inl u ↦ member_type t.0 o e u
        | inr u ↦ object_declared s (type_no o) (member_object t.0 o e) u
      ]))
      (λ e. e)

  -- A number of 64 or more has no bit,
  pub bit_far : (t : TypeNo) (o : ℕ) → (64 ≤ t.0) ⊎ (64 ≤ o) → bit (members_of s t) o ≡ false
  unfolding member_of
  bit_far t o far = bit_member t o ∙ no_member t.0 o far

  -- and no members.
  pub none_far : (t : TypeNo) → 64 ≤ t.0 → members_of s t ≡ 0
  unfolding members_of
  none_far t h = bits_none (member_of s t.0) 64 (λ o l. no_member t.0 o (inl h))

  -- The bits of a type but its own are its members by `M`.
  pub bit_other : (t o : TypeNo) → (o.0 ≡ t.0 → ⊥) → bit (members_of s t) o.0 ≡ s.has_member t o
  bit_other t o ne =
      bit_member t o.0
      ∙ ap (λ (b : Bool). is_object s o && (b || s.has_member t o)) (ne_eqb o.0 t.0 ne)
      ∙ others (is_object s o) (s.has_member t o) (object-given t o)
