-- Checks 33 and 34 of one entry, by what the code finds: one law for each answer. Assumes nothing.
use Prim.Native.Nat.{ℕ, ◌≤◌, ◌<◌}
use mathlib.Core.Path.{◌≡◌, refl, sym, ◌∙◌}
use mathlib.Core.List.{List}
use mathlib.Core.Bool.{Bool, true, false, not, ◌&&◌, cond, beq, true≢false}
use Rattle.std.specs.Prelude.{Option, None, Some, is_some}
use native.Mathlib.Omega.{arith}
use lib.Dec.{eqb, ltb}
use borrow.Author.Tests.{lt-ltb, le-ltb, ne_eqb}
use Rattle.rules.specs.Text.{at, field_no, type_no}
use Rattle.rules.specs.Search.{worse, fault_if}
use Rattle.rules.specs.Schema.{declared_type, declared_field, is_scalar, field_type, owns_fields, has_field}
use Rattle.rules.specs.Query.{has_child}
use Rattle.rules.specs.declared.TypeNo.{TypeNo}
use Rattle.rules.proofs.Rising.{Behind, earlier-decides, worse-none}
use Rattle.tables.specs.Read.{wide_at, schema_at}
use Rattle.query.specs.Entries.{entry_at, behind}
use Rattle.query.specs.Faults.{fault32, fault33, fault34, fault_for, arg_passes, args_fault}
use Rattle.query.specs.declared.EntryCheck.{EntryCheck}
use Rattle.query.specs.declared.EntryCheck.TheVariants.{Depths, Numbers, Validity}
use Rattle.query.proofs.Cells.{letter_at_lem, second_at, third_at}
use Rattle.query.proofs.Arguments.{fault_late}

-- ---- check 33: the letter; label too large, field declared, what the arguments say; type declared

unfoldable form33 : ℕ → Bool → Bool → Option ℕ → Bool → Option ℕ
form33 l large d args t =
    worse (elim (eqb l 70) [ true ↦ worse (fault_if large 3) (worse (fault_if (not d) 4) args) | false ↦ None ])
    (worse (elim (eqb l 84) [ true ↦ worse (fault_if (not t) 3) None | false ↦ None ]) None)

large-any : (d t : Bool) (x : Option ℕ) → Behind 6 x → form33 70 true d x t ≡ Some 3
unfolding form33
large-any true t x h = rw (earlier-decides 3 6 x (omega arith) (omega arith) h)
large-any false t x h = rw (earlier-decides 4 6 x (omega arith) (omega arith) h)

unknown_any : (t : Bool) (x : Option ℕ) → Behind 6 x → form33 70 false false x t ≡ Some 4
unfolding form33
unknown_any t x h = rw (earlier-decides 4 6 x (omega arith) (omega arith) h)

args-any : (t : Bool) (x : Option ℕ) → form33 70 false true x t ≡ x
unfolding form33
args-any t x = worse-none x

module _ (a q : List ℕ) (k : ℕ) where
  -- of the entry with the letter l, whose second and third numbers are x and y
  abbrev said33 : (l x y : ℕ) → Option ℕ
  said33 l x y =
      let s = schema_at a in
      form33 l (ltb 255 x) (declared_field s (field_no y)) (args_fault Numbers a q k (field_no y)) (declared_type s (type_no x))

  row33 : fault33 a q k ≡ said33 (entry_at q k).letter (at (entry_at q k) 1) (at (entry_at q k) 2)
  unfolding fault33 form33 args_fault arg_passes
  row33 = refl

  is33 : fault33 a q k ≡ said33 (wide_at q 8 k 0) (wide_at q 8 k 3) (wide_at q 8 k 4)
  is33 = row33 ∙ rw (letter_at_lem q k, second_at q k, third_at q k)

  module _ (l : ℕ) (el : l ≡ wide_at q 8 k 0) where
    pub no_check33 : (l ≡ 84 → ⊥) → (l ≡ 70 → ⊥) → None ≡ fault33 a q k
    unfolding form33
    no_check33 n m = sym (is33 ∙ rw (← el, ne_eqb l 84 n, ne_eqb l 70 m))

    module _ (x : ℕ) (ex : x ≡ wide_at q 8 k 3) where
      pub type_known : (b : Bool) → l ≡ 84 → b ≡ declared_type (schema_at a) (type_no x) → b ≡ true
          → None ≡ fault33 a q k
      unfolding form33
      type_known b e f t = sym (is33 ∙ rw (← el, e, ← ex, ← f, t))

      pub type_unknown : (b : Bool) → l ≡ 84 → b ≡ declared_type (schema_at a) (type_no x) → b ≡ false
          → Some 3 ≡ fault33 a q k
      unfolding form33
      type_unknown b e f t = sym (is33 ∙ rw (← el, e, ← ex, ← f, t))

      pub label-large : l ≡ 70 → 255 < x → Some 3 ≡ fault33 a q k
      label-large e h =
          let f = field_no (wide_at q 8 k 4) in
          let decides = large-any _ _ (args_fault Numbers a q k f) (fault_late Numbers a q k f) in
          sym (is33 ∙ rw (← el, e, ← ex, lt-ltb 255 x h) decides)

      module _ (y : ℕ) (ey : y ≡ wide_at q 8 k 4) (b : Bool) (f : b ≡ declared_field (schema_at a) (field_no y)) where
        pub field_unknown : l ≡ 70 → x ≤ 255 → b ≡ false → Some 4 ≡ fault33 a q k
        field_unknown e h t =
            let decides = unknown_any _ (args_fault Numbers a q k (field_no y)) (fault_late Numbers a q k (field_no y)) in
            sym (is33 ∙ rw (← el, e, ← ex, le-ltb 255 x h, ← ey, ← f, t) decides)

        pub field-known : (r : Option ℕ) → l ≡ 70 → x ≤ 255 → b ≡ true → r ≡ (args_fault Numbers a q k (field_no y))
            → r ≡ fault33 a q k
        field-known r e h t g =
            let decide = args-any _ (args_fault Numbers a q k (field_no y)) in
            g ∙ sym (is33 ∙ rw (← el, e, ← ex, le-ltb 255 x h, ← ey, ← f, t) decide)

pub ruleset laws33 = (no_check33, type_known, type_unknown, label-large, field_unknown, field-known)

-- ---- check 34: the letter; the context owns fields, has this one, its type is a scalar, a child, what the arguments say; the
-- condition is a scalar

unfoldable form34 : ℕ → Bool → Bool → Bool → Bool → Option ℕ → Bool → Option ℕ
form34 l o h leaf child args s =
    let below = worse (fault_if (leaf && child) 0) (worse (fault_if (not leaf && not child) 0) args) in
    worse (elim (eqb l 70) [ true ↦ worse (fault_if (not (o && h)) 4) below | false ↦ None ])
    (worse (elim (eqb l 84) [ true ↦ worse (fault_if s 3) None | false ↦ None ]) None)

-- field 4 decides over field 0 and over the arguments
four_zero : (b : Bool) (x : Option ℕ) → worse (Some 4) x ≡ Some 4 → worse (Some 4) (worse (fault_if b 0) x) ≡ Some 4
four_zero false x h = h
four_zero true None h = refl
four_zero true (Some g) h = h

four_any : (leaf child : Bool) (x : Option ℕ) → Behind 6 x
    → worse (worse (Some 4) (worse (fault_if (leaf && child) 0) (worse (fault_if (not leaf && not child) 0) x))) None ≡ Some 4
four_any leaf child x h =
    let late = earlier-decides 4 6 x (omega arith) (omega arith) h in
    worse-none _ ∙ four_zero (leaf && child) _ (four_zero (not leaf && not child) x late)

unowned : (h leaf child s : Bool) (x : Option ℕ) → Behind 6 x → form34 70 false h leaf child x s ≡ Some 4
unfolding form34
unowned h leaf child s x f = four_any leaf child x f

unheld : (leaf child s : Bool) (x : Option ℕ) → Behind 6 x → form34 70 true false leaf child x s ≡ Some 4
unfolding form34
unheld leaf child s x f = four_any leaf child x f

-- field 0 gives way to an argument's
argued : (leaf child s : Bool) (g : ℕ) → form34 70 true true leaf child (Some g) s ≡ Some g
unfolding form34
argued true true s g = refl
argued true false s g = refl
argued false true s g = refl
argued false false s g = refl

not_some : (v : Option ℕ) → is_some v ≡ false → v ≡ None
not_some None w = refl
not_some (Some g) w = absurd (true≢false w)

-- where the arguments pass, a field of a scalar is to have no child and one of another type a child
leaf_form : (leaf child s : Bool) → form34 70 true true leaf child None s ≡ cond (beq leaf child) (Some 0) None
unfolding form34
leaf_form true true s = refl
leaf_form true false s = refl
leaf_form false true s = refl
leaf_form false false s = refl

module _ (a q : List ℕ) (k : ℕ) (c : TypeNo) where
  -- of the entry with the letter l, whose second and third numbers are x and y
  abbrev said34 : (l x y : ℕ) → Option ℕ
  said34 l x y =
      let s = schema_at a in
      let f = field_no y in
      form34 l (owns_fields s c) (has_field s c f) (is_scalar s (field_type s c f)) (has_child (entry_at q k) (behind q k))
      (args_fault Validity a q k f)
      (is_scalar s (type_no x))

  row34 : fault34 a q k c ≡ said34 (entry_at q k).letter (at (entry_at q k) 1) (at (entry_at q k) 2)
  unfolding fault34 form34 args_fault arg_passes
  row34 = refl

  is34 : fault34 a q k c ≡ said34 (wide_at q 8 k 0) (wide_at q 8 k 3) (wide_at q 8 k 4)
  is34 = row34 ∙ rw (letter_at_lem q k, second_at q k, third_at q k)

  module _ (l : ℕ) (el : l ≡ wide_at q 8 k 0) where
    pub no_check34 : (l ≡ 70 → ⊥) → (l ≡ 84 → ⊥) → None ≡ fault34 a q k c
    unfolding form34
    no_check34 n m = sym (is34 ∙ rw (← el, ne_eqb l 84 m, ne_eqb l 70 n))

    module _ (x : ℕ) (ex : x ≡ wide_at q 8 k 3) (b : Bool) (f : b ≡ is_scalar (schema_at a) (type_no x)) where
      pub on_scalar : l ≡ 84 → b ≡ true → Some 3 ≡ fault34 a q k c
      unfolding form34
      on_scalar e t = sym (is34 ∙ rw (← el, e, ← ex, ← f, t))

      pub on_other : l ≡ 84 → b ≡ false → None ≡ fault34 a q k c
      unfolding form34
      on_other e t = sym (is34 ∙ rw (← el, e, ← ex, ← f, t))

  module _ (z : wide_at q 8 k 0 ≡ 70) (x : ℕ) (ex : x ≡ wide_at q 8 k 4) (o : Bool) (eo : o ≡ owns_fields (schema_at a) c) where
    abbrev args : Option ℕ
    args = args_fault Validity a q k (field_no x)

    pub not_owner : o ≡ false → Some 4 ≡ fault34 a q k c
    not_owner t =
        let decides = unowned _ _ _ _ args (fault_late Validity a q k (field_no x)) in
        sym (is34 ∙ rw (z, ← ex, ← eo, t) decides)

    module _ (to : o ≡ true) (h : Bool) (eh : h ≡ has_field (schema_at a) c (field_no x)) where
      pub not_its : h ≡ false → Some 4 ≡ fault34 a q k c
      not_its t =
          let decides = unheld _ _ _ args (fault_late Validity a q k (field_no x)) in
          sym (is34 ∙ rw (z, ← ex, ← eo, to, ← eh, t) decides)

      module _ (th : h ≡ true) (v : Option ℕ) (ev : v ≡ args) where
        untaken : (o : Option ℕ) → v ≡ o → is_some o ≡ true → fault34 a q k c ≡ o
        untaken None t w = absurd (true≢false (sym w))
        untaken (Some g) t w = is34 ∙ rw (z, ← ex, ← eo, to, ← eh, th, sym ev ∙ t) (argued _ _ _ g)

        pub not_taken : is_some v ≡ true → v ≡ fault34 a q k c
        not_taken w = sym (untaken v refl w)

        module _ (tv : is_some v ≡ false) (d : Bool) (ed : d ≡ has_child (entry_at q k) (behind q k)) (t : TypeNo)
            (et : t ≡ field_type (schema_at a) c (field_no x)) (b : Bool) (eb : b ≡ is_scalar (schema_at a) t) where
          settled : fault34 a q k c ≡ cond (beq b d) (Some 0) None
          settled =
              is34 ∙ rw (z, ← ex, ← eo, to, ← eh, th, sym ev ∙ not_some v tv, ← ed, ← et, ← eb) (leaf_form b d _)

          pub leaf_wrong : beq b d ≡ true → Some 0 ≡ fault34 a q k c
          leaf_wrong p = sym (settled ∙ rw p)

          pub leaf_right : beq b d ≡ false → None ≡ fault34 a q k c
          leaf_right p = sym (settled ∙ rw p)

pub ruleset type-laws = (no_check34, on_scalar, on_other)

pub ruleset field_laws = (not_owner, not_its)

pub ruleset laws34 = (type-laws, field_laws)

-- ---- the check that is asked

module _ (n : EntryCheck) (a q : List ℕ) (k d : ℕ) (c : TypeNo) (r : Option ℕ) where
  pub by_depths : n ≡ Depths → r ≡ fault32 q k d → r ≡ fault_for n a q k d c
  unfolding fault_for
  by_depths e h = h ∙ rw e

  pub by_numbers : n ≡ Numbers → r ≡ fault33 a q k → r ≡ fault_for n a q k d c
  unfolding fault_for
  by_numbers e h = h ∙ rw e

  pub by_validity : n ≡ Validity → r ≡ fault34 a q k c → r ≡ fault_for n a q k d c
  unfolding fault_for
  by_validity e h = h ∙ rw e

pub ruleset number-laws = (by_depths, by_numbers, by_validity)
