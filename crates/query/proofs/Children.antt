-- An entry's children, the context that it hands down, and check 32. Assumes nothing.
use Prim.Native.Nat.{ℕ, suc, ◌+◌, ◌-◌, ◌≤◌, ◌<◌}
use mathlib.Core.Path.{◌≡◌, refl, sym, ap, ◌∙◌}
use mathlib.Core.List.{List, [], ◌∷◌}
use mathlib.Core.Bool.{Bool, true, false, not, ◌||◌, cond}
use native.Mathlib.Omega.{arith}
use native.Mathlib.Numerals.{add-one}
use lib.Dec.{leb, eqb}
use borrow.Author.Tests.{lt-ltb, le-ltb, le-leb, lt-leb, eq-eqb, ne_eqb}
use Rattle.rules.specs.Text.{Row, T, at, field_no, type_no}
use Rattle.rules.specs.Search.{◌#◌, given, fault}
use Rattle.rules.specs.Schema.{Schema, is, field_type}
use Rattle.rules.specs.Query.{asked, condition, has_child, hands_down}
use Rattle.rules.specs.declared.TypeNo.{TypeNo}
use Rattle.std.specs.Prelude.{None, Some}
use Rattle.tables.specs.Read.{cell, wide_at, schema_at}
use Rattle.query.specs.Entries.{entry_at, entries_from, behind}
use Rattle.query.specs.Faults.{fault32}
use Rattle.query.proofs.Cells.{elim_cond, letter_at_lem, depth-at, second_at, third_at}

-- the entries from j on are entry j and those behind it
pub entries-more : (q : List ℕ) (j : ℕ) → j < cell q 0 → entries_from q j (cell q 0 - j) ≡ entry_at q j ∷ behind q j
unfolding entries_from behind
entries-more q j h = let e : cell q 0 - j ≡ suc (cell q 0 - suc j) = omega arith in rw e

pub entries_none : (q : List ℕ) (j : ℕ) → cell q 0 ≤ j → entries_from q j (cell q 0 - j) ≡ []
unfolding entries_from
entries_none q j h = let e : cell q 0 - j ≡ 0 = omega arith in rw e

pub behind-from : (q : List ℕ) (j : ℕ) → behind q j ≡ entries_from q (j + 1) (cell q 0 - (j + 1))
unfolding behind
behind-from q j = rw (add-one j)

-- the definitions, by tests
child_cond : (r n : Row) (rest : List Row)
    → has_child r (n ∷ rest) ≡ cond (leb (at n 0) (at r 0)) false (eqb (at n 0) (suc (at r 0)) || has_child r rest)
child_cond r n rest = elim_cond (leb (at n 0) (at r 0)) false (eqb (at n 0) (suc (at r 0)) || has_child r rest)

hand_cond : (s : Schema) (c : TypeNo) (e : Row)
    → hands_down s c e ≡ cond (eqb e.letter 70) (field_type s c (asked e)) (condition e)
hand_cond s c e = elim_cond (eqb e.letter 70) (field_type s c (asked e)) (condition e)

-- ---- the loop that looks for a child: what the entries from j on say

module _ (q : List ℕ) (k : ℕ) where
  unfoldable pub child_from : ℕ → Bool
  child_from j = has_child (entry_at q k) (entries_from q j (cell q 0 - j))

  pub child_start : has_child (entry_at q k) (behind q k) ≡ child_from (k + 1)
  unfolding child_from
  child_start = rw (behind-from q k)

  module _ (j d e : ℕ) (total : Bool) (t : total ≡ child_from j) where
    pub child_none : cell q 0 ≤ j → false ≡ total
    unfolding child_from
    child_none h = sym (t ∙ rw (entries_none q j h))

    module _ (l : j < cell q 0) (ed : d ≡ wide_at q 8 k 2) (ee : e ≡ wide_at q 8 j 2) where
      child_turn : total ≡ cond (leb e d) false (eqb e (suc d) || has_child (entry_at q k) (behind q j))
      unfolding child_from
      child_turn =
          t ∙ ap (has_child (entry_at q k)) (entries-more q j l) ∙ child_cond (entry_at q k) (entry_at q j) (behind q j)
          ∙ rw (depth-at q j, depth-at q k, ← ee, ← ed)

      pub child_past : e ≤ d → false ≡ total
      child_past h = sym (child_turn ∙ rw (le-leb e d h))

      pub child_found : d < e → e ≤ d + 1 → true ≡ total
      child_found h f = let g : e ≡ suc d = omega arith in sym (child_turn ∙ rw (lt-leb e d h, eq-eqb e (suc d) g))

      pub child_on : d < e → (e ≡ d + 1 → ⊥) → total ≡ child_from (j + 1)
      unfolding child_from
      child_on h n = child_turn ∙ rw (lt-leb e d h, ne_eqb e (suc d) (λ g. n (omega arith)), behind-from q j)

pub ruleset child-laws = (child_start, child_none, child_past, child_on)

-- ---- the context handed down

module _ (a q : List ℕ) (k : ℕ) (c : TypeNo) where
  pub hand_field : (l f : ℕ) (r : TypeNo) → l ≡ wide_at q 8 k 0 → l ≡ 70 → f ≡ wide_at q 8 k 4
      → r ≡ field_type (schema_at a) c (field_no f) → r ≡ hands_down (schema_at a) c (entry_at q k)
  hand_field l f r el e ef er =
      er ∙ sym (hand_cond (schema_at a) c (entry_at q k) ∙ rw (letter_at_lem q k, ← el, e, third_at q k, ← ef))

  pub hand_type : (l x : ℕ) → l ≡ wide_at q 8 k 0 → (l ≡ 70 → ⊥) → x ≡ wide_at q 8 k 3
      → type_no x ≡ hands_down (schema_at a) c (entry_at q k)
  hand_type l x el n ex =
      sym (hand_cond (schema_at a) c (entry_at q k) ∙ rw (letter_at_lem q k, ← el, ne_eqb l 70 n, second_at q k, ← ex))

pub ruleset hand-laws = (hand_field, hand_type)

-- ---- check 32

-- too deep is the fault, whatever stands below
deep-any : (t c : Bool) → Some 2 ≡ (fault (given true ((2 # true) ∷ []) ∷ given t ((0 # not c) ∷ []) ∷ []))
deep-any true true = refl
deep-any true false = refl
deep-any false c = refl

module _ (q : List ℕ) (k d e : ℕ) (ee : e ≡ wide_at q 8 k 2) where
  pub deep : d < e → Some 2 ≡ (fault32 q k d)
  unfolding fault32
  deep h = rw (depth-at q k, ← ee, lt-ltb d e h) (deep-any (is T (entry_at q k)) (has_child (entry_at q k) (behind q k)))

  module _ (s : e ≤ d) (l : ℕ) (el : l ≡ wide_at q 8 k 0) where
    pub childless : (b : Bool) → l ≡ 84 → b ≡ has_child (entry_at q k) (behind q k) → b ≡ false
        → Some 0 ≡ (fault32 q k d)
    unfolding fault32
    childless b f g h = rw (depth-at q k, ← ee, le-ltb d e s, letter_at_lem q k, ← el, f, ← g, h)

    pub with_child : (b : Bool) → l ≡ 84 → b ≡ has_child (entry_at q k) (behind q k) → b ≡ true
        → None ≡ (fault32 q k d)
    unfolding fault32
    with_child b f g h = rw (depth-at q k, ← ee, le-ltb d e s, letter_at_lem q k, ← el, f, ← g, h)

    pub no_condition : (l ≡ 84 → ⊥) → None ≡ (fault32 q k d)
    unfolding fault32
    no_condition n = rw (depth-at q k, ← ee, le-ltb d e s, letter_at_lem q k, ← el, ne_eqb l 84 n)

pub ruleset step-laws = (deep, childless, with_child, no_condition)
