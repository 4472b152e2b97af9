-- What checks 22, 23 and 24 say of a row, answer by answer: laws shaped like what a function returns. Assumes nothing.
use Prim.Native.Nat.{ℕ, ◌+◌, ◌*◌, ◌≤◌, ◌<◌}
use native.Mathlib.Omega.{arith}
use mathlib.Core.Path.{◌≡◌, sym, ap, ◌∙◌}
use mathlib.Core.Bool.{Bool, true, false, not, ◌||◌}
use mathlib.Core.List.{List}
use Rattle.std.specs.Prelude.{Option, None, Some}
use lib.ListN.{get_or}
use lib.Dec.{eqb, ltb}
use borrow.Author.Tests.{lt-ltb, le-ltb, eq-eqb, ne_eqb, not-true, not-false}
use Rattle.rules.specs.Text.{Pair, type_no, field_no}
use Rattle.rules.specs.Search.{Test, test_each, worse, fault_if, fault_of}
use Rattle.rules.specs.Schema.{declared_field, declared_arg, is_object, is_scalar, has_field, takes_arg, arg_type, in_range, field_type, list_mark, compatible}
use Rattle.rules.specs.declared.FieldNo.{FieldNo}
use Rattle.rules.specs.declared.TypeNo.{TypeNo}
use Rattle.rules.proofs.Bools.{or_left}
use Rattle.tables.specs.Read.{cell, schema_at}
use Rattle.graph.specs.Faults.{nodes_at, row_for, label_for, undeclared, untaken, outside, fault22, fault23, fault24_e, fault24_p}
use Rattle.rules.proofs.Rising.{Behind, behind-worse, behind-if, behind-later, behind-each, first-decides, earlier-decides, last-decides, worse-none, fault-append}

-- a fault in field f, before which nothing is at fault, whatever stands behind it
front : (f : ℕ) (x y : Option ℕ) → 1 ≤ f → Behind f x → Behind f y → worse (worse (Some f) x) y ≡ Some f
front f x y h k l = ap (λ o. worse o y) (first-decides f x h k) ∙ first-decides f y h l

-- ---- check 22

-- the tests of an edge (e) or a property: the node, the field, an edge's target, and what the pairs say
tests : Bool → Bool → Bool → Bool → Option ℕ → Option ℕ
tests node field e target x =
    worse (worse (fault_if (not node) 2) (worse (fault_if (not field) 3) x))
    (worse (elim e [ true ↦ worse (fault_if (not target) 4) None | false ↦ None ]) None)

-- the target's test is in field 4 and the pairs' from 6 on
target-behind : (f : ℕ) (e target : Bool) → f ≤ 4 → Behind f (worse (elim e [ true ↦ worse (fault_if (not target) 4) None | false ↦ None ]) None)
target-behind f true true h = tt
target-behind f true false h = h
target-behind f false target h = tt

tests-node : (field e target : Bool) (x : Option ℕ) → Behind 6 x → tests false field e target x ≡ Some 2
unfolding tests
tests-node field e target x h =
    front 2 (worse (fault_if (not field) 3) x) _ (omega arith)
    (behind-worse 2 (fault_if (not field) 3) x (behind-if 2 3 (not field) (omega arith)) (behind-later 2 6 x (omega arith) h))
    (target-behind 2 e target (omega arith))

tests-field : (e target : Bool) (x : Option ℕ) → Behind 6 x → tests true false e target x ≡ Some 3
unfolding tests
tests-field e target x h = front 3 x _ (omega arith) (behind-later 3 6 x (omega arith) h) (target-behind 3 e target (omega arith))

tests-target : (x : Option ℕ) → Behind 6 x → tests true true true false x ≡ Some 4
unfolding tests
tests-target x h = last-decides 4 x (omega arith) (behind-later 4 6 x (omega arith) h)

undeclared-behind : (a nums : List ℕ) → Behind 6 (undeclared a nums)
unfolding undeclared
undeclared-behind a nums = behind-each (λ p. not (declared_arg (schema_at a) p.arg)) 2 6 (label_for nums).args

module _ (a g : List ℕ) (l : ℕ) (nums : List ℕ) where
  module _ (b : Bool) (e : l ≡ 78) (f : b ≡ is_object (schema_at a) (type_no (get_or nums 0 0))) where
    pub node_fine : b ≡ true → None ≡ fault22 a g l nums
    unfolding fault22 row_for
    node_fine t = rw e (simp (← f, t))

    pub node-broken : b ≡ false → Some 2 ≡ fault22 a g l nums
    unfolding fault22 row_for
    node-broken t = rw e (simp (← f, t))

  pub other_fine : (b : Bool) → (l ≡ 78 → ⊥) → b ≡ (eqb l 69 || eqb l 80) → b ≡ false → None ≡ fault22 a g l nums
  unfolding fault22 row_for
  other_fine b n d t =
      let o : (eqb l 69 || eqb l 80) ≡ false = sym d ∙ t in
      rw (ne_eqb l 78 n, o, or_left (eqb l 69) (eqb l 80) o)

  -- of an edge or a property
  module _ (b : Bool) (n : l ≡ 78 → ⊥) (d : b ≡ (eqb l 69 || eqb l 80)) (t : b ≡ true) where
    datum : fault22 a g l nums
        ≡ tests (ltb (get_or nums 0 0) (get_or g 0 0)) (declared_field (schema_at a) (field_no (get_or nums 1 0))) (eqb l 69)
        (ltb (get_or nums 2 0) (get_or g 0 0)) (undeclared a nums)
    unfolding fault22 row_for nodes_at cell undeclared label_for tests
    datum = rw (ne_eqb l 78 n, ← d, t)

    pub datum-node : get_or g 0 0 ≤ get_or nums 0 0 → Some 2 ≡ fault22 a g l nums
    datum-node h =
        let q : fault22 a g l nums ≡ Some 2 =
        datum ∙ rw (le-ltb (get_or nums 0 0) (get_or g 0 0) h) (tests-node _ _ _ (undeclared a nums) (undeclared-behind a nums)) in
        rw q

    -- from here on the node is declared, and f is whether the field is
    module _ (f : Bool) (h : get_or nums 0 0 < get_or g 0 0) (e : f ≡ declared_field (schema_at a) (field_no (get_or nums 1 0))) where
      pub datum-field : f ≡ false → Some 3 ≡ fault22 a g l nums
      datum-field r =
          let q : fault22 a g l nums ≡ Some 3 =
          datum ∙ rw (lt-ltb (get_or nums 0 0) (get_or g 0 0) h, ← e, r) (tests-field _ _ (undeclared a nums) (undeclared-behind a nums)) in
          rw q

      pub datum-target : f ≡ true → l ≡ 69 → get_or g 0 0 ≤ get_or nums 2 0 → Some 4 ≡ fault22 a g l nums
      datum-target r m k =
          let q : fault22 a g l nums ≡ Some 4 =
          datum
          ∙ rw (lt-ltb (get_or nums 0 0) (get_or g 0 0) h, ← e, r, eq-eqb l 69 m, le-ltb (get_or nums 2 0) (get_or g 0 0) k)
          (tests-target (undeclared a nums) (undeclared-behind a nums)) in
          rw q

      pub edge-pairs : (r : Option ℕ) → f ≡ true → l ≡ 69 → get_or nums 2 0 < get_or g 0 0 → r ≡ undeclared a nums
          → r ≡ fault22 a g l nums
      unfolding tests
      edge-pairs r s m k o =
          let q : fault22 a g l nums ≡ undeclared a nums =
          datum
          ∙ rw (lt-ltb (get_or nums 0 0) (get_or g 0 0) h, ← e, s, eq-eqb l 69 m, lt-ltb (get_or nums 2 0) (get_or g 0 0) k)
          (worse-none (undeclared a nums)) in
          rw q o

      pub property-pairs : (r : Option ℕ) → f ≡ true → (l ≡ 69 → ⊥) → r ≡ undeclared a nums → r ≡ fault22 a g l nums
      unfolding tests
      property-pairs r s m o =
          let q : fault22 a g l nums ≡ undeclared a nums =
          datum ∙ rw (lt-ltb (get_or nums 0 0) (get_or g 0 0) h, ← e, s, ne_eqb l 69 m) (worse-none (undeclared a nums)) in
          rw q o

pub ruleset judging_22 = (not-true, not-false, node_fine, node-broken, other_fine, datum-node, datum-field, datum-target, edge-pairs, property-pairs)

-- ---- check 23

untaken-behind : (a : List ℕ) (f : FieldNo) (nums : List ℕ) → Behind 6 (untaken a f nums)
unfolding untaken
untaken-behind a f nums =
    let ps = (label_for nums).args in
    let foreign : Pair → Bool = λ p. not (takes_arg (schema_at a) f p.arg) in
    let beyond : Pair → Bool = λ p. not (in_range (schema_at a) (arg_type (schema_at a) p.arg) p.value) in
    let ts : List Test = test_each foreign 2 6 ps in
    let us : List Test = test_each beyond 2 7 ps in
    rw (fault-append ts us)
    (behind-worse 6 (fault_of ts) (fault_of us) (behind-each foreign 2 6 ps)
    (behind-later 6 7 (fault_of us) (omega arith) (behind-each beyond 2 7 ps)))

module _ (a g : List ℕ) (l : ℕ) (nums : List ℕ) (b : Bool) (d : b ≡ (eqb l 69 || eqb l 80)) where
  pub unread : b ≡ false → None ≡ fault23 a g l nums
  unfolding fault23 row_for
  unread t = rw (← d, t)

  -- o is the node's type, f whether it has the field
  module _ (o : TypeNo) (f : Bool) (t : b ≡ true) (e : o ≡ (nodes_at g).type_of (get_or nums 0 0))
      (h : f ≡ has_field (schema_at a) o (field_no (get_or nums 1 0))) where
    owned : fault23 a g l nums ≡ worse (worse (fault_if (not f) 3) (untaken a (field_no (get_or nums 1 0)) nums)) None
    unfolding fault23 row_for untaken label_for
    owned = rw (← d, t, h, e)

    pub not-owned : f ≡ false → Some 3 ≡ fault23 a g l nums
    not-owned r =
        let name = field_no (get_or nums 1 0) in
        let of-pairs : Option ℕ = untaken a name nums in
        let q : fault23 a g l nums ≡ Some 3 =
        owned ∙ rw r (front 3 of-pairs None (omega arith) (behind-later 3 6 of-pairs (omega arith) (untaken-behind a name nums)) tt) in
        rw q

    pub owned-pairs : (r : Option ℕ) → f ≡ true → r ≡ untaken a (field_no (get_or nums 1 0)) nums → r ≡ fault23 a g l nums
    owned-pairs r s k =
        let of-pairs : Option ℕ = untaken a (field_no (get_or nums 1 0)) nums in
        let q : fault23 a g l nums ≡ of-pairs = owned ∙ rw s (worse-none of-pairs) in
        rw q k

pub ruleset judging_23 = (not-true, not-false, unread, not-owned, owned-pairs)

-- ---- check 24

-- a type at fault, whatever a second test in field 4 and the tests behind it say
type_first : (x : Bool) (o : Option ℕ) → Behind 6 o → worse (Some 3) (worse (fault_if x 4) o) ≡ Some 3
type_first x o h =
    first-decides 3 (worse (fault_if x 4) o) (omega arith)
    (behind-worse 3 (fault_if x 4) o (behind-if 3 4 x (omega arith)) (behind-later 3 6 o (omega arith) h))

-- o is the node's type, t the field's type, b whether that is scalar
module _ (a g nums : List ℕ) (o t : TypeNo) (b : Bool) (e : o ≡ (nodes_at g).type_of (get_or nums 0 0))
    (f : t ≡ field_type (schema_at a) o (field_no (get_or nums 1 0))) (h : b ≡ is_scalar (schema_at a) t) where
  -- an edge
  abbrev unfit : Bool
  unfit = not (compatible (schema_at a) ((nodes_at g).type_of (get_or nums 2 0)) t)

  edge-tests : fault24_e a g nums ≡ worse (worse (fault_if b 3) (worse (fault_if unfit 4) None)) None
  unfolding fault24_e row_for
  edge-tests = rw (h, f, e)

  pub edge_scalar : b ≡ true → Some 3 ≡ fault24_e a g nums
  edge_scalar s =
      let q : fault24_e a g nums ≡ Some 3 =
      edge-tests ∙ rw s (worse-none (worse (Some 3) (worse (fault_if unfit 4) None)) ∙ type_first unfit None tt) in
      rw q

  -- u is the target's type, c whether it is compatible
  module _ (u : TypeNo) (c : Bool) (s : b ≡ false) (k : u ≡ (nodes_at g).type_of (get_or nums 2 0)) (m : c ≡ compatible (schema_at a) u t) where
    pub edge_fine : c ≡ true → None ≡ fault24_e a g nums
    edge_fine r = let q : fault24_e a g nums ≡ None = edge-tests ∙ rw (s, ← k, ← m, r) in rw q

    pub edge-broken : c ≡ false → Some 4 ≡ fault24_e a g nums
    edge-broken r = let q : fault24_e a g nums ≡ Some 4 = edge-tests ∙ rw (s, ← k, ← m, r) in rw q

  -- a property with the values xs: whether its list mark is another, and what its values say
  module _ (xs : List ℕ) where
    abbrev other_mark : Bool
    other_mark = not (eqb (get_or nums 2 0) (list_mark (schema_at a) o (field_no (get_or nums 1 0))))

    abbrev of_values : Option ℕ
    of_values = outside a t (6 + 2 * get_or nums 3 0) xs

    property-tests : fault24_p a g nums xs ≡ worse (fault_if (not b) 3) (worse (fault_if other_mark 4) of_values)
    unfolding fault24_p row_for nodes_at outside
    property-tests = rw (h, f, e)

    values-behind : Behind 6 of_values
    unfolding outside
    values-behind =
        behind-later 6 (6 + 2 * get_or nums 3 0) of_values (omega arith)
        (behind-each (λ x. not (in_range (schema_at a) t x)) 1 (6 + 2 * get_or nums 3 0) xs)

    pub property_type : b ≡ false → Some 3 ≡ fault24_p a g nums xs
    property_type s =
        let q : fault24_p a g nums xs ≡ Some 3 = property-tests ∙ rw s (type_first other_mark of_values values-behind) in
        rw q

    -- m is the field's list mark
    module _ (m : ℕ) (s : b ≡ true) (k : m ≡ list_mark (schema_at a) o (field_no (get_or nums 1 0))) where
      pub property-mark : (get_or nums 2 0 ≡ m → ⊥) → Some 4 ≡ fault24_p a g nums xs
      property-mark n =
          let q : fault24_p a g nums xs ≡ Some 4 =
          property-tests
          ∙ rw (s, ← k, ne_eqb (get_or nums 2 0) m n) (earlier-decides 4 6 of_values (omega arith) (omega arith) values-behind) in
          rw q

      pub property-values : (r : Option ℕ) → get_or nums 2 0 ≡ m → r ≡ outside a t (6 + 2 * get_or nums 3 0) xs
          → r ≡ fault24_p a g nums xs
      property-values r n z =
          let q : fault24_p a g nums xs ≡ of_values = property-tests ∙ rw (s, ← k, eq-eqb (get_or nums 2 0) m n) in
          rw q z

pub ruleset judging_24 = (not-true, not-false, edge_scalar, edge_fine, edge-broken, property_type, property-mark, property-values)
