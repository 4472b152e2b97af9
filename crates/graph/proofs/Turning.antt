-- Loops over the pairs of a row and over the values of a property: what is left of the tests decides. Assumes nothing.
use Prim.Native.Nat.{ℕ, suc, ◌+◌, ◌*◌, ◌-◌, ◌≤◌, ◌<◌}
use native.Mathlib.Omega.{arith}
use native.Mathlib.Numerals.{unary_clauses}
use mathlib.Core.Path.{◌≡◌, sym, ap, ◌∙◌}
use mathlib.Core.Bool.{Bool, true, false, not}
use mathlib.Core.List.{List}
use Rattle.std.specs.Prelude.{Option, None, Some}
use lib.ListN.{length, get_or, take, drop}
use lib.Seq.{drop-cons}
use borrow.Author.Tests.{not-true, not-false}
use Rattle.rules.specs.Text.{Pair, pairs, arg_no}
use Rattle.rules.specs.Search.{test_each, worse, fault_if, fault_of}
use Rattle.rules.specs.Schema.{declared_arg, takes_arg, arg_type, in_range}
use Rattle.rules.specs.declared.FieldNo.{FieldNo}
use Rattle.rules.specs.declared.TypeNo.{TypeNo}
use Rattle.tables.specs.Read.{wide_at, values_at, schema_at}
use Rattle.graph.specs.Faults.{label_for, undeclared, untaken, outside}
use Rattle.rules.proofs.Rising.{Behind, behind-later, behind-each, first-decides, earlier-decides, last-decides, fault-append}
use Rattle.graph.proofs.Paired.{pair, pairs-on}

-- ---- the pairs of a row

module _ (bad : Pair → Bool) (f : ℕ) (nums : List ℕ) where
  -- the tests of the pairs from pair i on, the first pair of all being tested in field f
  unfoldable pub rest : ℕ → Option ℕ
  rest i = fault_of (test_each bad 2 (f + 2 * i) (pairs (get_or nums 3 0 - i) (drop (4 + 2 * i) nums)))

  rest_all : fault_of (test_each bad 2 f (pairs (get_or nums 3 0) (drop 4 nums))) ≡ rest 0
  unfolding rest
  rest_all = simp unary_clauses

  rest-behind : (i : ℕ) → Behind (f + 2 * i) (rest i)
  unfolding rest
  rest-behind i = behind-each bad 2 (f + 2 * i) (pairs (get_or nums 3 0 - i) (drop (4 + 2 * i) nums))

  rest_ended : (i : ℕ) → get_or nums 3 0 ≤ i → rest i ≡ None
  unfolding rest
  rest_ended i h = let z : get_or nums 3 0 - i ≡ 0 = omega arith in rw z

  rest-on : (i : ℕ) → i < get_or nums 3 0 → get_or nums 3 0 ≤ 4 → length nums ≡ 12
      → rest i ≡ worse (fault_if (bad (pair (get_or nums (4 + 2 * i) 0) (get_or nums (5 + 2 * i) 0))) (f + 2 * i)) (rest (i + 1))
  unfolding rest
  rest-on i h k l =
      let z : 2 + (f + 2 * i) ≡ f + 2 * (i + 1) = omega arith in
      rw (pairs-on nums (get_or nums 3 0) i h k l, ← z)

-- the argument of a pair is not declared; is not the field's; its value is out of range
abbrev stray : List ℕ → Pair → Bool
stray a p = not (declared_arg (schema_at a) p.arg)

abbrev foreign : List ℕ → FieldNo → Pair → Bool
foreign a f p = not (takes_arg (schema_at a) f p.arg)

abbrev beyond : List ℕ → Pair → Bool
beyond a p = not (in_range (schema_at a) (arg_type (schema_at a) p.arg) p.value)

-- the loop of check 22
unfoldable pub DeclaredLeft : List ℕ → List ℕ → ℕ → Type 0
DeclaredLeft a nums i = undeclared a nums ≡ rest (stray a) 6 nums i

pub declared_all : (a nums : List ℕ) → DeclaredLeft a nums 0
unfolding DeclaredLeft undeclared label_for
declared_all a nums = rest_all (stray a) 6 nums

module _ (a nums : List ℕ) (i : ℕ) where
  pub declared_broken : (b : Bool) → DeclaredLeft a nums i → i < get_or nums 3 0 → get_or nums 3 0 ≤ 4 → length nums ≡ 12
      → b ≡ declared_arg (schema_at a) (arg_no (get_or nums (4 + 2 * i) 0)) → b ≡ false → Some (6 + 2 * i) ≡ undeclared a nums
  unfolding DeclaredLeft
  declared_broken b k h w l e t =
      let names = rest (stray a) 6 nums (i + 1) in
      let z : declared_arg (schema_at a) (arg_no (get_or nums (4 + 2 * i) 0)) ≡ false = sym e ∙ t in
      let q : undeclared a nums ≡ Some (6 + 2 * i) =
      k ∙ rest-on (stray a) 6 nums i h w l
      ∙ rw z (earlier-decides (6 + 2 * i) (6 + 2 * (i + 1)) names (omega arith) (omega arith) (rest-behind (stray a) 6 nums (i + 1))) in
      rw q

  pub declared_on : (b : Bool) → DeclaredLeft a nums i → i < get_or nums 3 0 → get_or nums 3 0 ≤ 4 → length nums ≡ 12
      → b ≡ declared_arg (schema_at a) (arg_no (get_or nums (4 + 2 * i) 0)) → b ≡ true → DeclaredLeft a nums (i + 1)
  unfolding DeclaredLeft
  declared_on b k h w l e t =
      let z : declared_arg (schema_at a) (arg_no (get_or nums (4 + 2 * i) 0)) ≡ true = sym e ∙ t in
      k ∙ rest-on (stray a) 6 nums i h w l ∙ rw z

  pub declared_ended : DeclaredLeft a nums i → get_or nums 3 0 ≤ i → None ≡ undeclared a nums
  unfolding DeclaredLeft
  declared_ended k h = rw (k, rest_ended (stray a) 6 nums i h)

pub ruleset declaring = (not-true, not-false, declared_all, declared_broken, declared_on, declared_ended)

-- the loop of check 23: two tests of each pair, one field apart
unfoldable pub TakenLeft : List ℕ → FieldNo → List ℕ → ℕ → Type 0
TakenLeft a f nums i = untaken a f nums ≡ worse (rest (foreign a f) 6 nums i) (rest (beyond a) 7 nums i)

pub taken-all : (a : List ℕ) (f : FieldNo) (nums : List ℕ) → TakenLeft a f nums 0
unfolding TakenLeft untaken label_for
taken-all a f nums =
    fault-append (test_each (foreign a f) 2 6 (pairs (get_or nums 3 0) (drop 4 nums))) (test_each (beyond a) 2 7 (pairs (get_or nums 3 0) (drop 4 nums)))
    ∙ rw (rest_all (foreign a f) 6 nums, rest_all (beyond a) 7 nums)

module _ (a : List ℕ) (f : FieldNo) (nums : List ℕ) (i : ℕ) where
  -- both lists at pair i
  taken_next : TakenLeft a f nums i → i < get_or nums 3 0 → get_or nums 3 0 ≤ 4 → length nums ≡ 12
      → untaken a f nums
      ≡ worse
      (worse (fault_if (foreign a f (pair (get_or nums (4 + 2 * i) 0) (get_or nums (5 + 2 * i) 0))) (6 + 2 * i)) (rest (foreign a f) 6 nums (i + 1)))
      (worse (fault_if (beyond a (pair (get_or nums (4 + 2 * i) 0) (get_or nums (5 + 2 * i) 0))) (7 + 2 * i)) (rest (beyond a) 7 nums (i + 1)))
  unfolding TakenLeft
  taken_next k h w l = k ∙ rw (rest-on (foreign a f) 6 nums i h w l, rest-on (beyond a) 7 nums i h w l)

  later : Behind (7 + 2 * i) (rest (foreign a f) 6 nums (i + 1))
  later = behind-later (7 + 2 * i) (6 + 2 * (i + 1)) (rest (foreign a f) 6 nums (i + 1)) (omega arith) (rest-behind (foreign a f) 6 nums (i + 1))

  later-values : Behind (7 + 2 * i) (rest (beyond a) 7 nums (i + 1))
  later-values = behind-later (7 + 2 * i) (7 + 2 * (i + 1)) (rest (beyond a) 7 nums (i + 1)) (omega arith) (rest-behind (beyond a) 7 nums (i + 1))

  pub taken-foreign : (b : Bool) → TakenLeft a f nums i → i < get_or nums 3 0 → get_or nums 3 0 ≤ 4 → length nums ≡ 12
      → b ≡ takes_arg (schema_at a) f (arg_no (get_or nums (4 + 2 * i) 0)) → b ≡ false → Some (6 + 2 * i) ≡ untaken a f nums
  unfolding TakenLeft
  taken-foreign b k h w l e t =
      let z : takes_arg (schema_at a) f (arg_no (get_or nums (4 + 2 * i) 0)) ≡ false = sym e ∙ t in
      let names = rest (foreign a f) 6 nums (i + 1) in
      let values = rest (beyond a) 7 nums i in
      let first : worse (Some (6 + 2 * i)) names ≡ Some (6 + 2 * i) =
      earlier-decides (6 + 2 * i) (7 + 2 * i) names (omega arith) (omega arith) later in
      let second : worse (Some (6 + 2 * i)) values ≡ Some (6 + 2 * i) =
      earlier-decides (6 + 2 * i) (7 + 2 * i) values (omega arith) (omega arith) (rest-behind (beyond a) 7 nums i) in
      let q : untaken a f nums ≡ Some (6 + 2 * i) =
      k ∙ rw (rest-on (foreign a f) 6 nums i h w l, z) (ap (λ o. worse o values) first ∙ second) in
      rw q

  -- from here on the argument is the field's: t is the argument's type as the code found it
  module _ (b d : Bool) (t : TypeNo) (k : TakenLeft a f nums i) (h : i < get_or nums 3 0) (w : get_or nums 3 0 ≤ 4) (l : length nums ≡ 12)
      (e : b ≡ takes_arg (schema_at a) f (arg_no (get_or nums (4 + 2 * i) 0))) (s : b ≡ true)
      (o : t ≡ arg_type (schema_at a) (arg_no (get_or nums (4 + 2 * i) 0))) (g : d ≡ in_range (schema_at a) t (get_or nums (5 + 2 * i) 0)) where
    takes : takes_arg (schema_at a) f (arg_no (get_or nums (4 + 2 * i) 0)) ≡ true
    takes = sym e ∙ s

    within : in_range (schema_at a) (arg_type (schema_at a) (arg_no (get_or nums (4 + 2 * i) 0))) (get_or nums (5 + 2 * i) 0) ≡ d
    within = ap (λ x. in_range (schema_at a) x (get_or nums (5 + 2 * i) 0)) (sym o) ∙ sym g

    pub taken-beyond : d ≡ false → Some (7 + 2 * i) ≡ untaken a f nums
    taken-beyond r =
        let names = rest (foreign a f) 6 nums (i + 1) in
        let values = rest (beyond a) 7 nums (i + 1) in
        let q : untaken a f nums ≡ Some (7 + 2 * i) =
        taken_next k h w l
        ∙ simp (takes, within, r)
        (ap (λ x. worse names x) (first-decides (7 + 2 * i) values (omega arith) later-values)
        ∙ last-decides (7 + 2 * i) names (omega arith) later) in
        rw q

    pub taken-on : d ≡ true → TakenLeft a f nums (i + 1)
    unfolding TakenLeft
    taken-on r = taken_next k h w l ∙ simp (takes, within, r)

  pub taken-ended : TakenLeft a f nums i → get_or nums 3 0 ≤ i → None ≡ untaken a f nums
  unfolding TakenLeft
  taken-ended k h = rw (k, rest_ended (foreign a f) 6 nums i h, rest_ended (beyond a) 7 nums i h)

pub ruleset taking = (not-true, not-false, taken-all, taken-foreign, taken-beyond, taken-on, taken-ended)

-- ---- the values of a property

-- value i, the values in front of `front` being pairs, stands at start + (i - front), and is tested in field from + (i - front)
unfoldable pub ValuesLeft : List ℕ → TypeNo → List ℕ → List ℕ → ℕ → ℕ → ℕ → ℕ → ℕ → Type 0
ValuesLeft a t v xs from start front all i = outside a t from xs ≡ outside a t (from + (i - front)) (take (all - i) (drop (start + (i - front)) v))

pub values-all : (a : List ℕ) (t : TypeNo) (p v : List ℕ) (j from s n m : ℕ) → s ≡ wide_at p 8 j 0 → n ≡ wide_at p 8 j 5 → m ≡ wide_at p 8 j 1
    → ValuesLeft a t v (values_at p v j) from (8 + s) (4 + 2 * n) m (4 + 2 * n)
unfolding ValuesLeft values_at
values-all a t p v j from s n m e f g =
    let z : 4 + 2 * n - (4 + 2 * n) ≡ 0 = omega arith in
    let y : from + 0 ≡ from = omega arith in
    let x : 8 + s + 0 ≡ 8 + s = omega arith in
    rw (z, y, x, e, f, g)

module _ (a : List ℕ) (t : TypeNo) (v xs : List ℕ) (from start front all i : ℕ) where
  values-next : ValuesLeft a t v xs from start front all i → i < all → front ≤ i → start + (all - front) ≤ length v
      → outside a t from xs
      ≡ worse (fault_if (not (in_range (schema_at a) t (get_or v (start + (i - front)) 0))) (from + (i - front)))
      (outside a t (from + (i + 1 - front)) (take (all - (i + 1)) (drop (start + (i + 1 - front)) v)))
  unfolding ValuesLeft outside
  values-next k h o w =
      let z : all - i ≡ suc (all - (i + 1)) = omega arith in
      let y : from + (i + 1 - front) ≡ 1 + (from + (i - front)) = omega arith in
      let x : start + (i + 1 - front) ≡ suc (start + (i - front)) = omega arith in
      let l : start + (i - front) < length v = omega arith in
      k ∙ rw (z, y, x, drop-cons v (start + (i - front)) 0 l)

  pub values-broken : (b : Bool) → ValuesLeft a t v xs from start front all i → i < all → front ≤ i → start + (all - front) ≤ length v → 1 ≤ from
      → b ≡ in_range (schema_at a) t (get_or v (start + (i - front)) 0) → b ≡ false → Some (from + (i - front)) ≡ outside a t from xs
  unfolding outside
  values-broken b k h o w u e r =
      let z : in_range (schema_at a) t (get_or v (start + (i - front)) 0) ≡ false = sym e ∙ r in
      let next = from + (i + 1 - front) in
      let left : List ℕ = take (all - (i + 1)) (drop (start + (i + 1 - front)) v) in
      let q : outside a t from xs ≡ Some (from + (i - front)) =
      values-next k h o w
      ∙ simp z
      (earlier-decides (from + (i - front)) next (outside a t next left) (omega arith) (omega arith)
      (behind-each (λ x. not (in_range (schema_at a) t x)) 1 next left)) in
      rw q

  pub values-on : (b : Bool) → ValuesLeft a t v xs from start front all i → i < all → front ≤ i → start + (all - front) ≤ length v
      → b ≡ in_range (schema_at a) t (get_or v (start + (i - front)) 0) → b ≡ true → ValuesLeft a t v xs from start front all (i + 1)
  unfolding ValuesLeft
  values-on b k h o w e r =
      let z : in_range (schema_at a) t (get_or v (start + (i - front)) 0) ≡ true = sym e ∙ r in
      values-next k h o w ∙ simp z

  pub values-ended : ValuesLeft a t v xs from start front all i → all ≤ i → None ≡ outside a t from xs
  unfolding ValuesLeft outside
  values-ended k h = let z : all - i ≡ 0 = omega arith in rw (k, z)

pub ruleset valuing = (not-true, not-false, values-all, values-broken, values-on, values-ended)
