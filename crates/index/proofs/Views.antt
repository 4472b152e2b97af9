-- An area in which a schema's tables stand says what the schema's rows say. Assumes nothing.
use Prim.Native.Nat.{ℕ, ◌≤◌, ◌<◌}
use native.Mathlib.Omega.{arith}
use mathlib.Core.Path.{◌≡◌, refl, sym, ap, ◌∙◌, fun_ext}
use mathlib.Core.Bool.{Bool, true, false, ◌&&◌}
use mathlib.Core.List.{List, [], ◌∷◌, ◌++◌, map, append-nil}
use lib.Dec.{eqb, ltb}
use lib.ListN.{length, get_or, get_or-eq_default}
use borrow.Author.Tests.{ltb-true, ltb-false}
use Rattle.rules.specs.Lists.{those, any}
use Rattle.rules.specs.Text.{Row, no_row, at, A, F, H, field_no, type_no}
use Rattle.rules.specs.Schema.{schema_of, is, nth, states, begins}
use Rattle.tables.specs.Fill.{SchemaFits}
use Rattle.tables.specs.Layout.{narrow, belongs, counted, schema_head}
use Rattle.tables.specs.Read.{cell, narrow_at, pair_in, first_in, seconds_in, schema_at}
use Rattle.tables.proofs.Those.{those-pass}
use Rattle.tables.proofs.Narrow.{Stands, narrow_at_lem, pairs_in, firsts_in, seconds_in_lem}
use Rattle.tables.proofs.Schemas.{SchemaTable, type_table, field-table, arg_table}
use Rattle.tables.proofs.Schemas.{tables-head, tabled_stands, tabled-count}
use Rattle.index.specs.Buckets.{SchemaStands}
use Rattle.index.proofs.Buckets.{PairTable, has_pairs, takes-pairs, member_pairs, pair-table, standing_tables}

-- ---- the tables: what stands behind them does not matter

module _ (a : List ℕ) (rs : List Row) (stands : SchemaStands a rs) (fits : SchemaFits rs) where
  pub schema-head : (i : ℕ) → i < 8 → cell a i ≡ get_or (schema_head rs) i 0
  schema-head i h =
      let long = stands.long in
      standing_tables a rs stands fits i (omega arith) ∙ tables-head (length a) rs (omega arith) fits i h

  pub schema_stands : {k head base : ℕ} → SchemaTable k head base → Stands a k base rs
  schema_stands = let long = stands.long in tabled_stands (length a) rs (omega arith) fits a (standing_tables a rs stands fits)

  pub schema-count : {k head base : ℕ} → SchemaTable k head base → cell a head ≡ counted k rs
  schema-count = let long = stands.long in tabled-count (length a) rs (omega arith) fits a (standing_tables a rs stands fits)

-- ---- pairs among the first lines

pair_letter : {k head base at letter : ℕ} → PairTable k head base at letter → belongs k ≡ is letter
unfolding belongs
pair_letter has_pairs = fun_ext (λ r. refl)
pair_letter takes-pairs = fun_ext (λ r. refl)
pair_letter member_pairs = fun_ext (λ r. refl)

module _ (a : List ℕ) (ps rs : List Row) (stands : SchemaStands a (ps ++ rs)) (fits : SchemaFits (ps ++ rs))
    {k head base links letter : ℕ} (t : PairTable k head base links letter) where
  here : Stands a k base (ps ++ rs)
  here = schema_stands a (ps ++ rs) stands fits (pair-table t)

  pub pairs-before : (x y : ℕ) → pair_in a base (counted k ps) x y ≡ any (states letter x y) ps
  pairs-before x y =
      pairs_in a k base ps rs here x y
      ∙ ap (λ (p : Row → Bool). any (λ r. p r && (eqb (at r 0) x && eqb (at r 1) y)) ps) (pair_letter t)

  -- the rows with a first number, and their second numbers
  pub firsts_before : (x : ℕ) → first_in a base (counted k ps) x ≡ any (begins letter x) ps
  firsts_before x =
      firsts_in a k base ps rs here x ∙ ap (λ (p : Row → Bool). any (λ r. p r && eqb (at r 0) x) ps) (pair_letter t)

  pub seconds_before : (x : ℕ) → seconds_in a base (counted k ps) x ≡ map (λ r. at r 1) (those (begins letter x) ps)
  seconds_before x =
      seconds_in_lem a k base ps rs here x
      ∙ ap (λ (p : Row → Bool). map (λ r. at r 1) (those (λ r. p r && eqb (at r 0) x) ps)) (pair_letter t)

-- ---- the whole schema

map-map : {A B C : Type 0} (f : B → C) (g : A → B) (xs : List A) → map f (map g xs) ≡ map (λ x. f (g x)) xs
map-map f g [] = refl
map-map {C = C} f g (x ∷ xs) = ap (λ (ys : List C). f (g x) ∷ ys) (map-map f g xs)

-- a number is declared where it is below the count
below_declared : (p : Row → Bool) (rs : List Row) (c j : ℕ) → p no_row ≡ false → c ≡ length (those p rs) → ltb j c ≡ p (nth p rs j)
below_declared p rs c j none e = go (ltb j c) refl
  where
    go : (t : Bool) → ltb j c ≡ t → ltb j c ≡ p (nth p rs j)
    go true t = t ∙ sym (those-pass p rs no_row j (omega (arith, ltb-true j c t)))
    go false t =
        let far : length (those p rs) ≤ j = omega (arith, ltb-false j c t) in
        t ∙ sym (ap p (get_or-eq_default (those p rs) no_row far) ∙ none)

module _ (a : List ℕ) (rs : List Row) (stands : SchemaStands a rs) (fits : SchemaFits rs) where
  -- cell i of row j of a table, zeros where there is no such row
  at_row : {k head base : ℕ} → SchemaTable k head base → (j i : ℕ) → i < 3 → narrow_at a head base j i ≡ get_or (narrow (nth (belongs k) rs j)) i 0
  at_row {k} {head} {base} t j i b =
      narrow_at_lem a k base rs (schema_stands a rs stands fits t) head j i (schema-count a rs stands fits t) b

  -- all lines as first lines
  whole_stands : SchemaStands a (rs ++ [])
  whole_stands = rw append-nil stands

  whole-fits : SchemaFits (rs ++ [])
  whole-fits = rw append-nil fits

  -- what is asked of the rows of the first lines, asked of all
  all-rows : {B : Type 0} {k head base : ℕ} → SchemaTable k head base → (ask : ℕ → B) (x : B)
      → ask (counted k rs) ≡ x → ask (cell a head) ≡ x
  all-rows t ask x e = ap ask (schema-count a rs stands fits t) ∙ e

  module _ {k head base links letter : ℕ} (t : PairTable k head base links letter) where
    pairs-all : (x y : ℕ) → pair_in a base (cell a head) x y ≡ any (states letter x y) rs
    pairs-all x y = all-rows (pair-table t) (λ c. pair_in a base c x y) _ (pairs-before a rs [] whole_stands whole-fits t x y)

    firsts_all : (x : ℕ) → first_in a base (cell a head) x ≡ any (begins letter x) rs
    firsts_all x = all-rows (pair-table t) (λ c. first_in a base c x) _ (firsts_before a rs [] whole_stands whole-fits t x)

    seconds_all : (x : ℕ) → seconds_in a base (cell a head) x ≡ map (λ r. at r 1) (those (begins letter x) rs)
    seconds_all x = all-rows (pair-table t) (λ c. seconds_in a base c x) _ (seconds_before a rs [] whole_stands whole-fits t x)

  same_kind : (schema_at a).kind ≡ (schema_of rs).kind
  unfolding schema_at narrow belongs
  same_kind = fun_ext (λ t. at_row type_table t.0 0 (omega arith))

  same_low : (schema_at a).low ≡ (schema_of rs).low
  unfolding schema_at narrow belongs
  same_low = fun_ext (λ t. at_row type_table t.0 1 (omega arith))

  same-high : (schema_at a).high ≡ (schema_of rs).high
  unfolding schema_at narrow belongs
  same-high = fun_ext (λ t. at_row type_table t.0 2 (omega arith))

  same-fields : (schema_at a).declared_field ≡ (schema_of rs).declared_field
  unfolding schema_at counted belongs
  same-fields = fun_ext (λ f. below_declared (is F) rs (cell a 1) f.0 refl (schema-count a rs stands fits field-table))

  same-field_type : (schema_at a).field_type ≡ (schema_of rs).field_type
  unfolding schema_at narrow belongs
  same-field_type = fun_ext (λ o. fun_ext (λ f. ap type_no (at_row field-table f.0 1 (omega arith))))

  same-mark : (schema_at a).list_mark ≡ (schema_of rs).list_mark
  unfolding schema_at narrow belongs
  same-mark = fun_ext (λ o. fun_ext (λ f. at_row field-table f.0 2 (omega arith)))

  same_args : (schema_at a).declared_arg ≡ (schema_of rs).declared_arg
  unfolding schema_at counted belongs
  same_args = fun_ext (λ x. below_declared (is A) rs (cell a 2) x.0 refl (schema-count a rs stands fits arg_table))

  same_arg_type : (schema_at a).arg_type ≡ (schema_of rs).arg_type
  unfolding schema_at narrow belongs
  same_arg_type = fun_ext (λ x. ap type_no (at_row arg_table x.0 1 (omega arith)))

  same_has : (schema_at a).has_field ≡ (schema_of rs).has_field
  unfolding schema_at
  same_has = fun_ext (λ t. fun_ext (λ f. pairs-all has_pairs t.0 f.0))

  same-fields_of : (schema_at a).fields_of ≡ (schema_of rs).fields_of
  unfolding schema_at
  same-fields_of =
      fun_ext (λ t. ap (map field_no) (seconds_all has_pairs t.0) ∙ map-map field_no (λ r. at r 1) (those (begins H t.0) rs))

  same_takes : (schema_at a).takes_arg ≡ (schema_of rs).takes_arg
  unfolding schema_at
  same_takes = fun_ext (λ f. fun_ext (λ x. pairs-all takes-pairs f.0 x.0))

  same_members : (schema_at a).has_member ≡ (schema_of rs).has_member
  unfolding schema_at
  same_members = fun_ext (λ t. fun_ext (λ o. pairs-all member_pairs t.0 o.0))

  same_some : (schema_at a).some_member ≡ (schema_of rs).some_member
  unfolding schema_at
  same_some = fun_ext (λ t. firsts_all member_pairs t.0)

  same-query : (schema_at a).query_type ≡ (schema_of rs).query_type
  unfolding schema_at schema_head
  same-query = ap type_no (schema-head a rs stands fits 7 (omega arith))

  -- The area read as a schema is the schema of the rows.
  pub schema-view : schema_at a ≡ schema_of rs
  schema-view =
      λ i. record {
        kind = same_kind i;
        low = same_low i;
        high = same-high i;
        declared_field = same-fields i;
        field_type = same-field_type i;
        list_mark = same-mark i;
        declared_arg = same_args i;
        arg_type = same_arg_type i;
        has_field = same_has i;
        fields_of = same-fields_of i;
        takes_arg = same_takes i;
        has_member = same_members i;
        some_member = same_some i;
        query_type = same-query i;
      }
