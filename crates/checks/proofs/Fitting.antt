-- Texts that pass the maxima (checks 11, 21 and 31) fit their tables, and no row that keeps its form has more than four pairs. Assumes nothing.
use Prim.Native.Nat.{ℕ, ◌+◌, ◌*◌, ◌≤◌, ◌<◌}
use native.Mathlib.Omega.{arith}
use mathlib.Core.Path.{◌≡◌, refl, sym, ap, subst}
use mathlib.Core.Bool.{Bool, true, false, not, ◌&&◌, true≢false, false≢true}
use mathlib.Core.List.{List, [], ◌∷◌}
use Rattle.std.specs.Prelude.{None}
use lib.Dec.{eqb}
use lib.ListN.{length, length-append, get_or-eq_default}
use borrow.Author.Tests.{leb-false, ltb-false, eqb-true, not-false}
use Rattle.rules.specs.Lists.{those, keep_if, any, each, sum_of}
use Rattle.rules.specs.Text.{Row, row, no_row, at, values_of, rows, type_no, A, E, F, G, H, M, N, P, T}
use Rattle.rules.specs.Search.{Check, first_line}
use Rattle.rules.specs.Schema.{Schema, schema_of, is, is_type, states, kind, is_object, has_members, check11, check12}
use Rattle.rules.specs.declared.TypeNo.{TypeNo}
use Rattle.rules.specs.Graph.{check21}
use Rattle.rules.specs.Query.{depth, check31}
use Rattle.rules.specs.Forms.{form_tests, graph_forms, query_forms, text_form}
use Rattle.rules.proofs.Bools.{and-true_left, and-true_right, clash}
use Rattle.rules.proofs.Clean.{Silent, Calm, Clean, clean, Each, clean-each}
use Rattle.rules.proofs.Sound.{rows-each}
use Rattle.rules.proofs.Sums.{sum_ones}
use Rattle.text.proofs.Tools.{by_order}
use Rattle.tables.specs.Layout.{belongs, counted, all_values}
use Rattle.tables.specs.Fill.{SchemaFits, GraphFits}
use Rattle.masks.specs.Masks.{MembersSound}

-- ---- a maximum that each row keeps with the rows before it, all rows keep

-- Rows of a kind p weigh w. Where a row of the kind, with those before it, never weighs more than n, all of them weigh at most n.
module _ (check : Check Row) (p : Row → Bool) (w : Row → ℕ) (n : ℕ)
    (keeps : (before : List Row) (r : Row) (after : List Row) → Calm (check before r after) → p r ≡ true
    → w r + sum_of w (those p before) ≤ n) where
  total-from : (before rs : List Row) → Clean check before rs → sum_of w (those p before) ≤ n
      → sum_of w (those p before) + sum_of w (those p rs) ≤ n
  total-from before [] c h = omega arith
  total-from before (r ∷ rs) c h = go (λ k. total-from (r ∷ before) rs c.1 k) (p r) refl
    where
      go : (sum_of w (those p (r ∷ before)) ≤ n → sum_of w (those p (r ∷ before)) + sum_of w (those p rs) ≤ n)
          → (b : Bool) → p r ≡ b → sum_of w (those p before) + sum_of w (keep_if b r (those p rs)) ≤ n
      go ih true e =
          let k = keeps before r rs c.0 e in
          let i = (rw (e, keep_if) at ih) k in
          omega arith
      go ih false e = (rw (e, keep_if) at ih) h

  total-fits : (rs : List Row) → first_line check rs ≡ None → sum_of w (those p rs) ≤ n
  total-fits rs h = omega (arith, total-from [] rs (clean check [] 1 rs h) (omega arith))

-- the rows of a kind: each has fewer than n before it, so that there are at most n
count_fits : (check : Check Row) (p : Row → Bool) (n : ℕ)
    → ((before : List Row) (r : Row) (after : List Row) → Calm (check before r after) → p r ≡ true → length (those p before) < n)
    → (rs : List Row) → first_line check rs ≡ None → length (those p rs) ≤ n
count_fits check p n keeps rs h =
    omega (
      arith,
      sum_ones (those p rs),
      total-fits check p (λ _. 1) n
          (λ before r after c e. let k = keeps before r after c e in omega (arith, sum_ones (those p before))) rs h,
    )

-- ---- the schema

pub schema-fits : (rs : List Row) → first_line check11 rs ≡ None → SchemaFits rs
unfolding counted belongs
schema-fits rs h =
    record {
      types = count_fits check11 is_type 64 (λ b r a c e. leb-false 64 (length (those is_type b)) (c.0 e).0) rs h;
      fields = count_fits check11 (is F) 128 (λ b r a c e. leb-false 128 (length (those (is F) b)) (c.1.0 e).0) rs h;
      args = count_fits check11 (is A) 64 (λ b r a c e. leb-false 64 (length (those (is A) b)) (c.1.1.0 e).0) rs h;
      has = count_fits check11 (is H) 1024 (λ b r a c e. leb-false 1024 (length (those (is H) b)) (c.1.1.1.0 e).0) rs h;
      takes = count_fits check11 (is G) 1024 (λ b r a c e. leb-false 1024 (length (those (is G) b)) (c.1.1.1.1.0 e).0) rs h;
      members = count_fits check11 (is M) 1024 (λ b r a c e. leb-false 1024 (length (those (is M) b)) (c.1.1.1.1.1.0 e).0) rs h;
    }

-- ---- the members of types

any-each : {A : Type 0} (P : A → Type 0) (p : A → Bool) (xs : List A) → Each P xs → any p xs ≡ true → (x : A) × (P x × (p x ≡ true))
any-each P p [] e h = absurd (false≢true h)
any-each {A} P p (x ∷ xs) e h = go (λ k. any-each P p xs e.1 k) (p x) refl
  where
    go : (any p xs ≡ true → (y : A) × (P y × (p y ≡ true))) → (b : Bool) → p x ≡ b → (y : A) × (P y × (p y ≡ true))
    go ih true t = (x, (e.0, t))
    go ih false t = ih (rw t at h)

-- an `M` record has a union or an interface, and an object type
abbrev MemberSound : Schema → Row → Type 0
MemberSound s r = is M r ≡ true → (has_members s (type_no (at r 0)) ≡ true) × (is_object s (type_no (at r 1)) ≡ true)

-- the schema of rows that pass 11 and 12 has sound members
module _ (rs : List Row) (fits : SchemaFits rs) (h : first_line (check12 (schema_of rs)) rs ≡ None) where
  abbrev s : Schema
  s = schema_of rs

  declared_below : (t : TypeNo) → (kind s t ≡ 0 → ⊥) → t.0 < 64
  unfolding counted belongs
  declared_below t declared =
      by_order t.0 64 (λ l. l)
      (λ l. absurd (declared (ap (λ (r : Row). r.letter) (get_or-eq_default (those is_type rs) no_row (omega (arith, fits.types))))))

  each-sound : Each (MemberSound s) rs
  each-sound =
      clean-each (check12 s) (MemberSound s)
      (λ b r a c e. let m = c.1.1.1.1.1.0 e in
      (not-false (has_members s (type_no (at r 0))) m.0, not-false (is_object s (type_no (at r 1))) m.1.0))
      [] rs (clean (check12 s) [] 1 rs h)

  member_given : (t o : TypeNo) → s.has_member t o ≡ true → (has_members s t ≡ true) × (is_object s o ≡ true)
  member_given t o g =
      let found = any-each (MemberSound s) (states M t.0 o.0) rs each-sound g in
      let r : Row = found.0 in
      let numbers = and-true_right (is M r) (eqb (at r 0) t.0 && eqb (at r 1) o.0) found.1.1 in
      let first = eqb-true (at r 0) t.0 (and-true_left (eqb (at r 0) t.0) (eqb (at r 1) o.0) numbers) in
      let second = eqb-true (at r 1) o.0 (and-true_right (eqb (at r 0) t.0) (eqb (at r 1) o.0) numbers) in
      let kinds = found.1.0 (and-true_left (is M r) (eqb (at r 0) t.0 && eqb (at r 1) o.0) found.1.1) in (
        subst (λ (u : ℕ). has_members s (type_no u) ≡ true) first kinds.0,
        subst (λ (u : ℕ). is_object s (type_no u) ≡ true) second kinds.1,
      )

  pub members_sound : MembersSound s
  members_sound = record { below = declared_below; given = member_given }

-- ---- the graph

-- the values in all are as many as those of each property together
values_length : (ps : List Row) → length (each values_of ps) ≡ sum_of (λ p. length (values_of p)) ps
values_length [] = refl
values_length (p ∷ ps) = omega (arith, length-append (values_of p) (each values_of ps), values_length ps)

values_fit : (rs : List Row) → first_line check21 rs ≡ None → sum_of (λ p. length (values_of p)) (those (is P) rs) ≤ 8192
values_fit rs h =
    total-fits check21 (is P) (λ p. length (values_of p)) 8192
    (λ b r a c e. ltb-false 8192 (length (values_of r) + sum_of (λ p. length (values_of p)) (those (is P) b)) (c.1.1.1.0 e).0) rs h

pub graph-fits : (rs : List Row) → first_line check21 rs ≡ None → GraphFits rs
unfolding counted belongs all_values
graph-fits rs h =
    record {
      nodes = count_fits check21 (is N) 512 (λ b r a c e. leb-false 512 (length (those (is N) b)) (c.0 e).0) rs h;
      edges = count_fits check21 (is E) 1024 (λ b r a c e. leb-false 1024 (length (those (is E) b)) (c.1.0 e).0) rs h;
      properties = count_fits check21 (is P) 1024 (λ b r a c e. leb-false 1024 (length (those (is P) b)) (c.1.1.0 e).0) rs h;
      values = subst (λ (n : ℕ). n ≤ 8192) (sym (values_length (those (is P) rs))) (values_fit rs h);
    }

-- ---- the query

-- of the query's rows every one counts
pub those-all : (rs : List Row) → those (λ _. true) rs ≡ rs
those-all [] = refl
those-all (r ∷ rs) = ap (λ (l : List Row). r ∷ l) (those-all rs)

pub query-fits : (rs : List Row) → first_line check31 rs ≡ None → (length rs ≤ 256) × Each (λ r. depth r ≤ 15) rs
query-fits rs h = (
  rw those-all at few,
  clean-each check31 (λ r. depth r ≤ 15) (λ b r a c. ltb-false 15 (depth r) (c.0 refl).1.0) [] rs (clean check31 [] 1 rs h),
)
  where
    few : length (those (λ _. true) rs) ≤ 256
    few =
        count_fits check31 (λ _. true) 256
        (λ b r a c e. rw those-all (leb-false 256 (length b) (c.0 refl).0)) rs h

-- ---- at most four pairs

-- a row with few numbers has no number at 3
no_fourth : (r : Row) (n : ℕ) → n ≤ 3 → not (eqb (length r.numbers) n) ≡ false → at r 3 ≤ 4
no_fourth r n h u =
    let l : length r.numbers ≡ n = eqb-true (length r.numbers) n (not-false (eqb (length r.numbers) n) u) in
    let z : at r 3 ≡ 0 = get_or-eq_default r.numbers 0 (omega arith) in
    omega arith

graph-row_few : (r : Row) → Silent (form_tests graph_forms r) → at r 3 ≤ 4
graph-row_few r h = go (eqb r.letter N) (eqb r.letter E) (eqb r.letter P) refl refl refl
  where
    go : (a b c : Bool) → eqb r.letter N ≡ a → eqb r.letter E ≡ b → eqb r.letter P ≡ c → at r 3 ≤ 4
    go true b c p q t = no_fourth r 1 (omega arith) (rw (p, form_tests) at h).0
    go false true c p q t = ltb-false 4 (at r 3) (rw (p, q, form_tests) at h).1.0
    go false false true p q t = ltb-false 4 (at r 3) (rw (p, q, t, form_tests) at h).1.1.1.0
    go false false false p q t = absurd (true≢false (rw (p, q, t, form_tests) at h).0)

pub graph-few : (s : List ℕ) → text_form graph_forms s ≡ None → Each (λ r. at r 3 ≤ 4) (rows s)
graph-few s h = rows-each graph_forms (λ r. at r 3 ≤ 4) (λ l k. graph-row_few (row l) k.formed) s h

-- and a field of the query has all its pairs
pub query-row : (r : Row) → Silent (form_tests query_forms r) → (at r 3 ≤ 4) × (is F r ≡ true → 4 + 2 * at r 3 ≤ length r.numbers)
query-row r h = go (eqb r.letter F) (eqb r.letter T) refl refl
  where
    go : (a b : Bool) → eqb r.letter F ≡ a → eqb r.letter T ≡ b
        → (at r 3 ≤ 4) × (is F r ≡ true → 4 + 2 * at r 3 ≤ length r.numbers)
    go true b p q =
        let t = rw (p, form_tests) at h in
        let n = 4 + 2 * at r 3 in
        let l : length r.numbers ≡ n = eqb-true (length r.numbers) n (not-false (eqb (length r.numbers) n) t.0) in
        (ltb-false 4 (at r 3) t.1.0, λ _. omega arith)
    go false true p q = (no_fourth r 2 (omega arith) (rw (p, q, form_tests) at h).0, λ k. absurd (clash k p))
    go false false p q = absurd (true≢false (rw (p, q, form_tests) at h).0)

pub query-few : (s : List ℕ) → text_form query_forms s ≡ None → Each (λ r. at r 3 ≤ 4) (rows s)
query-few s h = rows-each query_forms (λ r. at r 3 ≤ 4) (λ l k. (query-row (row l) k.formed).0) s h
