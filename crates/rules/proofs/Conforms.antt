-- Check 34 on the lines is Definition 4 on the tree. Assumes nothing.
use Prim.Native.Nat.{ℕ, suc, ◌≤◌, ◌<◌}
use native.Mathlib.Decide.{dec_lt}
use native.Mathlib.Omega.{arith}
use mathlib.Core.Path.{◌≡◌, refl, sym, ap, ap₂, ◌∙◌, subst}
use mathlib.Core.Logic.{◌⊎◌, inl, inr, ◌↔◌}
use mathlib.Core.Bool.{Bool, true, false, ◌&&◌, not, beq, true≢false}
use mathlib.Core.List.{List, [], ◌∷◌}
use Rattle.std.specs.Prelude.{None}
use lib.Dec.{eqb}
use borrow.Author.Tests.{eq-eqb, ne_eqb, eqb-true, lt-ltb, le-ltb, le-leb, lt-leb, not-false, not-true}
use Rattle.rules.specs.Lists.{all}
use Rattle.rules.specs.Text.{Row, rows, Pair, pairs_of, F, T}
use Rattle.rules.specs.Search.{first_line}
use Rattle.rules.specs.Forms.{form_tests, query_forms, text_form}
use Rattle.rules.specs.Schema.{Schema, is, field_type, has_field, takes_arg, is_scalar, owns_fields, query_type}
use Rattle.rules.specs.Query.{depth, asked, condition, has_child, hands_down, context, check34}
use Rattle.rules.specs.Tree.{Entry, Forest, asks_of, entries_from, entries, siblings, tree}
use Rattle.rules.specs.Valid.{Kinds, kinds, childless, under, valid_entry, valid}
use Rattle.rules.specs.Answer.{Texts, schema_in, query_rows, tree_of, checks}
use Rattle.rules.specs.Contract.{Passed}
use Rattle.rules.specs.declared.TypeNo.{TypeNo}
use Rattle.rules.proofs.Bools.{and-true, and-true_left, and-true_right}
use Rattle.rules.proofs.Clean.{Silent, Calm, Clean, clean, from-clean, Each, each-silent, silent-each}
use Rattle.rules.proofs.Sound.{rows-each}
use Rattle.rules.proofs.Facts.{depths_step}
use Rattle.rules.proofs.Preorder.{Steps, siblings-ends, siblings-at, siblings_skips}

-- a row of the query: a field or a type condition
pub Known : Row → Type 0
Known r = (is F r ≡ true) ⊎ (is T r ≡ true)

-- every row of a query text that keeps its form is one of the two
row-known : (r : Row) → Silent (form_tests query_forms r) → Known r
unfolding Known
row-known r h = go (eqb r.letter F) (eqb r.letter T) refl refl
  where
    go : (a b : Bool) → eqb r.letter F ≡ a → eqb r.letter T ≡ b → (is F r ≡ true) ⊎ (is T r ≡ true)
    go true b p q = inl p
    go false true p q = inr q
    go false false p q = absurd (true≢false (rw (p, q, form_tests) at h).0)

pub query-known : (s : List ℕ) → text_form query_forms s ≡ None → Each Known (rows s)
query-known s h = rows-each query_forms Known (λ l k. row-known _ k.formed) s h

-- ---- children

-- a line has children exactly when the tree gives it some
has_child_lem : (i l : ℕ) (r : Row) → depth r ≡ l → (rs : List Row) → childless (siblings (entries_from i rs) (suc l)) ≡ not (has_child r rs)
has_child_lem i l r p [] = refl
has_child_lem i l r p (n ∷ rs) = go (has_child_lem (suc i) l r p rs) (dec_lt (depth n) (suc l)) (dec_lt (suc l) (depth n))
  where
    e : Entry
    e = record { place = i; level = depth n; asks = asks_of n }

    go : childless (siblings (entries_from (suc i) rs) (suc l)) ≡ not (has_child r rs) → Dec (depth n < suc l) → Dec (suc l < depth n)
        → childless (siblings (entries_from i (n ∷ rs)) (suc l)) ≡ not (has_child r (n ∷ rs))
    go ih (yes h) k =
        let child : has_child r (n ∷ rs) ≡ false = rw (le-leb (depth n) (depth r) (omega arith), has_child) in
        ap childless (siblings-ends e (entries_from (suc i) rs) (suc l) h) ∙ sym (ap not child)
    go ih (no h) (yes k) =
        let child : has_child r (n ∷ rs) ≡ has_child r rs =
        rw (lt-leb (depth n) (depth r) (omega arith), ne_eqb (depth n) (suc (depth r)) (λ q. omega arith), has_child) in
        ap childless (siblings_skips e (entries_from (suc i) rs) (suc l) k) ∙ ih ∙ sym (ap not child)
    go ih (no h) (no k) =
        let same : depth n ≡ suc l = omega arith in
        let child : has_child r (n ∷ rs) ≡ true =
        rw (lt-leb (depth n) (depth r) (omega arith), eq-eqb (depth n) (suc (depth r)) (omega arith), has_child) in
        ap childless (siblings-at e (entries_from (suc i) rs) same) ∙ sym (ap not child)

-- ---- one entry

leaf-or_not : (leaf child : Bool) → (leaf && child) ≡ false → (not leaf && not child) ≡ false → beq leaf (not child) ≡ true
leaf-or_not true true p q = sym p
leaf-or_not true false p q = refl
leaf-or_not false true p q = refl
leaf-or_not false false p q = sym q

leaf_child : (leaf child : Bool) → beq leaf (not child) ≡ true → (leaf && child) ≡ false
leaf_child true true p = sym p
leaf_child true false p = refl
leaf_child false child p = refl

no_leaf_child : (leaf child : Bool) → beq leaf (not child) ≡ true → (not leaf && not child) ≡ false
no_leaf_child true child p = refl
no_leaf_child false true p = refl
no_leaf_child false false p = sym p

all-each : (p : Pair → Bool) (ps : List Pair) → Each (λ x. not (p x) ≡ false) ps → all p ps ≡ true
all-each p [] e = refl
all-each p (x ∷ ps) e = and-true (not-false (p x) e.0) (all-each p ps e.1)

each_all : (p : Pair → Bool) (ps : List Pair) → all p ps ≡ true → Each (λ x. not (p x) ≡ false) ps
each_all p [] h = tt
each_all p (x ∷ ps) h = (ap not (and-true_left (p x) (all p ps) h), each_all p ps (and-true_right (p x) (all p ps) h))

letter_other : (r : Row) (a b : ℕ) → is a r ≡ true → eqb a b ≡ false → is b r ≡ false
letter_other r a b h d = rw (eqb-true r.letter a h) d

module _ (s : Schema) where
  abbrev k : Kinds
  k = kinds s

  module _ (before : List Row) (r : Row) (after : List Row) where
    abbrev c : TypeNo
    c = context s (depth r) before

    abbrev owned : Bool
    owned = owns_fields s c && has_field s c (asked r)

    abbrev leaf : Bool
    leaf = is_scalar s (field_type s c (asked r))

    abbrev taken : Pair → Bool
    taken p = takes_arg s (asked r) p.arg

    -- the tests of the line say of the entry what Definition 4 does
    calm-valid : Known r → Calm (check34 s before r after) → valid_entry k c (asks_of r) (not (has_child r after)) ≡ true
    unfolding Known
    calm-valid (inl h) t =
        let q = t.0 h in
        let args = all-each taken (pairs_of r) (each-silent (λ p. not (taken p)) 2 6 (pairs_of r) q.1.1.1) in
        rw (h, asks_of) (and-true (not-false owned q.0) (and-true (leaf-or_not leaf (has_child r after) q.1.0 q.1.1.0) args))
    calm-valid (inr h) t = rw (letter_other r T F h refl, asks_of) (ap not (t.1.0 h).0)

    valid-calm : Known r → valid_entry k c (asks_of r) (not (has_child r after)) ≡ true → Calm (check34 s before r after)
    unfolding Known
    valid-calm (inl h) v =
        let w = rw (h, asks_of) at v in
        let rest = beq leaf (not (has_child r after)) && all taken (pairs_of r) in
        let u = and-true_right owned rest w in
        let b = and-true_left (beq leaf (not (has_child r after))) (all taken (pairs_of r)) u in
        let args = and-true_right (beq leaf (not (has_child r after))) (all taken (pairs_of r)) u in (
          λ _. (
            ap not (and-true_left owned rest w),
            (
              leaf_child leaf (has_child r after) b,
              (no_leaf_child leaf (has_child r after) b, silent-each (λ p. not (taken p)) 2 6 (pairs_of r) (each_all taken (pairs_of r) args)),
            ),
          ),
          (λ q. absurd (true≢false (sym q ∙ letter_other r F T h refl)), tt),
        )
    valid-calm (inr h) v =
        let w = rw (letter_other r T F h refl, asks_of) at v in
        (λ q. absurd (true≢false (sym q ∙ letter_other r T F h refl)), (λ _. (not-true (is_scalar s (condition r)) w, tt), tt))

    -- the context that the line hands down is that of its children
    hands_down_lem : hands_down s c r ≡ under k c (asks_of r)
    hands_down_lem = go (is F r) refl
      where
        go : (b : Bool) → is F r ≡ b → hands_down s c r ≡ under k c (asks_of r)
        go true h = rw (h, hands_down, asks_of)
        go false h = rw (h, hands_down, asks_of)

  -- ---- all lines

  context-deeper : (before : List Row) (r : Row) → context s (suc (depth r)) (r ∷ before) ≡ under k (context s (depth r) before) (asks_of r)
  context-deeper before r = rw (lt-ltb (depth r) (suc (depth r)) (omega arith), context) (hands_down_lem before r [])

  context-same : (before : List Row) (r : Row) (j : ℕ) → j ≤ depth r → context s j (r ∷ before) ≡ context s j before
  context-same before r j h = rw (le-ltb (depth r) j h, context)

  -- at each depth up to d, the entries that the lines begin with are valid in the context that the earlier lines hand down
  abbrev ValidUp : List Row → List Entry → ℕ → Type 0
  ValidUp before es d = (j : ℕ) → j ≤ d → valid k (context s j before) (siblings es j) ≡ true

  module _ (before : List Row) (r : Row) (rs : List Row) (i : ℕ) where
    abbrev es : List Entry
    es = entries_from (suc i) rs

    abbrev e : Entry
    e = record { place = i; level = depth r; asks = asks_of r }

    -- the line itself, as part of the tree at its own depth
    abbrev here : Bool
    here = valid_entry k (context s (depth r) before) (asks_of r) (childless (siblings es (suc (depth r))))

    same_here : here ≡ valid_entry k (context s (depth r) before) (asks_of r) (not (has_child r rs))
    same_here = ap (valid_entry k (context s (depth r) before) (asks_of r)) (has_child_lem (suc i) (depth r) r refl rs)

    own-depth : valid k (context s (depth r) before) (siblings (e ∷ es) (depth r))
        ≡ (here && (valid k (context s (suc (depth r)) (r ∷ before)) (siblings es (suc (depth r))) && valid k (context s (depth r) (r ∷ before)) (siblings es (depth r))))
    own-depth =
        ap (valid k (context s (depth r) before)) (siblings-at e es refl)
        ∙ ap₂ (λ (a b : TypeNo). here && (valid k a (siblings es (suc (depth r))) && valid k b (siblings es (depth r))))
        (sym (context-deeper before r)) (sym (context-same before r (depth r) (omega arith)))

    other_depth : (j : ℕ) → j < depth r → valid k (context s j before) (siblings (e ∷ es) j) ≡ valid k (context s j (r ∷ before)) (siblings es j)
    other_depth j h =
        ap₂ (λ (a : TypeNo) (f : Forest). valid k a f) (sym (context-same before r j (omega arith))) (siblings_skips e es j h)

    one_more : here ≡ true → ValidUp (r ∷ before) es (suc (depth r)) → (d : ℕ) → ValidUp before (e ∷ es) d
    one_more v up d j h = go (dec_lt (depth r) j) (dec_lt j (depth r))
      where
        go : Dec (depth r < j) → Dec (j < depth r) → valid k (context s j before) (siblings (e ∷ es) j) ≡ true
        go (yes p) q = ap (valid k (context s j before)) (siblings-ends e es j p)
        go (no p) (yes q) = other_depth j q ∙ up j (omega arith)
        go (no p) (no q) =
            let same : depth r ≡ j = omega arith in
            subst (λ (n : ℕ). valid k (context s n before) (siblings (e ∷ es) n) ≡ true) same
            (own-depth ∙ and-true v (and-true (up (suc (depth r)) (omega arith)) (up (depth r) (omega arith))))

    one_less : (d : ℕ) → depth r ≤ d → ValidUp before (e ∷ es) d → (here ≡ true) × ValidUp (r ∷ before) es (suc (depth r))
    one_less d h up = (and-true_left here rest all_three, λ j l. go j l (dec_lt j (depth r)) (dec_lt (depth r) j))
      where
        kids : Bool
        kids = valid k (context s (suc (depth r)) (r ∷ before)) (siblings es (suc (depth r)))

        beside : Bool
        beside = valid k (context s (depth r) (r ∷ before)) (siblings es (depth r))

        rest : Bool
        rest = kids && beside

        all_three : (here && rest) ≡ true
        all_three = sym own-depth ∙ up (depth r) h

        go : (j : ℕ) → j ≤ suc (depth r) → Dec (j < depth r) → Dec (depth r < j) → valid k (context s j (r ∷ before)) (siblings es j) ≡ true
        go j l (yes p) q = sym (other_depth j p) ∙ up j (omega arith)
        go j l (no p) (yes q) =
            let same : suc (depth r) ≡ j = omega arith in
            subst (λ (n : ℕ). valid k (context s n (r ∷ before)) (siblings es n) ≡ true) same
            (and-true_left kids beside (and-true_right here rest all_three))
        go j l (no p) (no q) =
            let same : depth r ≡ j = omega arith in
            subst (λ (n : ℕ). valid k (context s n (r ∷ before)) (siblings es n) ≡ true) same
            (and-true_right kids beside (and-true_right here rest all_three))

  to-valid : (before rs : List Row) (i d : ℕ) → Each Known rs → Clean (check34 s) before rs → ValidUp before (entries_from i rs) d
  to-valid before [] i d known t = λ j h. refl
  to-valid before (r ∷ rs) i d known t =
      one_more before r rs i (same_here before r rs i ∙ calm-valid before r rs known.0 t.0)
      (to-valid (r ∷ before) rs (suc i) (suc (depth r)) known.1 t.1) d

  from-valid : (before rs : List Row) (i d : ℕ) → Each Known rs → Steps d (entries_from i rs) → ValidUp before (entries_from i rs) d
      → Clean (check34 s) before rs
  from-valid before [] i d known st up = tt
  from-valid before (r ∷ rs) i d known st up =
      let v = one_less before r rs i d st.0 up in
      (valid-calm before r rs known.0 (sym (same_here before r rs i) ∙ v.0), from-valid (r ∷ before) rs (suc i) (suc (depth r)) known.1 st.1 v.1)

  -- Once the depths step (32), check 34 passes exactly when the query conforms to the schema in the context of the query type.
  pub conforms : (q : List Row) → Each Known q → Steps 0 (entries q) → (first_line (check34 s) q ≡ None) ↔ (valid k (query_type s) (tree q) ≡ true)
  conforms q known st = (
    λ h. to-valid [] q 0 0 known (clean (check34 s) [] 1 q h) 0 (omega arith),
    λ v. from-clean (check34 s) [] 1 q (from-valid [] q 0 0 known st (only v)),
  )
    where
      only : valid k (query_type s) (tree q) ≡ true → ValidUp [] (entries q) 0
      only v j h = let z : ◌≡◌ {A = ℕ} 0 j = omega arith in subst (λ (n : ℕ). valid k (context s n []) (siblings (entries q) n) ≡ true) z v

-- So the query of texts that pass conforms to their schema.
pub query-conforms : (short : Bool) (x : Texts) → Passed (checks short x) → valid (kinds (schema_in x)) (query_type (schema_in x)) (tree_of x) ≡ true
query-conforms short x p =
    (conforms (schema_in x) (query_rows x) (query-known x.query (p 30)) (depths_step (query_rows x) (p 32))).0 (p 34)
