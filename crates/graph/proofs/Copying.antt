-- Labels copied out of a table and out of a row, and two labels compared. Assumes nothing.
use Prim.Native.Nat.{ℕ, ◌+◌, ◌*◌, ◌≤◌}
use native.Mathlib.Omega.{arith}
use mathlib.Core.Path.{◌≡◌, refl, sym, ap, ◌∙◌}
use mathlib.Core.Bool.{Bool, true, false, ◌&&◌, not}
use mathlib.Core.List.{List}
use lib.ListN.{length, get_or, take, drop}
use lib.Dec.{eqb}
use lib.Pointwise.{pointwise}
use borrow.Author.Tests.{eq-eqb, ne_eqb}
use Rattle.std.proofs.lemmas.List.{drop-take, drop-drop}
use Rattle.rules.specs.Text.{field_no}
use Rattle.rules.specs.Graph.{Label, same_label}
use Rattle.tables.specs.Read.{wide_at, numbers_at, named_at, label_at, starts_at}
use Rattle.graph.specs.declared.label.Named.{Named}
use Rattle.graph.specs.Faults.{label_is, label_for, diverts_at, twin_edge, twin_property}
use Rattle.graph.proofs.Paired.{and-false, pairs-taken, pairs_compared, counts_differ}

and-true : (b c : Bool) → c ≡ true → (b && c) ≡ b
and-true true c h = h
and-true false c h = refl

-- ---- labels copied

-- a field number and a count that were read, and the eight numbers behind the first four of a table's row, are the label
pub table_label : (a : List ℕ) (base j c f n k m : ℕ) (ps : List ℕ) (few : n ≤ 4) → ps ≡ take m (drop k a) → k ≡ base + 14 * j + 6 → m ≡ 8
    → f ≡ wide_at a base j c → n ≡ wide_at a base j 5
    → label_is (record { field = field_no f; n = n; pairs = ps; few = few }) ≡ named_at a base j c
unfolding label_is named_at numbers_at
table_label a base j c f n k m ps few h e l g w =
    let behind : k ≡ base + 14 * j + 2 + 4 = omega arith in
    let same : take m (drop k a) ≡ drop 4 (take 12 (drop (base + 14 * j + 2) a)) =
    rw (behind, l, ← drop-drop 4 (base + 14 * j + 2) a) (sym (drop-take 4 8 (drop (base + 14 * j + 2) a))) in
    rw (h, same, g, w)

-- the same of a row that was read
pub row_label : (nums ps : List ℕ) (few : get_or nums 3 0 ≤ 4) → ps ≡ take 8 (drop 4 nums) → length nums ≡ 12
    → label_is (record { field = field_no (get_or nums 1 0); n = get_or nums 3 0; pairs = ps; few = few }) ≡ label_for nums
unfolding label_is label_for
row_label nums ps few h l = rw (h, pairs-taken (get_or nums 3 0) 8 (drop 4 nums) (omega arith))

-- ---- two labels

module _ (x y : Named) where
  pub other_field : eqb x.field.0 y.field.0 ≡ false → same_label (label_is x) (label_is y) ≡ false
  unfolding label_is
  other_field d = rw d

  module _ (h : x.n ≤ 4) (l : length x.pairs ≡ 8) (m : length y.pairs ≡ 8) where
    pub other_count : y.n ≤ 4 → (x.n ≡ y.n → ⊥) → same_label (label_is x) (label_is y) ≡ false
    unfolding label_is
    other_count k d = and-false (eqb x.field.0 y.field.0) _ (counts_differ x.n y.n x.pairs y.pairs d (omega arith) (omega arith))

    -- where field and count are equal the pairs decide
    pub pairs_decide : (r : Bool) → eqb x.field.0 y.field.0 ≡ true → x.n ≡ y.n
        → r ≡ pointwise eqb (take (2 * x.n) x.pairs) (take (2 * x.n) y.pairs) → r ≡ same_label (label_is x) (label_is y)
    unfolding label_is
    pairs_decide r f e d = d ∙ rw (f, ← e) (sym (pairs_compared x.n x.pairs y.pairs (omega arith) (omega arith)))

pub ruleset comparing = (other_field, other_count, pairs_decide)

-- ---- what a row of a table is held against

module _ (a : List ℕ) (base u j w : ℕ) (l : Label) (e : w ≡ wide_at a base j 2) where
  pub other_node : (w ≡ u → ⊥) → false ≡ starts_at a base u l j
  unfolding starts_at
  other_node d = rw (← e, ne_eqb w u d)

  pub same-node : (m : Label) (b : Bool) → w ≡ u → m ≡ named_at a base j 3 → b ≡ same_label m l → b ≡ starts_at a base u l j
  unfolding starts_at label_at
  same-node m b s f h = rw (← e, eq-eqb w u s) (h ∙ ap (λ x. same_label x l) f)

pub ruleset starting = (other_node, same-node)

-- 25: w is the source of edge j, v its field, t its target
module _ (g nums : List ℕ) (j w : ℕ) (e : w ≡ wide_at g 1544 j 2) where
  pub source_differs : (w ≡ get_or nums 0 0 → ⊥) → false ≡ diverts_at g nums j
  unfolding diverts_at
  source_differs d = rw (← e, ne_eqb w (get_or nums 0 0) d)

  module _ (v : ℕ) (s : w ≡ get_or nums 0 0) (f : v ≡ wide_at g 1544 j 3) where
    pub field_differs : (v ≡ get_or nums 1 0 → ⊥) → false ≡ diverts_at g nums j
    unfolding diverts_at
    field_differs d = rw (← e, eq-eqb w (get_or nums 0 0) s, ← f, ne_eqb v (get_or nums 1 0) d)

    pub target-asked : (t : ℕ) → v ≡ get_or nums 1 0 → t ≡ wide_at g 1544 j 4 → not (eqb t (get_or nums 2 0)) ≡ diverts_at g nums j
    unfolding diverts_at
    target-asked t d h = rw (← e, eq-eqb w (get_or nums 0 0) s, ← f, eq-eqb v (get_or nums 1 0) d, ← h)

-- 26: w is the target of edge j
module _ (g nums : List ℕ) (j w : ℕ) (e : w ≡ wide_at g 1544 j 4) where
  target_test : eqb (wide_at g 1544 j 4) (get_or nums 2 0) ≡ eqb w (get_or nums 2 0)
  target_test = ap (λ x. eqb x (get_or nums 2 0)) (sym e)

  pub target_differs : (w ≡ get_or nums 2 0 → ⊥) → false ≡ twin_edge g nums j
  unfolding twin_edge
  target_differs d =
      sym (and-false (starts_at g 1544 (get_or nums 0 0) (label_for nums) j) _ (target_test ∙ ne_eqb w (get_or nums 2 0) d))

  pub twin_asked : (l : Label) (b : Bool) → w ≡ get_or nums 2 0 → l ≡ label_for nums → b ≡ starts_at g 1544 (get_or nums 0 0) l j
      → b ≡ twin_edge g nums j
  unfolding twin_edge
  twin_asked l b s f h =
      h
      ∙ ap (λ x. starts_at g 1544 (get_or nums 0 0) x j) f
      ∙ sym (and-true (starts_at g 1544 (get_or nums 0 0) (label_for nums) j) _ (target_test ∙ eq-eqb w (get_or nums 2 0) s))

pub ruleset edges = (source_differs, field_differs, target-asked, target_differs, twin_asked)

pub property_asked : (p nums : List ℕ) (j : ℕ) (l : Label) (b : Bool) → l ≡ label_for nums → b ≡ starts_at p 8 (get_or nums 0 0) l j
    → b ≡ twin_property p nums j
unfolding twin_property
property_asked p nums j l b f h = h ∙ ap (λ x. starts_at p 8 (get_or nums 0 0) x j) f
