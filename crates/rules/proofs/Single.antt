-- Theorem 7: once 25 and 26 have passed, a field that is no list has at most one target under a label, so 40 is never given. Assumes nothing.
use Prim.Native.Nat.{ℕ, ◌≤◌}
use native.Mathlib.Omega.{arith}
use mathlib.Core.Path.{◌≡◌, refl, sym, ap, ◌∙◌}
use mathlib.Core.Logic.{◌⊎◌, inl, inr}
use mathlib.Core.Bool.{Bool, true, false, ◌&&◌, not}
use mathlib.Core.List.Memᴰ
use mathlib.Core.List.{List, [], ◌∷◌, Memᴰ}
use Rattle.std.specs.Prelude.{None}
use lib.Dec.{eqb}
use lib.ListN.{length, length-map}
use borrow.Author.Tests.{eq-eqb, eqb-true, le-ltb, not-false}
use Rattle.rules.specs.Lists.{those, keep_if, any}
use Rattle.rules.specs.Text.{Row, E}
use Rattle.rules.specs.Search.{first_line}
use Rattle.rules.specs.Schema.{Schema, is, is_list, is_scalar, field_type}
use Rattle.rules.specs.Graph.{Label, Graph, graph_of, same_label, source, target, field_of, label_of, type_of, starts, edge_of, diverts, check25, check26}
use Rattle.rules.specs.Tree.{Asks, field, on, Forest, none as noEntry, node}
use Rattle.rules.specs.World.{world, shape_if}
use Rattle.rules.specs.Eval.{next, two, forked, meets_fork}
use Rattle.rules.proofs.Bools.{and-true, and-true_left, and-true_right, and_right, or_left, or_right, or-false, clash}
use Rattle.rules.proofs.Clean.{Calm, Clean, clean}
use Rattle.rules.proofs.Labels.{same-label}

pub any_false : {A : Type 0} (p : A → Bool) (l : List A) → any p l ≡ false → (x : A) → Memᴰ x l → p x ≡ false
any_false p [] h x m = absurd (Memᴰ.not-nil m)
any_false p (y ∷ ys) h x m = go (any_false p ys (or_right (p y) (any p ys) h) x) (Memᴰ.cases_cons m)
  where
    go : (Memᴰ x ys → p x ≡ false) → (x ≡ y) ⊎ Memᴰ x ys → p x ≡ false
    go ih (inl e) = ap p e ∙ or_left (p y) (any p ys) h
    go ih (inr k) = ih k

any_none : {A : Type 0} (p : A → Bool) → ((x : A) → p x ≡ false) → (l : List A) → any p l ≡ false
any_none p f [] = refl
any_none p f (x ∷ xs) = or-false (f x) (any_none p f xs)

-- ---- an edge from u with the label l

pub record Mine (u : ℕ) (l : Label) (r : Row) : Type 0 where
  pub edge : is E r ≡ true
  pub from : source r ≡ u
  pub named : label_of r ≡ l

pub is_mine : (u : ℕ) (l : Label) (r : Row) → edge_of u l r ≡ true → Mine u l r
is_mine u l r h =
    let st = and-true_right (is E r) (starts u l r) h in
    record {
      edge = and-true_left (is E r) (starts u l r) h;
      from = eqb-true (source r) u (and-true_left (eqb (source r) u) (same_label (label_of r) l) st);
      named = (same-label (label_of r) l).0 (and-true_right (eqb (source r) u) (same_label (label_of r) l) st);
    }

mine_is : (u : ℕ) (l : Label) (r : Row) → Mine u l r → edge_of u l r ≡ true
mine_is u l r m = and-true m.edge (and-true (eq-eqb (source r) u m.from) ((same-label (label_of r) l).1 m.named))

-- ---- two edges of one node with one label, where the field is no list there

module _ (s : Schema) (g : Graph) (u : ℕ) (l : Label) (n : is_list s (type_of g u) l.field ≡ false) where
  -- an earlier one leaves no place for a later one
  no_second : (before : List Row) (e r : Row) (after : List Row) → Memᴰ e before → Mine u l e → Mine u l r
      → Calm (check25 s g before r after) → Calm (check26 before r after) → ⊥
  no_second before e r after m a b c25 c26 =
      let plain : is_list s (type_of g (source r)) (field_of r) ≡ false =
      ap (λ (x : ℕ). is_list s (type_of g x) (field_of r)) b.from ∙ ap (λ (x : Label). is_list s (type_of g u) x.field) b.named ∙ n in
      let applies : (is E r && not (is_list s (type_of g (source r)) (field_of r))) ≡ true = and-true b.edge (ap not plain) in
      let from : source e ≡ source r = a.from ∙ sym b.from in
      let named : label_of e ≡ label_of r = a.named ∙ sym b.named in
      let asks : (field_of e).0 ≡ (field_of r).0 = ap (λ (x : Label). x.field.0) named in
      let quiet : diverts r e ≡ false = any_false (diverts r) before (c25.0 applies).0 e m in
      let rest = and_right (is E e) (eqb (source e) (source r) && (eqb (field_of e).0 (field_of r).0 && not (eqb (target e) (target r)))) quiet a.edge in
      let other = and_right (eqb (source e) (source r)) (eqb (field_of e).0 (field_of r).0 && not (eqb (target e) (target r))) rest (eq-eqb (source e) (source r) from) in
      let same = and_right (eqb (field_of e).0 (field_of r).0) (not (eqb (target e) (target r))) other (eq-eqb (field_of e).0 (field_of r).0 asks) in
      let twice = any_false (λ x. edge_of (source r) (label_of r) x && eqb (target x) (target r)) before (c26.0 b.edge).0 e m in
      clash
      (and-true (mine_is (source r) (label_of r) e (record { edge = a.edge; from = from; named = named })) (not-false (eqb (target e) (target r)) same))
      twice

  none-later : (before : List Row) (e : Row) (rs : List Row) → Memᴰ e before → Mine u l e
      → Clean (check25 s g) before rs → Clean check26 before rs → length (those (edge_of u l) rs) ≡ 0
  none-later before e [] m a c d = refl
  none-later before e (r ∷ rs) m a c d = go (none-later (r ∷ before) e rs (Memᴰ.tail m) a c.1 d.1) (edge_of u l r) refl
    where
      go : length (those (edge_of u l) rs) ≡ 0 → (b : Bool) → edge_of u l r ≡ b → length (keep_if b r (those (edge_of u l) rs)) ≡ 0
      go ih true p = absurd (no_second before e r rs m a (is_mine u l r p) c.0 d.0)
      go ih false p = ih

  at_most_one : (before rs : List Row) → Clean (check25 s g) before rs → Clean check26 before rs → length (those (edge_of u l) rs) ≤ 1
  at_most_one before [] c d = omega arith
  at_most_one before (r ∷ rs) c d = go (at_most_one (r ∷ before) rs c.1 d.1) (edge_of u l r) refl
    where
      go : length (those (edge_of u l) rs) ≤ 1 → (b : Bool) → edge_of u l r ≡ b → length (keep_if b r (those (edge_of u l) rs)) ≤ 1
      go ih true p = omega (arith, none-later (r ∷ before) r rs (Memᴰ.head refl) (is_mine u l r p) c.1 d.1)
      go ih false p = ih

-- ---- the evaluation meets no fork

two_targets : (leaf plural : Bool) (vs : List ℕ) → (plural ≡ false → length vs ≤ 1) → two (shape_if leaf plural) vs ≡ false
two_targets true plural vs h = refl
two_targets false true vs h = refl
two_targets false false vs h = le-ltb 1 (length vs) (h refl)

module _ (s : Schema) (rs : List Row) (c25 : first_line (check25 s (graph_of rs)) rs ≡ None) (c26 : first_line check26 rs ≡ None) where
  abbrev g : Graph
  g = graph_of rs

  -- a field that is no list has at most one target under a label
  pub one-target : (u : ℕ) (l : Label) → is_list s (type_of g u) l.field ≡ false → length ((world s g).targets u l) ≤ 1
  one-target u l n =
      omega (
        arith,
        length-map (those (edge_of u l) rs) target,
        at_most_one s g u l n [] rs (clean (check25 s g) [] 1 rs c25) (clean check26 [] 1 rs c26),
      )

  no_fork : (a : Asks) (u : ℕ) → forked (world s g) a u ≡ false
  no_fork (field k l) u =
      two_targets (is_scalar s (field_type s (type_of g u) l.field)) (is_list s (type_of g u) l.field) ((world s g).targets u l) (one-target u l)
  no_fork (on t) u = refl

  pub no_fork_met : (q : Forest) (u : ℕ) → meets_fork (world s g) q u ≡ false
  no_fork_met noEntry u = refl
  no_fork_met (node e kids rest) u =
      or-false (no_fork e.asks u)
      (or-false (any_none (λ v. meets_fork (world s g) kids v) (λ v. no_fork_met kids v) (next (world s g) e.asks u)) (no_fork_met rest u))
