-- Theorem 8: "A child of an object field has at v the sum of its parent's multiplicities at u over all matching edges from u to v." Assumes nothing.
use Prim.Native.Nat.{ℕ, ◌+◌, ◌≤◌, ◌<◌}
use native.Mathlib.Omega.{arith}
use mathlib.Core.Path.{◌≡◌, refl, sym, ap, ◌∙◌, fun_ext}
use mathlib.Core.Bool.{Bool, true, false, ◌&&◌, cond, and-true, and-false}
use mathlib.Core.List.{List, [], ◌∷◌, map}
use lib.Dec.{eqb}
use lib.ListN.{length, get_or}
use Rattle.rules.specs.Lists.{those, keep_if, sum_of, times, one_if}
use Rattle.rules.specs.Text.{Row, E}
use Rattle.rules.specs.Schema.{is, is_scalar, is_list, field_type}
use Rattle.rules.specs.Graph.{Label, same_label, source, target, label_of, type_of, edge_of}
use Rattle.rules.specs.Tree.{field}
use Rattle.rules.specs.World.{shape_if}
use Rattle.rules.specs.Eval.{next, onward, first, stay}
use Rattle.rules.specs.Sizing.{weighed, passed}
use Rattle.rules.specs.Answer.{Texts, schema_in, graph_in, graph_rows, world_of}
use Rattle.rules.proofs.Sums.{weighed-zero, weighed-add}
use Rattle.rules.proofs.Visited.{get_or_up}
use Rattle.rules.proofs.Kept.{at_place}
use Rattle.rules.proofs.Facts.{Facts}

-- an edge with the label l to v, whichever node it starts from
abbrev pub edge_to : Label → ℕ → Row → Bool
edge_to l v r = is E r && (same_label (label_of r) l && eqb v (target r))

-- ---- one edge

regroup : (a s n t : Bool) → one_if ((a && (s && n)) && t) ≡ one_if ((a && (n && t)) && s)
regroup false s n t = refl
regroup true true n t = ap one_if (sym (and-true (n && t)))
regroup true false n t = ap one_if (sym (and-false (n && t)))

times-stay : (b : Bool) (k u : ℕ) → times k (stay b u) ≡ one_if (b && eqb k u)
times-stay true k u = omega arith
times-stay false k u = refl

times-kept : (b : Bool) (v : ℕ) (r : Row) (rs : List Row) → times v (map target (keep_if b r rs)) ≡ one_if (b && eqb v (target r)) + times v (map target rs)
times-kept true v r rs = refl
times-kept false v r rs = omega arith

-- ---- all edges

module _ (l : Label) (v : ℕ) (row : List ℕ) where
  one-edge : (r : Row) → weighed (λ u. one_if (edge_of u l r && eqb v (target r))) 0 row ≡ cond (edge_to l v r) (get_or row (source r) 0) 0
  one-edge r =
      ap (λ (f : ℕ → ℕ). weighed f 0 row)
      (fun_ext (λ u. regroup (is E r) (eqb (source r) u) (same_label (label_of r) l) (eqb v (target r)) ∙ sym (times-stay (edge_to l v r) (source r) u)))
      ∙ at_place (λ _. edge_to l v r) (source r) 0 (source r) row (omega arith)

  counted_if : (b : Bool) (r : Row) (rs : List Row) → cond b (get_or row (source r) 0) 0 + sum_of (λ e. get_or row (source e) 0) rs
      ≡ sum_of (λ e. get_or row (source e) 0) (keep_if b r rs)
  counted_if true r rs = refl
  counted_if false r rs = omega arith

  all_edges : (g : List Row) → weighed (λ u. times v (map target (those (edge_of u l) g))) 0 row
      ≡ sum_of (λ e. get_or row (source e) 0) (those (edge_to l v) g)
  all_edges [] = weighed-zero 0 row
  all_edges (r ∷ rs) =
      ap (λ (f : ℕ → ℕ). weighed f 0 row) (fun_ext (λ u. times-kept (edge_of u l r) v r (those (edge_of u l) rs)))
      ∙ weighed-add (λ u. one_if (edge_of u l r && eqb v (target r))) (λ u. times v (map target (those (edge_of u l) rs))) 0 row
      ∙ ap (λ (n : ℕ). n + weighed (λ u. times v (map target (those (edge_of u l) rs))) 0 row) (one-edge r)
      ∙ ap (λ (n : ℕ). cond (edge_to l v r) (get_or row (source r) 0) 0 + n) (all_edges rs)
      ∙ counted_if (edge_to l v r) r (those (edge_to l v) rs)

-- ---- of texts that pass

first-all : (vs : List ℕ) → length vs ≤ 1 → first vs ≡ vs
first-all [] h = refl
first-all (v ∷ []) h = refl
first-all (v ∷ w ∷ vs) h = absurd (omega arith)

onward-all : (leaf plural : Bool) (vs : List ℕ) → leaf ≡ false → (plural ≡ false → length vs ≤ 1) → onward (shape_if leaf plural) vs ≡ vs
onward-all true plural vs z h = absurd (mathlib.Core.Bool.true≢false z)
onward-all false true vs z h = refl
onward-all false false vs z h = first-all vs (h refl)

pub children_sum : (x : Texts) → Facts x → (n : ℕ) (l : Label) (row : List ℕ) (v : ℕ) → v < (world_of x).size
    → ((u : ℕ) → is_scalar (schema_in x) (field_type (schema_in x) (type_of (graph_in x) u) l.field) ≡ false)
    → get_or (passed (world_of x) (field n l) row) v 0 ≡ sum_of (λ e. get_or row (source e) 0) (those (edge_to l v) (graph_rows x))
children_sum x f n l row v h object =
    let w = world_of x in
    let s = schema_in x in
    let g = graph_in x in
    get_or_up (λ y. weighed (λ u. times y (next w (field n l) u)) 0 row) 0 w.size v h
    ∙ ap (λ (y : ℕ). weighed (λ u. times y (next w (field n l) u)) 0 row) (omega arith)
    ∙ ap (λ (k : ℕ → ℕ). weighed k 0 row)
    (fun_ext (λ u. ap (times v)
    (onward-all (is_scalar s (field_type s (type_of g u) l.field)) (is_list s (type_of g u) l.field) (w.targets u l) (object u) (f.single u l))))
    ∙ all_edges l v row (graph_rows x)
