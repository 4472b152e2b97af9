-- The definitions a step of the code at a time, with what the code holds for what it has read. Assumes nothing.
use Prim.Native.Nat.{ℕ, suc, ◌+◌, ◌≤◌, ◌<◌}
use native.Mathlib.Omega.{arith}
use mathlib.Core.Path.{◌≡◌, refl, sym, ap, ◌∙◌}
use mathlib.Core.Bool.{Bool, true, false}
use mathlib.Core.List.{List, [], ◌∷◌, ◌++◌, append_assoc}
use lib.ListN.{drop}
use Rattle.rules.specs.Text.{field_no, type_no}
use Rattle.rules.specs.Lists.{each}
use Rattle.rules.specs.Graph.{Label}
use Rattle.rules.specs.Tree.{Asks, Entry, Forest, entries, siblings}
use Rattle.rules.specs.World.{World}
use Rattle.rules.specs.Eval.{label, open_object, close_object, open_list, close_list, null, value, object, answer, shown, eval}
use Rattle.rules.proofs.Preorder.{siblings-ends, siblings-at, siblings_skips}
use Rattle.tables.specs.Read.{cell, wide_at}
use Rattle.query.specs.Entries.{entries_at}
use Rattle.world.specs.World.{world_at, asked_at, asks_at, entry_in, edge_from, targets_from, lookup_at, found_by, shape_by, shape_at, holds_at}
use Rattle.evaluate.specs.Evaluate.{selected, below, entered, enlisted, braced}
use Rattle.world.specs.declared.FieldKind.{FieldKind}
use Rattle.world.specs.declared.FieldKind.TheVariants.{Scalar, Objects, Object}
use Rattle.world.proofs.Targets.{targets_all, targets_done, targets_more, world_lookup, world_targets, world_shape, world-holds}
use Rattle.world.proofs.Asked.{asks-field, asks-on, asked-field, entries_end, entries-more}
use Rattle.evaluate.proofs.Write.{Then}

-- ---- the entries at depth d from entry k on; entry k stands at depth e

module _ (w : World) (q : List ℕ) (k d u : ℕ) where
  pub selected_end : cell q 0 ≤ k → selected w q k d u ≡ []
  unfolding selected
  selected_end h = ap (λ (l : List Entry). eval w (siblings l d) u) (entries_end q k h)

  module _ (h : k < cell q 0) where
    abbrev more : List Entry
    more = drop (k + 1) (entries (entries_at q))

    selected-more : selected w q k d u ≡ eval w (siblings (entry_in q k ∷ more) d) u
    unfolding selected
    selected-more = ap (λ (l : List Entry). eval w (siblings l d) u) (entries-more q k h)

    selected-at : wide_at q 8 k 2 ≡ d → eval w (siblings (entry_in q k ∷ more) d) u ≡ entered w q k u ++ selected w q (k + 1) d u
    unfolding selected entered below entry_in
    selected-at z =
        let deeper : suc d ≡ wide_at q 8 k 2 + 1 = omega arith in
        ap (λ (f : Forest). eval w f u) (siblings-at (entry_in q k) more z)
        ∙ ap (λ (n : ℕ). shown w (asks_at q k) u (λ x. eval w (siblings more n) x) ++ selected w q (k + 1) d u) deeper

    module _ {e : ℕ} (is : e ≡ wide_at q 8 k 2) where
      pub selected_up : e < d → selected w q k d u ≡ []
      unfolding entry_in
      selected_up l = selected-more ∙ ap (λ (f : Forest). eval w f u) (siblings-ends (entry_in q k) more d (omega arith))

      pub selected-here : e ≡ d → Then (selected w q k d u) (entered w q k u) (selected w q (k + 1) d u)
      selected-here z = record { eq = selected-more ∙ selected-at (sym is ∙ z) }

      pub selected_skip : d < e → selected w q k d u ≡ selected w q (k + 1) d u
      unfolding selected entry_in
      selected_skip l = selected-more ∙ ap (λ (f : Forest). eval w f u) (siblings_skips (entry_in q k) more d (omega arith))

-- ---- the object at the target x: entry k stands at depth e

module _ (w : World) (q : List ℕ) (k x : ℕ) where
  pub braced_open : Then (braced w q k x) (open_object ∷ []) (below w q k x ++ (close_object ∷ []))
  unfolding braced
  braced_open = record { eq = refl }

  pub below-is : {e : ℕ} → e ≡ wide_at q 8 k 2 → below w q k x ≡ selected w q (k + 1) (e + 1) x
  unfolding below
  below-is z = ap (λ (n : ℕ). selected w q (k + 1) (n + 1) x) (sym z)

  pub below_then : {e : ℕ} → e ≡ wide_at q 8 k 2 → (s : List ℕ) → Then (below w q k x ++ s) (selected w q (k + 1) (e + 1) x) s
  below_then z s = record { eq = ap (λ (l : List ℕ). l ++ s) (below-is z) }

-- ---- the objects of the edges from j on, and the bracket behind them; e is the first of these edges

unfoldable pub objects_from : World → List ℕ → List ℕ → ℕ → ℕ → ℕ → List ℕ
objects_from w g q k u j = each (λ x. object (below w q k x)) (targets_from g u (asked_at q k) j) ++ (close_list ∷ [])

module _ (w : World) (g q : List ℕ) (k u j : ℕ) {e : ℕ} (is : e ≡ edge_from g u (asked_at q k) j) where
  pub objects_end : cell g 1 ≤ e → objects_from w g q k u j ≡ close_list ∷ []
  unfolding objects_from
  objects_end h = rw (targets_done g u (asked_at q k) j e is h)

  pub objects-more : {x : ℕ} → e < cell g 1 → x ≡ wide_at g 1544 e 4
      → Then (objects_from w g q k u j) (braced w q k x) (objects_from w g q k u (e + 1))
  unfolding objects_from braced
  objects-more h z = record { eq = rw (targets_more g u (asked_at q k) j e is h, z, append_assoc) }

-- ---- an entry: its cells 0, 2, 3 and 4 are the kind, the depth e, the label or type t and the field f

-- what entry k shows behind its label
unfoldable pub fielded : World → List ℕ → ℕ → ℕ → List ℕ
fielded w q k u = answer (w.shape u (asked_at q k).field) (w.lookup u (asked_at q k)) (w.targets u (asked_at q k)) (below w q k)

module _ (a g p v q : List ℕ) (k u : ℕ) where
  abbrev w : World
  w = world_at a g p v

  module _ {kind t : ℕ} (kind-is : kind ≡ wide_at q 8 k 0) (t-is : t ≡ wide_at q 8 k 3) where
    pub entered_on : (kind ≡ 70 → ⊥) → {b : Bool} {e : ℕ} → b ≡ holds_at a g u (type_no t) → b ≡ true → e ≡ wide_at q 8 k 2
        → entered w q k u ≡ selected w q (k + 1) (e + 1) u
    unfolding entered
    entered_on n h y z =
        ap (λ (x : Asks). shown w x u (below w q k)) (asks-on q k (λ s. n (kind-is ∙ s)))
        ∙ rw (← t-is, world-holds a g p v u (type_no t), ← h, y) (below-is w q k u z)

    pub entered_off : (kind ≡ 70 → ⊥) → {b : Bool} → b ≡ holds_at a g u (type_no t) → b ≡ false → entered w q k u ≡ []
    unfolding entered
    entered_off n h y =
        ap (λ (x : Asks). shown w x u (below w q k)) (asks-on q k (λ s. n (kind-is ∙ s)))
        ∙ rw (← t-is, world-holds a g p v u (type_no t), ← h, y)

    pub entered-label : kind ≡ 70 → Then (entered w q k u) (label t ∷ []) (fielded w q k u)
    unfolding entered fielded
    entered-label y =
        record { eq = ap (λ (x : Asks). shown w x u (below w q k)) (asks-field q k (sym kind-is ∙ y)) ∙ rw t-is }

  -- a list of objects
  pub enlisted_open : Then (enlisted w q k u) (open_list ∷ []) (objects_from w g q k u 0)
  unfolding enlisted objects_from
  enlisted_open = record { eq = rw (world_targets a g p v u (asked_at q k), targets_all g u (asked_at q k)) }

-- ---- a field's shape, as the code names it

pub record Shaped (a g q : List ℕ) (k u : ℕ) (s : FieldKind) : Type 0 where
  pub is : shape_by s ≡ shape_at a g u (asked_at q k).field

pub shaped : (a g q : List ℕ) (k u : ℕ) (s : FieldKind) {f : ℕ} → f ≡ wide_at q 8 k 4
    → shape_by s ≡ shape_at a g u (field_no f) → Shaped a g q k u s
shaped a g q k u s z h = record { is = rw (asked-field q k, ← z) h }

module _ {a g q : List ℕ} {k u : ℕ} {s : FieldKind} (p v : List ℕ) (h : Shaped a g q k u s) where
  abbrev world : World
  world = world_at a g p v

  abbrev l : Label
  l = asked_at q k

  fielded_as : (x : FieldKind) → s ≡ x
      → fielded world q k u ≡ answer (shape_by x) (found_by p v (lookup_at p u l)) (targets_from g u l 0) (below world q k)
  unfolding fielded
  fielded_as x y =
      rw (world_shape a g p v u l.field, ← h.is, y, world_lookup a g p v u l, world_targets a g p v u l, targets_all g u l)

  pub fielded_scalar : s ≡ Scalar → fielded world q k u ≡ value (found_by p v (lookup_at p u l))
  unfolding shape_by
  fielded_scalar y = fielded_as Scalar y

  pub fielded_list : s ≡ Objects → fielded world q k u ≡ enlisted world q k u
  unfolding shape_by enlisted
  fielded_list y = fielded_as Objects y ∙ rw (world_targets a g p v u l, targets_all g u l)

  module _ (y : s ≡ Object) {e : ℕ} (first : e ≡ edge_from g u l 0) where
    pub fielded-null : cell g 1 ≤ e → fielded world q k u ≡ null ∷ []
    unfolding shape_by
    fielded-null z = fielded_as Object y ∙ rw (targets_done g u l 0 e first z)

    pub fielded-object : {x : ℕ} → e < cell g 1 → x ≡ wide_at g 1544 e 4 → fielded world q k u ≡ braced world q k x
    unfolding shape_by braced
    fielded-object z t = fielded_as Object y ∙ rw (targets_more g u l 0 e first z, t)
