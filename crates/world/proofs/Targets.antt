-- The World that areas hold, asked row by row. Assumes nothing.
use Rattle.std.specs.Prelude.{Some}
use Prim.Native.Nat.{ℕ, zero, suc, ◌+◌, ◌-◌, ◌≤◌, ◌<◌}
use native.Mathlib.Omega.{arith}
use native.Mathlib.Decide.{dec_lt}
use native.Mathlib.Numerals.{add-one}
use mathlib.Core.Path.{◌≡◌, refl, sym, ap, ◌∙◌, subst}
use mathlib.Core.Bool.{Bool, true, false, cond, false≢true}
use mathlib.Core.List.{List, [], ◌∷◌, map}
use lib.Dec.{eqb, ltb}
use lib.ListN.{length, get_or, length-map}
use borrow.Author.Tests.{eq-eqb, eqb-true, eqb-false}
use Rattle.rules.specs.Lists.{those, keep_if, count_up}
use Rattle.rules.specs.Graph.{Label, same_label}
use Rattle.rules.specs.Tree.{Asks, field, on}
use Rattle.rules.specs.Eval.{next}
use Rattle.rules.proofs.Bools.{and-true, and-true_left}
use Rattle.rules.proofs.Labels.{same-label}
use Rattle.rules.proofs.Sums.{Below}
use Rattle.rules.proofs.Size.{Closed}
use Rattle.rules.specs.declared.FieldNo.{FieldNo}
use Rattle.rules.specs.declared.TypeNo.{TypeNo}
use Rattle.tables.specs.Read.{cell, wide_at, starts_at, label_at, targets_at, found_at, graph_at}
use Rattle.index.specs.Index.{led_to, node_at, own_from, Linked}
use Rattle.index.proofs.Firsts.{first_past, first_passes}
use Rattle.index.proofs.Links.{own_skip}
use Rattle.index.proofs.Chains.{first-own, next-own}
use Rattle.graph.specs.Held.{NodesHeld, PropertiesHeld}
use Rattle.graph.specs.Faults.{nodes_at}
use Rattle.world.specs.World.{world_at, EdgesHeld, TableHeld, rows_from, row_from, edge_from, targets_from, first_of, lookup_at, found_by, shape_at, holds_at}

-- ---- tables

pub nodes_table : (g : List ℕ) → NodesHeld g → TableHeld g 1544 (cell g 1)
nodes_table g h = record { long = omega (arith, h.long, h.edges); low = omega arith; few = h.edges; pairs = h.pairs }

pub properties-table : (p v : List ℕ) → PropertiesHeld p v → TableHeld p 8 (cell p 0)
properties-table p v h = record { long = omega (arith, h.long, h.properties); low = omega arith; few = h.properties; pairs = h.pairs }

-- ---- the numbers from j on that pass a test, and the first of them: n where there is none

module _ (p : ℕ → Bool) (n : ℕ) where
  abbrev from : ℕ → ℕ → List ℕ
  from j k = those p (count_up j k)

  abbrev first_from : ℕ → ℕ → ℕ
  first_from j k = get_or (from j k) 0 n

  none_first : (k j : ℕ) → n - j ≡ k → n ≤ first_from j k → from j k ≡ []
  none_first zero j e h = refl
  none_first (suc k) j e h = go (λ x. none_first k (suc j) (omega arith) x) (p j) h
    where
      go : (n ≤ first_from (suc j) k → from (suc j) k ≡ []) → (b : Bool) → n ≤ get_or (keep_if b j (from (suc j) k)) 0 n
          → keep_if b j (from (suc j) k) ≡ []
      go ih true x = absurd (omega arith)
      go ih false x = ih x

  abbrev Split : List ℕ → Type 0
  Split js = get_or js 0 n < n → js ≡ get_or js 0 n ∷ from (get_or js 0 n + 1) (n - (get_or js 0 n + 1))

  some_first : (k j : ℕ) → n - j ≡ k → Split (from j k)
  some_first zero j e h = absurd (omega arith)
  some_first (suc k) j e h = go (some_first k (suc j) (omega arith)) (p j) h
    where
      go : Split (from (suc j) k) → (b : Bool) → Split (keep_if b j (from (suc j) k))
      go ih true x =
          let z : k ≡ n - (j + 1) = omega arith in
          ap (λ (m : ℕ). j ∷ from (suc j) m) z ∙ ap (λ (i : ℕ). j ∷ from i (n - (j + 1))) (sym (add-one j))
      go ih false x = ih x

  few : (k j : ℕ) → length (from j k) ≤ k
  few zero j = omega arith
  few (suc k) j = go (few k (suc j)) (p j)
    where
      go : length (from (suc j) k) ≤ k → (b : Bool) → length (keep_if b j (from (suc j) k)) ≤ suc k
      go ih true = omega arith
      go ih false = omega arith

  -- what f makes of them is below m, where f does so below n; and the other way round, for a number that passes
  all-below : (f : ℕ → ℕ) (m : ℕ) → ((e : ℕ) → e < n → f e < m) → (k j : ℕ) → j + k ≤ n → Below m (map f (from j k))
  all-below f m b zero j h = tt
  all-below f m b (suc k) j h = go (all-below f m b k (suc j) (omega arith)) (p j)
    where
      go : Below m (map f (from (suc j) k)) → (c : Bool) → Below m (map f (keep_if c j (from (suc j) k)))
      go ih true = (b j (omega arith), ih)
      go ih false = ih

  below_each : (f : ℕ → ℕ) (m e : ℕ) → p e ≡ true → (k j : ℕ) → j ≤ e → e < j + k → Below m (map f (from j k)) → f e < m
  below_each f m e t zero j h l b = absurd (omega arith)
  below_each f m e t (suc k) j h l b = go (λ x y. below_each f m e t k (suc j) x (omega arith) y) (eqb j e) refl (p j) refl b
    where
      go : (suc j ≤ e → Below m (map f (from (suc j) k)) → f e < m) → (d : Bool) → eqb j e ≡ d → (c : Bool) → p j ≡ c
          → Below m (map f (keep_if c j (from (suc j) k))) → f e < m
      go ih true s true r x = subst (λ (i : ℕ). f i < m) (eqb-true j e s) x.0
      go ih true s false r x = absurd (false≢true (sym r ∙ ap p (eqb-true j e s) ∙ t))
      go ih false s true r x = let ne = eqb-false j e s in ih (omega arith) x.1
      go ih false s false r x = let ne = eqb-false j e s in ih (omega arith) x

-- ---- rows of a table, one after another

module _ (a : List ℕ) (base n u : ℕ) (l : Label) where
  -- none from n on
  pub rows-past : (j : ℕ) → n ≤ j → rows_from a base n u l j ≡ []
  unfolding rows_from
  rows-past j h = let z : n - j ≡ 0 = omega arith in ap (λ (k : ℕ). those (starts_at a base u l) (count_up j k)) z

  -- a row that matches, and one that does not
  row-turn : (j : ℕ) → j < n → rows_from a base n u l j ≡ keep_if (starts_at a base u l j) j (rows_from a base n u l (j + 1))
  unfolding rows_from
  row-turn j h =
      let z : n - j ≡ suc (n - (j + 1)) = omega arith in
      ap (λ (k : ℕ). those (starts_at a base u l) (count_up j k)) z
      ∙ ap (λ (i : ℕ). keep_if (starts_at a base u l j) j (those (starts_at a base u l) (count_up i (n - (j + 1))))) (sym (add-one j))

  pub rows_hit : (j : ℕ) → j < n → starts_at a base u l j ≡ true → rows_from a base n u l j ≡ j ∷ rows_from a base n u l (j + 1)
  rows_hit j h e = row-turn j h ∙ ap (λ (b : Bool). keep_if b j (rows_from a base n u l (j + 1))) e

  pub rows_miss : (j : ℕ) → j < n → starts_at a base u l j ≡ false → rows_from a base n u l j ≡ rows_from a base n u l (j + 1)
  rows_miss j h e = row-turn j h ∙ ap (λ (b : Bool). keep_if b j (rows_from a base n u l (j + 1))) e

  -- the first row from j on, and those behind it
  pub rows_none : (j : ℕ) → n ≤ row_from a base n u l j → rows_from a base n u l j ≡ []
  unfolding rows_from row_from
  rows_none j h = none_first (starts_at a base u l) n (n - j) j refl h

  pub rows-first : (j : ℕ) → row_from a base n u l j < n
      → rows_from a base n u l j ≡ row_from a base n u l j ∷ rows_from a base n u l (row_from a base n u l j + 1)
  unfolding rows_from row_from
  rows-first j h = some_first (starts_at a base u l) n (n - j) j refl h

  pub row_on : (j : ℕ) → row_from a base n u l j < n → j ≤ row_from a base n u l j
  unfolding rows_from row_from
  row_on j h = first_past (starts_at a base u l) n (n - j) j refl h

  -- the first row is of the node; from j on the rows are those from the node's first row on
  pub row-node : (j : ℕ) → row_from a base n u l j < n → wide_at a base (row_from a base n u l j) 2 ≡ u
  unfolding row_from rows_from starts_at
  row-node j h =
      let r = row_from a base n u l j in
      eqb-true (wide_at a base r 2) u
      (and-true_left (eqb (wide_at a base r 2) u) (same_label (label_at a base r) l) (first_passes (starts_at a base u l) n (n - j) j refl h))

  pub rows_skip : (j : ℕ) → row_from a base n u l j ≡ row_from a base n u l (own_from (node_at a base) n u j)
  unfolding row_from rows_from starts_at
  rows_skip j =
      ap (λ (js : List ℕ). get_or js 0 n) (own_skip (node_at a base) n u j (starts_at a base u l)
      (λ i t. eqb-true (wide_at a base i 2) u (and-true_left (eqb (wide_at a base i 2) u) (same_label (label_at a base i) l) t)))

-- ---- along a chain: entered at its head, and behind row j of it

module _ (a : List ℕ) (base n : ℕ) (x : List ℕ) (at : ℕ) (linked : Linked a base n x at) (u : ℕ) where
  pub head_rows : (r : ℕ) → r ≡ cond (ltb u 512) (led_to n (cell x (at + u))) n → (l : Label) (e : ℕ) → e ≡ row_from a base n u l r
      → e ≡ row_from a base n u l 0
  head_rows r is l e f =
      f ∙ ap (row_from a base n u l) (first-own (node_at a base) n x at linked u r is) ∙ sym (rows_skip a base n u l 0)

  pub next-rows : (j : ℕ) → j < n → wide_at a base j 2 ≡ u → (r : ℕ) → r ≡ led_to n (cell x (at + 512 + j)) → (l : Label)
      → row_from a base n u l (j + 1) ≡ row_from a base n u l r
  next-rows j inside node r is l =
      rows_skip a base n u l (j + 1) ∙ ap (row_from a base n u l) (sym (next-own (node_at a base) n x at linked u j inside node r is))

-- ---- the targets, edge by edge: e is the first matching edge from edge j on

module _ (g : List ℕ) (u : ℕ) (l : Label) where
  pub targets_all : targets_at g u l ≡ targets_from g u l 0
  unfolding targets_at targets_from rows_from
  targets_all =
      let z : cell g 1 ≡ cell g 1 - 0 = omega arith in
      ap (λ (k : ℕ). map (λ e. wide_at g 1544 e 4) (those (starts_at g 1544 u l) (count_up 0 k))) z

  module _ (j e : ℕ) (is : e ≡ edge_from g u l j) where
    pub targets_done : cell g 1 ≤ e → targets_from g u l j ≡ []
    unfolding targets_from edge_from
    targets_done h = ap (map (λ i. wide_at g 1544 i 4)) (rows_none g 1544 (cell g 1) u l j (omega (arith, is)))

    pub targets_more : e < cell g 1 → targets_from g u l j ≡ wide_at g 1544 e 4 ∷ targets_from g u l (e + 1)
    unfolding targets_from edge_from
    targets_more h =
        ap (map (λ i. wide_at g 1544 i 4)) (rows-first g 1544 (cell g 1) u l j (omega (arith, is)))
        ∙ ap (λ (i : ℕ). map (λ x. wide_at g 1544 x 4) (i ∷ rows_from g 1544 (cell g 1) u l (i + 1))) (sym is)

    pub edge_on : e < cell g 1 → j ≤ e
    unfolding edge_from
    edge_on h = omega (arith, is, row_on g 1544 (cell g 1) u l j (omega (arith, is)))

  -- it starts at the node
  pub edge-node : (j e : ℕ) → e ≡ edge_from g u l j → e < cell g 1 → wide_at g 1544 e 2 ≡ u
  unfolding edge_from
  edge-node j e is h = ap (λ (i : ℕ). wide_at g 1544 i 2) is ∙ row-node g 1544 (cell g 1) u l j (omega (arith, is))

  -- the edges left become fewer
  pub edges-fewer : (e e' : ℕ) → e < cell g 1 → e' ≡ edge_from g u l (e + 1) → cell g 1 - e' < cell g 1 - e
  edges-fewer e e' h f = go (dec_lt e' (cell g 1))
    where
      go : Dec (e' < cell g 1) → cell g 1 - e' < cell g 1 - e
      go (yes d) = omega (arith, edge_on (e + 1) e' f d)
      go (no d) = omega arith

  -- there are no more targets from j on than edges
  pub targets_few : (j : ℕ) → length (targets_from g u l j) ≤ cell g 1 - j
  unfolding targets_from rows_from
  targets_few j =
      let es = those (starts_at g 1544 u l) (count_up j (cell g 1 - j)) in
      omega (arith, length-map es (λ e. wide_at g 1544 e 4), few (starts_at g 1544 u l) (cell g 1) (cell g 1 - j) j)

-- ---- the property

first-within : (p : ℕ → Bool) (k i j : ℕ) → first_of (those p (count_up i k)) ≡ Some j → j < i + k
unfolding first_of
first-within p zero i j h = let z : ◌≡◌ {A = ℕ} 0 1 = cc in absurd (omega arith)
first-within p (suc k) i j h = go (λ x. first-within p k (suc i) j x) (p i) h
  where
    go : (first_of (those p (count_up (suc i) k)) ≡ Some j → j < suc i + k) → (b : Bool) → first_of (keep_if b i (those p (count_up (suc i) k))) ≡ Some j
        → j < i + suc k
    go ih true x = let z : i ≡ j = cc in omega arith
    go ih false x = omega (arith, ih x)

found_first : (p v js : List ℕ) → found_at p v js ≡ found_by p v (first_of js)
unfolding found_at found_by first_of
found_first p v [] = refl
found_first p v (j ∷ js) = refl

pub lookup_within : (p : List ℕ) (u : ℕ) (l : Label) (j : ℕ) → lookup_at p u l ≡ Some j → j < cell p 0
unfolding lookup_at rows_from
lookup_within p u l j h = omega (arith, first-within (starts_at p 8 u l) (cell p 0 - 0) 0 j h)

-- a row is of its own node and has its own label
own-start : (a : List ℕ) (base j : ℕ) → starts_at a base (wide_at a base j 2) (label_at a base j) j ≡ true
unfolding starts_at
own-start a base j =
    and-true (eq-eqb (wide_at a base j 2) (wide_at a base j 2) refl) ((same-label (label_at a base j) (label_at a base j)).1 refl)

-- ---- the World asks no more than the areas that a function is lent

module _ (a g p v : List ℕ) where
  pub world-size : (world_at a g p v).size ≡ cell g 0
  unfolding world_at graph_at
  world-size = refl

  pub world_lookup : (u : ℕ) (l : Label) → (world_at a g p v).lookup u l ≡ found_by p v (lookup_at p u l)
  unfolding world_at graph_at lookup_at rows_from
  world_lookup u l =
      let z : cell p 0 ≡ cell p 0 - 0 = omega arith in
      found_first p v (those (starts_at p 8 u l) (count_up 0 (cell p 0)))
      ∙ ap (λ (k : ℕ). found_by p v (first_of (those (starts_at p 8 u l) (count_up 0 k)))) z

  pub world_targets : (u : ℕ) (l : Label) → (world_at a g p v).targets u l ≡ targets_at g u l
  unfolding world_at graph_at
  world_targets u l = refl

  pub world_shape : (u : ℕ) (f : FieldNo) → (world_at a g p v).shape u f ≡ shape_at a g u f
  unfolding world_at graph_at shape_at nodes_at
  world_shape u f = refl

  pub world-holds : (u : ℕ) (t : TypeNo) → (world_at a g p v).holds u t ≡ holds_at a g u t
  unfolding world_at graph_at holds_at nodes_at
  world-holds u t = refl

  pub world-next : (x : Asks) (u : ℕ) → next (world_at a g p v) x u ≡ next (world_at a g [] []) x u
  unfolding world_at graph_at
  world-next (field n l) u = refl
  world-next (on t) u = refl

  -- edges that lead to nodes, told of the World and of the table
  pub ends_closed : {x : List ℕ} → EdgesHeld g x → Closed (world_at a g p v)
  unfolding world_at graph_at targets_at
  ends_closed h =
      record {
        leads = λ u l. all-below (starts_at g 1544 u l) (cell g 1) (λ e. wide_at g 1544 e 4) (cell g 0) h.ends (cell g 1) 0 (omega arith);
      }

  pub closed_ends : Closed (world_at a g p v) → (e : ℕ) → e < cell g 1 → wide_at g 1544 e 4 < cell g 0
  unfolding world_at graph_at targets_at
  closed_ends c e h =
      let u = wide_at g 1544 e 2 in
      let l = label_at g 1544 e in
      below_each (starts_at g 1544 u l) (cell g 1) (λ i. wide_at g 1544 i 4) (cell g 0) e (own-start g 1544 e) (cell g 1) 0
      (omega arith) (omega arith) (c.leads u l)
