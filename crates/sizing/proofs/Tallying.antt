-- The tally, and the own tokens of an entry at a node. Assumes nothing.
use Rattle.std.specs.Prelude.{Option, None, Some}
use Prim.Native.Nat.{ℕ, zero, suc, ◌+◌, ◌*◌, ◌≤◌, ◌<◌}
use native.Mathlib.Numerals.{add-one}
use native.Mathlib.Omega.{arith}
use mathlib.Core.Path.{◌≡◌, refl, sym, ap, ap₂, ◌∙◌}
use mathlib.Core.Bool.{Bool, true, false, cond}
use mathlib.Core.List.{List, [], ◌∷◌, ◌++◌}
use lib.ListN.{length, get_or, drop, length-take, length-drop, drop_of_length-le}
use lib.Seq.{drop-cons}
use lib.Dec.{eqb}
use Rattle.rules.specs.Text.{field_no}
use Rattle.rules.specs.Graph.{Label, Found, one, many}
use Rattle.rules.specs.Tree.{Asks, Entry}
use Rattle.rules.specs.World.{World, Shape}
use Rattle.rules.specs.Sizing.{Visit, visit, visits_of, own, of_value, of_object, of_field, cap}
use Rattle.rules.proofs.Cap.{cap_at_add, cap_at_mul}
use Rattle.rules.specs.declared.FieldNo.{FieldNo}
use Rattle.tables.specs.Read.{cell, wide_at, targets_at, values_at}
use Rattle.world.specs.World.{world_at, asks_at, asked_at, entry_in, edge_from, targets_from, lookup_at, found_by, shape_by, shape_at}
use Rattle.sizing.specs.Measure.{add_to, tallied, row_in}
use Rattle.sizing.specs.declared.Tally.{Tally}
use Rattle.world.specs.declared.FieldKind.{FieldKind}
use Rattle.world.specs.declared.FieldKind.TheVariants.{Scalar, Objects, Object}
use Rattle.world.proofs.Asked.{asks-field, asks-on, asked-field}
use Rattle.world.proofs.Targets.{targets_all, targets_done, targets_more, targets_few, world_lookup, world_shape, world_targets}
use Rattle.sizing.proofs.Rows.{row_get, row-length}

-- ---- one visit more

-- the sum with the capped multiplicity, capped, is the capped sum
pub added : (t : Tally) (x y m s : ℕ) → m ≡ cap x → s ≡ cap (t.size + m * y)
    → record { size = s; visits = t.visits + 1 } ≡ add_to t x y
unfolding add_to
added t x y m s hm hs =
    let most : ℕ = 1000000 in
    let e : cap (t.size + m * y) ≡ cap (t.size + x * y) =
    ap (λ (z : ℕ). cap (t.size + z * y)) hm
    ∙ cap_at_add most t.size (cap x * y)
    ∙ ap (λ (z : ℕ). cap (cap t.size + z)) (cap_at_mul most x y)
    ∙ sym (cap_at_add most t.size (x * y)) in
    ap₂ (λ (z n : ℕ). record { size = z; visits = n }) (hs ∙ e) (add-one t.visits)

-- ---- the targets of an entry at a node, counted: n before edge e, which is the first that matches from an edge on

pub record Counted (g : List ℕ) (u : ℕ) (l : Label) (n e : ℕ) : Type 0 where
  pub from : ℕ
  pub first : e ≡ edge_from g u l from
  pub sum : n + length (targets_from g u l from) ≡ length (targets_at g u l)

module _ (g : List ℕ) (u : ℕ) (l : Label) (n e : ℕ) where
  pub counted_start : e ≡ edge_from g u l 0 → Counted g u l 0 e
  counted_start h = record { from = 0; first = h; sum = omega (arith, ap length (targets_all g u l)) }

  pub counted-few : Counted g u l n e → n ≤ cell g 1
  counted-few x = omega (arith, x.sum, ap length (targets_all g u l), targets_few g u l 0)

  pub counted_end : cell g 1 ≤ e → Counted g u l n e → n ≡ length (targets_at g u l)
  counted_end h x = omega (arith, x.sum, ap length (targets_done g u l x.from e x.first h))

  pub counted-on : (e' : ℕ) → e < cell g 1 → e' ≡ edge_from g u l (e + 1) → Counted g u l n e → Counted g u l (n + 1) e'
  counted-on e' inside onward x =
      record {
        from = e + 1;
        first = onward;
        sum = omega (arith, x.sum, ap length (targets_more g u l x.from e x.first inside));
      }

-- ---- the values of a property

module _ (p v : List ℕ) (j : ℕ) where
  pub values-few : length (values_at p v j) ≤ length v
  unfolding values_at
  values-few = simp (length-take, length-drop) (omega arith)

module _ (p v : List ℕ) (r : Option ℕ) (u : ℕ) (l : Label) (is : r ≡ lookup_at p u l) where
  pub value_none : r ≡ None → ◌≡◌ {A = ℕ} 2 (of_value (found_by p v (lookup_at p u l)))
  unfolding found_by
  value_none e = sym (ap (λ (x : Option ℕ). of_value (found_by p v x)) (sym is ∙ e))

  module _ (j : ℕ) (e : r ≡ Some j) where
    pub value-many : eqb (wide_at p 8 j 4) 1 ≡ true → 3 + length (values_at p v j) ≡ of_value (found_by p v (lookup_at p u l))
    unfolding found_by
    value-many t =
        sym (ap (λ (x : Option ℕ). of_value (found_by p v x)) (sym is ∙ e)
        ∙ ap (λ (b : Bool). of_value (cond b (many (values_at p v j)) (one (get_or (values_at p v j) 0 0)))) t)

    pub value-one : eqb (wide_at p 8 j 4) 1 ≡ false → ◌≡◌ {A = ℕ} 2 (of_value (found_by p v (lookup_at p u l)))
    unfolding found_by
    value-one t =
        sym (ap (λ (x : Option ℕ). of_value (found_by p v x)) (sym is ∙ e)
        ∙ ap (λ (b : Bool). of_value (cond b (many (values_at p v j)) (one (get_or (values_at p v j) 0 0)))) t)

-- ---- own tokens

module _ (a g p v q : List ℕ) (k u : ℕ) where
  pub own_on : (wide_at q 8 k 0 ≡ 70 → ⊥) → ◌≡◌ {A = ℕ} 0 (own (world_at a g p v) (asks_at q k) u)
  own_on h = sym (ap (λ (x : Asks). own (world_at a g p v) x u) (asks-on q k h))

  own-field : wide_at q 8 k 0 ≡ 70 → own (world_at a g p v) (asks_at q k) u
      ≡ of_field (shape_at a g u (field_no (wide_at q 8 k 4))) (found_by p v (lookup_at p u (asked_at q k))) (targets_at g u (asked_at q k))
  own-field h =
      let w = world_at a g p v in
      let l = asked_at q k in
      let f = field_no (wide_at q 8 k 4) in
      ap (λ (x : Asks). own w x u) (asks-field q k h)
      ∙ ap (λ (x : FieldNo). of_field (w.shape u x) (w.lookup u l) (w.targets u l)) (asked-field q k)
      ∙ ap (λ (x : Shape). of_field x (w.lookup u l) (w.targets u l)) (world_shape a g p v u f)
      ∙ ap (λ (x : Found). of_field (shape_at a g u f) x (w.targets u l)) (world_lookup a g p v u l)
      ∙ ap (λ (x : List ℕ). of_field (shape_at a g u f) (found_by p v (lookup_at p u l)) x) (world_targets a g p v u l)

  module _ (is : wide_at q 8 k 0 ≡ 70) (r : FieldKind) (f : ℕ) (asks : f ≡ wide_at q 8 k 4)
      (shapes : shape_by r ≡ shape_at a g u (field_no f)) where
    own-kind : (x : FieldKind) → r ≡ x → own (world_at a g p v) (asks_at q k) u
        ≡ of_field (shape_by x) (found_by p v (lookup_at p u (asked_at q k))) (targets_at g u (asked_at q k))
    own-kind x e =
        let s : shape_at a g u (field_no (wide_at q 8 k 4)) ≡ shape_by x =
        ap (λ (y : ℕ). shape_at a g u (field_no y)) (sym asks) ∙ sym shapes ∙ ap shape_by e in
        own-field is
        ∙ ap (λ (y : Shape). of_field y (found_by p v (lookup_at p u (asked_at q k))) (targets_at g u (asked_at q k))) s

    pub own_scalar : r ≡ Scalar → of_value (found_by p v (lookup_at p u (asked_at q k))) ≡ own (world_at a g p v) (asks_at q k) u
    unfolding shape_by
    own_scalar e = sym (own-kind Scalar e)

    pub own-objects : r ≡ Objects → (n : ℕ) → n ≡ length (targets_at g u (asked_at q k))
        → 3 + 2 * n ≡ own (world_at a g p v) (asks_at q k) u
    unfolding shape_by
    own-objects e n h = ap (λ (x : ℕ). 3 + 2 * x) h ∙ sym (own-kind Objects e)

    module _ (e : r ≡ Object) (i : ℕ) (first : i ≡ edge_from g u (asked_at q k) 0) where
      own-object : own (world_at a g p v) (asks_at q k) u ≡ of_object (targets_from g u (asked_at q k) 0)
      unfolding shape_by
      own-object = own-kind Object e ∙ ap of_object (targets_all g u (asked_at q k))

      pub own-some : i < cell g 1 → ◌≡◌ {A = ℕ} 3 (own (world_at a g p v) (asks_at q k) u)
      own-some h = sym (own-object ∙ ap of_object (targets_more g u (asked_at q k) 0 i first h))

      pub own-none : cell g 1 ≤ i → ◌≡◌ {A = ℕ} 2 (own (world_at a g p v) (asks_at q k) u)
      own-none h = sym (own-object ∙ ap of_object (targets_done g u (asked_at q k) 0 i first h))

-- ---- the visits of an entry, from a node on

pub tallied-append : (w : World) (t : Tally) (xs ys : List Visit) → tallied w t (xs ++ ys) ≡ tallied w (tallied w t xs) ys
unfolding tallied
tallied-append w t [] ys = refl
tallied-append w t (x ∷ xs) ys = tallied-append w (add_to t x.times (own w x.entry.asks x.at)) xs ys

tallied-visit : (w : World) (t : Tally) (e : Entry) (u x : ℕ) (vs : List Visit) → 0 < x
    → tallied w t (visit e u x vs) ≡ tallied w (add_to t x (own w e.asks u)) vs
unfolding tallied
tallied-visit w t e u zero vs h = absurd (omega arith)
tallied-visit w t e u (suc x) vs h = refl

-- the tally once the visits from node u on are added
abbrev pub tallied_from : World → List ℕ → ℕ → List ℕ → Tally → ℕ → Tally
tallied_from w q k row r u = tallied w r (visits_of (entry_in q k) u (drop u row))

module _ (w : World) (q : List ℕ) (k : ℕ) (m : List ℕ) (c n : ℕ) (fits : c + n ≤ length m) (r : Tally) (u : ℕ) where
  pub tally_end : n ≤ u → tallied_from w q k (row_in m c n) r u ≡ r
  unfolding tallied
  tally_end h =
      let l : length (row_in m c n) ≤ u = omega (arith, row-length m c n fits) in
      ap (λ (x : List ℕ). tallied w r (visits_of (entry_in q k) u x)) (drop_of_length-le (row_in m c n) l)

  module _ (r' : Tally) (x : ℕ) (inside : u < n) (read : x ≡ get_or m (c + u) 0) where
    row_next : drop u (row_in m c n) ≡ x ∷ drop (suc u) (row_in m c n)
    row_next =
        let l : u < length (row_in m c n) = omega (arith, row-length m c n fits) in
        let s : get_or (row_in m c n) u 0 ≡ x = row_get m c n u inside ∙ sym read in
        drop-cons (row_in m c n) u 0 l ∙ ap (λ (y : ℕ). y ∷ drop (suc u) (row_in m c n)) s

    tally-next : tallied_from w q k (row_in m c n) r u
        ≡ tallied w r (visit (entry_in q k) u x (visits_of (entry_in q k) (suc u) (drop (suc u) (row_in m c n))))
    tally-next = ap (λ (l : List ℕ). tallied w r (visits_of (entry_in q k) u l)) row_next

    shifted : tallied_from w q k (row_in m c n) r' (u + 1) ≡ tallied w r' (visits_of (entry_in q k) (suc u) (drop (suc u) (row_in m c n)))
    shifted = ap (λ (y : ℕ). tallied w r' (visits_of (entry_in q k) y (drop y (row_in m c n)))) (add-one u)

    pub tally-on : 0 < x → (o : ℕ) → o ≡ own w (asks_at q k) u → r' ≡ add_to r x o
        → tallied_from w q k (row_in m c n) r' (u + 1) ≡ tallied_from w q k (row_in m c n) r u
    unfolding entry_in
    tally-on h o ho hr =
        let vs = visits_of (entry_in q k) (suc u) (drop (suc u) (row_in m c n)) in
        shifted
        ∙ ap (λ (s : Tally). tallied w s vs) (hr ∙ ap (add_to r x) ho)
        ∙ sym (tallied-visit w r (entry_in q k) u x vs h)
        ∙ sym tally-next

    pub tally_skip : x ≤ 0 → r' ≡ r → tallied_from w q k (row_in m c n) r' (u + 1) ≡ tallied_from w q k (row_in m c n) r u
    tally_skip h hr =
        let vs = visits_of (entry_in q k) (suc u) (drop (suc u) (row_in m c n)) in
        let z : 0 ≡ x = omega arith in
        shifted
        ∙ ap (λ (s : Tally). tallied w s vs) hr
        ∙ ap (λ (y : ℕ). tallied w r (visit (entry_in q k) u y vs)) z
        ∙ sym tally-next

pub visits-added : (r r' : Tally) (x o : ℕ) → r' ≡ add_to r x o → r'.visits ≡ r.visits + 1
unfolding add_to
visits-added r r' x o h = ap (λ (t : Tally). t.visits) h ∙ sym (add-one r.visits)
