-- What the functions read of the areas, shaped like what each of them has to show. Assumes nothing.
use Rattle.std.specs.Prelude.{Some, None}
use Prim.Native.Nat.{ℕ, suc, ◌+◌, ◌*◌, ◌-◌, ◌≤◌, ◌<◌}
use native.Mathlib.Omega.{arith}
use native.Mathlib.Numerals.{add-one}
use mathlib.Core.Path.{◌≡◌, sym, ap, ap₂, ◌∙◌}
use mathlib.Core.Bool.{Bool, true, false}
use mathlib.Core.List.{List}
use lib.Dec.{eqb}
use lib.ListN.{length, get_or, drop, length-take, length-drop}
use lib.Seq.{get_or-take, get_or-drop}
use borrow.Author.Tests.{eq-eqb, ne_eqb}
use Rattle.rules.specs.Lists.{those, keep_if, count_up}
use Rattle.rules.specs.Text.{pairs, field_no}
use Rattle.rules.specs.Schema.{is_scalar, is_list, field_type, list_mark, compatible, query_type}
use Rattle.rules.specs.Graph.{Label, same_label}
use Rattle.rules.specs.World.{shape_if}
use Rattle.rules.specs.declared.FieldNo.{FieldNo}
use Rattle.rules.specs.declared.TypeNo.{TypeNo}
use Rattle.tables.specs.Read.{cell, wide_at, numbers_at, named_at, starts_at, values_at, schema_at}
use Rattle.index.specs.Index.{led_to, Linked}
use Rattle.graph.specs.Held.{PropertiesHeld}
use Rattle.graph.specs.Faults.{nodes_at, label_is}
use Rattle.graph.specs.declared.label.Named.{Named}
use Rattle.graph.proofs.Copying.{same-node}
use Rattle.query.specs.Entries.{entry_at}
use Rattle.query.proofs.Cells.{third_at, count_at}
use Rattle.world.specs.World.{root_at, asked_at, row_from, first_of, lookup_at, shape_by, shape_at, holds_at}
use Rattle.world.specs.declared.FieldKind.TheVariants.{Scalar, Objects, Object}
use Rattle.world.proofs.Targets.{rows-past, rows_hit, rows_miss, rows_none, rows-first, next-rows}

-- ---- the label that an entry asks: its field stands in cell 4

asked-named : (q : List ℕ) (k : ℕ) → named_at q 8 k 4 ≡ asked_at q k
unfolding named_at asked_at entry_at
asked-named q k =
    ap₂ (λ (x n : ℕ). record { field = field_no x; args = pairs n (drop 4 (numbers_at q 8 k)) }) (sym (third_at q k)) (sym (count_at q k))

-- ---- a row held against a node and a label that is asked

pub row-asked : (a : List ℕ) (base u j w : ℕ) (q : List ℕ) (k : ℕ) (x y : Named) (b : Bool) → w ≡ wide_at a base j 2 → w ≡ u
    → label_is x ≡ named_at a base j 3 → label_is y ≡ named_at q 8 k 4 → b ≡ same_label (label_is x) (label_is y)
    → b ≡ starts_at a base u (asked_at q k) j
row-asked a base u j w q k x y b e s ex ey eb =
    same-node a base u j w (asked_at q k) e (label_is x) b s ex (eb ∙ ap (same_label (label_is x)) (ey ∙ asked-named q k))

-- ---- the loop that looks for the first row from j on, along a chain: none of the rows before i

module _ (a : List ℕ) (base n u : ℕ) (l : Label) (j i : ℕ) (left : row_from a base n u l j ≡ row_from a base n u l i) where
  pub from_hit : (b : Bool) → i < n → b ≡ starts_at a base u l i → b ≡ true → i ≡ row_from a base n u l j
  unfolding row_from
  from_hit b h e t = sym (left ∙ ap (λ (js : List ℕ). get_or js 0 n) (rows_hit a base n u l i h (sym e ∙ t)))

  from_past : (b : Bool) → i < n → b ≡ starts_at a base u l i → b ≡ false → row_from a base n u l j ≡ row_from a base n u l (i + 1)
  unfolding row_from
  from_past b h e t = left ∙ ap (λ (js : List ℕ). get_or js 0 n) (rows_miss a base n u l i h (sym e ∙ t))

  -- r is the next row of the chain
  pub from_on : (x : List ℕ) (at : ℕ) (b : Bool) (r : ℕ) → Linked a base n x at → i < n → b ≡ starts_at a base u l i → b ≡ false
      → wide_at a base i 2 ≡ u → r ≡ led_to n (cell x (at + 512 + i)) → row_from a base n u l j ≡ row_from a base n u l r
  from_on x at b r k h e t s f = from_past b h e t ∙ next-rows a base n x at k u i h s r f l

  pub from_end : n ≤ i → n ≡ row_from a base n u l j
  unfolding row_from
  from_end h = sym (left ∙ ap (λ (js : List ℕ). get_or js 0 n) (rows-past a base n u l i h))

-- ---- the property

module _ (p : List ℕ) (u : ℕ) (l : Label) (j : ℕ) (is : j ≡ row_from p 8 (cell p 0) u l 0) where
  pub lookup_row : j < cell p 0 → Some j ≡ lookup_at p u l
  unfolding lookup_at first_of
  lookup_row h = ap Some is ∙ sym (ap first_of (rows-first p 8 (cell p 0) u l 0 (omega (arith, is))))

  pub lookup_none : cell p 0 ≤ j → None ≡ lookup_at p u l
  unfolding lookup_at first_of
  lookup_none h = sym (ap first_of (rows_none p 8 (cell p 0) u l 0 (omega (arith, is))))

-- ---- its values

module _ (p v : List ℕ) (j : ℕ) (held : PropertiesHeld p v) (inside : j < cell p 0) where
  values_length : length (values_at p v j) ≡ wide_at p 8 j 1 - (4 + 2 * wide_at p 8 j 5)
  unfolding values_at
  values_length = let b = held.values j inside in simp (length-take, length-drop) (omega arith)

  module _ (m n : ℕ) (em : m ≡ wide_at p 8 j 1) (en : n ≡ wide_at p 8 j 5) where
    pub values-some : m - (4 + 2 * n) ≡ length (values_at p v j)
    values-some = omega (arith, values_length)

  module _ (s i : ℕ) (es : s ≡ wide_at p 8 j 0) (within : i < length (values_at p v j)) where
    pub value-inside : 8 + s + i < length v
    value-inside = omega (arith, values_length, held.values j inside)

    pub value-here : get_or v (8 + s + i) 0 ≡ get_or (values_at p v j) i 0
    unfolding values_at
    value-here =
        let m = wide_at p 8 j 1 - (4 + 2 * wide_at p 8 j 5) in
        let h : i < m = omega (arith, values_length) in
        ap (λ (x : ℕ). get_or v (8 + x + i) 0) es
        ∙ sym (get_or-take m (drop (8 + wide_at p 8 j 0) v) i 0 h ∙ get_or-drop (8 + wide_at p 8 j 0) v i 0)

-- ---- what a field is at a node, and whether the node's type is compatible

module _ (a g : List ℕ) (u : ℕ) (o : TypeNo) (eo : o ≡ (nodes_at g).type_of u) where
  module _ (f : FieldNo) (t : TypeNo) (b : Bool) (et : t ≡ field_type (schema_at a) o f) (eb : b ≡ is_scalar (schema_at a) t) where
    scalar_asked : b ≡ is_scalar (schema_at a) (field_type (schema_at a) ((nodes_at g).type_of u) f)
    scalar_asked = eb ∙ ap (is_scalar (schema_at a)) (et ∙ ap (λ (x : TypeNo). field_type (schema_at a) x f) eo)

    pub shape_scalar : b ≡ true → shape_by Scalar ≡ shape_at a g u f
    unfolding shape_by shape_at
    shape_scalar h =
        sym (ap (λ (x : Bool). shape_if x (is_list (schema_at a) ((nodes_at g).type_of u) f)) (sym scalar_asked ∙ h))

    module _ (m : ℕ) (em : m ≡ list_mark (schema_at a) o f) (h : b ≡ false) where
      mark : m ≡ list_mark (schema_at a) ((nodes_at g).type_of u) f
      mark = em ∙ ap (λ (x : TypeNo). list_mark (schema_at a) x f) eo

      pub shape_objects : m ≡ 1 → shape_by Objects ≡ shape_at a g u f
      unfolding shape_by shape_at
      shape_objects k = sym (ap₂ shape_if (sym scalar_asked ∙ h) (eq-eqb (list_mark (schema_at a) ((nodes_at g).type_of u) f) 1 (sym mark ∙ k)))

      pub shape_object : (m ≡ 1 → ⊥) → shape_by Object ≡ shape_at a g u f
      unfolding shape_by shape_at
      shape_object k =
          sym (ap₂ shape_if (sym scalar_asked ∙ h) (ne_eqb (list_mark (schema_at a) ((nodes_at g).type_of u) f) 1 (λ x. k (mark ∙ x))))

  pub holds_asked : (t : TypeNo) (b : Bool) → b ≡ compatible (schema_at a) o t → b ≡ holds_at a g u t
  unfolding holds_at
  holds_asked t b e = e ∙ ap (λ (x : TypeNo). compatible (schema_at a) x t) eo

pub ruleset shape-laws = (shape_scalar, shape_objects, shape_object)

-- ---- the loop that looks for the query node: none of the nodes before u

unfoldable pub of_query : List ℕ → List ℕ → ℕ → Bool
of_query a g u = eqb ((nodes_at g).type_of u).0 (query_type (schema_at a)).0

unfoldable pub RootFrom : List ℕ → List ℕ → ℕ → Type 0
RootFrom a g u = root_at a g ≡ get_or (those (of_query a g) (count_up u (cell g 0 - u))) 0 (cell g 0)

module _ (a g : List ℕ) where
  pub root_all : RootFrom a g 0
  unfolding RootFrom root_at nodes_at of_query
  root_all =
      let z : cell g 0 ≡ cell g 0 - 0 = omega arith in
      ap (λ (n : ℕ). get_or (those (of_query a g) (count_up 0 n)) 0 (cell g 0)) z

  module _ (u : ℕ) (left : RootFrom a g u) where
    root_turn : (b : Bool) → u < cell g 0 → of_query a g u ≡ b
        → root_at a g ≡ get_or (keep_if b u (those (of_query a g) (count_up (suc u) (cell g 0 - suc u)))) 0 (cell g 0)
    unfolding RootFrom
    root_turn b h e =
        let z : cell g 0 - u ≡ suc (cell g 0 - suc u) = omega arith in
        left
        ∙ ap (λ (n : ℕ). get_or (those (of_query a g) (count_up u n)) 0 (cell g 0)) z
        ∙ ap (λ (x : Bool). get_or (keep_if x u (those (of_query a g) (count_up (suc u) (cell g 0 - suc u)))) 0 (cell g 0)) e

    module _ (t o : TypeNo) (h : u < cell g 0) (et : t ≡ query_type (schema_at a)) (eo : o ≡ (nodes_at g).type_of u) where
      kind : eqb o.0 t.0 ≡ of_query a g u
      unfolding of_query
      kind = ap₂ (λ (x y : TypeNo). eqb x.0 y.0) eo et

      -- b is what the code finds of the two types
      pub root_found : (b : Bool) → b ≡ eqb o.0 t.0 → b ≡ true → u ≡ root_at a g
      root_found b is e = sym (root_turn true h (sym kind ∙ sym is ∙ e))

      pub root_on : (b : Bool) → b ≡ eqb o.0 t.0 → b ≡ false → RootFrom a g (u + 1)
      unfolding RootFrom
      root_on b is e = rw (add-one u) (root_turn false h (sym kind ∙ sym is ∙ e))

    pub root_end : cell g 0 ≤ u → cell g 0 ≡ root_at a g
    unfolding RootFrom
    root_end h =
        let z : cell g 0 - u ≡ 0 = omega arith in
        sym (left ∙ ap (λ (n : ℕ). get_or (those (of_query a g) (count_up u n)) 0 (cell g 0)) z)
