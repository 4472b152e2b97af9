-- The graph's areas say what the graph's rows say. Assumes nothing.
use Prim.Native.Nat.{ℕ, ◌+◌, ◌-◌, ◌*◌, ◌≤◌, ◌<◌}
use native.Mathlib.Omega.{arith}
use mathlib.Core.Path.{◌≡◌, refl, sym, ap, ap₂, ◌∙◌, fun_ext}
use mathlib.Core.Bool.{Bool, true, false, cond, ◌&&◌}
use mathlib.Core.List.{List, [], ◌∷◌, ◌++◌, map}
use lib.Dec.{eqb}
use lib.ListN.{length, get_or, take, drop, length-drop}
use Rattle.rules.specs.Lists.{those, any, count_up}
use Rattle.rules.specs.Text.{Row, no_row, at, values_of, E, P, type_no}
use Rattle.rules.specs.Schema.{is, nth}
use Rattle.rules.specs.Graph.{Label, target, starts, property_of, Found, nothing, one, many, found_in, graph_of}
use Rattle.rules.proofs.Clean.{Each}
use Rattle.tables.specs.Layout.{narrow, belongs, counted, node_area, property_area, value_area}
use Rattle.tables.specs.Read.{cell, wide_at, starts_at, targets_at, values_at, found_at, graph_at}
use Rattle.tables.proofs.Those.{any-those, kept-passing}
use Rattle.tables.proofs.Cells.{values_before}
use Rattle.tables.proofs.Narrow.{narrow_at_lem}
use Rattle.tables.proofs.Wide.{StandsWide, wide_tag, wide-count, wide-number}
use Rattle.tables.proofs.Labelling.{edge-labelled, property-labelled}
use Rattle.tables.proofs.Areas.{value_part, row_read, front_read, read-starts, any-read, edges-stand, nodes_stand, properties-stand, node-count, edge_count, property-count}
pub use Rattle.tables.proofs.Labelling.{Labelled, Formed, graph-formed}
pub use Rattle.tables.specs.Fill.{GraphFits}
pub use Rattle.tables.proofs.Areas.{RowRead, on_read, on_row}

-- ---- the edges and properties of the first lines

formed-front : (ps rs : List Row) → Each Formed (ps ++ rs) → Each Formed ps
formed-front [] rs f = tt
formed-front (p ∷ ps) rs f = (f.0, formed-front ps rs f.1)

-- a test of node, field, label, and target or list mark, the letter a part of the test
front-among : (a : List ℕ) (k base : ℕ) (ps rs : List Row) → StandsWide a k base (ps ++ rs)
    → ((j : ℕ) → j < counted k ps → Labelled (nth (belongs k) ps j)) → (t : ℕ → ℕ → Label → ℕ → Bool)
    → any (on_read t a base) (count_up 0 (counted k ps)) ≡ any (λ r. belongs k r && on_row t r) ps
unfolding counted
front-among a k base ps rs s labelled t =
    any-read a base (those (belongs k) ps) (λ j h. front_read a k base ps rs s j h (labelled j h)) t ∙ any-those (belongs k) (on_row t) ps

module _ (n : ℕ) (ps rs : List Row) (room : 15880 ≤ n) (fits : GraphFits (ps ++ rs)) (formed : Each Formed (ps ++ rs)) where
  pub edges-among : (t : ℕ → ℕ → Label → ℕ → Bool)
      → any (on_read t (node_area n (ps ++ rs)) 1544) (count_up 0 (counted 8 ps)) ≡ any (λ r. is E r && on_row t r) ps
  unfolding counted belongs
  edges-among t =
      front-among (node_area n (ps ++ rs)) 8 1544 ps rs (edges-stand n (ps ++ rs) room fits)
      (edge-labelled ps (formed-front ps rs formed)) t

module _ (m : ℕ) (ps rs : List Row) (room : 14344 ≤ m) (fits : GraphFits (ps ++ rs)) (formed : Each Formed (ps ++ rs)) where
  pub properties-among : (t : ℕ → ℕ → Label → ℕ → Bool)
      → any (on_read t (property_area m (ps ++ rs)) 8) (count_up 0 (counted 9 ps)) ≡ any (λ r. is P r && on_row t r) ps
  unfolding counted belongs
  properties-among t =
      front-among (property_area m (ps ++ rs)) 9 8 ps rs (properties-stand m (ps ++ rs) room fits)
      (property-labelled ps (formed-front ps rs formed)) t

-- ---- the whole graph

-- what a list of rows finds is what its first row finds
first_found : List Found → Found
first_found [] = nothing
first_found (f ∷ fs) = f

row_found : Row → Found
row_found r = cond (eqb (at r 2) 1) (many (values_of r)) (one (get_or (values_of r) 0 0))

read_found : List ℕ → List ℕ → ℕ → Found
read_found p v j = cond (eqb (wide_at p 8 j 4) 1) (many (values_at p v j)) (one (get_or (values_at p v j) 0 0))

found_rows : (xs : List Row) → found_in xs ≡ first_found (map row_found xs)
unfolding first_found row_found
found_rows [] = refl
found_rows (r ∷ rs) = go (eqb (at r 2) 1) refl
  where
    go : (b : Bool) → eqb (at r 2) 1 ≡ b → found_in (r ∷ rs) ≡ row_found r
    go true e = rw (e, found_in)
    go false e = rw (e, found_in)

found-read : (p v js : List ℕ) → found_at p v js ≡ first_found (map (read_found p v) js)
unfolding found_at first_found read_found
found-read p v [] = refl
found-read p v (j ∷ js) = refl

module _ (n m k : ℕ) (rs : List Row) (nodeRoom : 15880 ≤ n) (propertyRoom : 14344 ≤ m) (valueRoom : 8200 ≤ k)
    (fits : GraphFits rs) (formed : Each Formed rs) where
  a : List ℕ
  a = node_area n rs

  p : List ℕ
  p = property_area m rs

  v : List ℕ
  v = value_area k rs

  edge_row : (j : ℕ) → j < length (those (is E) rs) → RowRead a 1544 j (nth (is E) rs j)
  unfolding counted belongs a
  edge_row j h = row_read (node_area n rs) 8 1544 rs (edges-stand n rs nodeRoom fits) j h (edge-labelled rs formed j h)

  property-row : (j : ℕ) → j < length (those (is P) rs) → RowRead p 8 j (nth (is P) rs j)
  unfolding counted belongs p
  property-row j h = row_read (property_area m rs) 9 8 rs (properties-stand m rs propertyRoom fits) j h (property-labelled rs formed j h)

  -- the values of property j
  pub property-values : (j : ℕ) → j < length (those (is P) rs) → values_at (property_area m rs) (value_area k rs) j ≡ values_of (nth (is P) rs j)
  unfolding counted belongs values_at
  property-values j h =
      let s = properties-stand m rs propertyRoom fits in
      let r = nth (is P) rs j in
      let t : wide_at (property_area m rs) 8 j 0 ≡ values_before 9 rs j = wide_tag (property_area m rs) 9 8 rs s j h ∙ omega arith in
      let c : wide_at (property_area m rs) 8 j 1 ≡ length r.numbers = wide-count (property_area m rs) 9 8 rs s j h in
      let q : wide_at (property_area m rs) 8 j 5 ≡ at r 3 = wide-number (property_area m rs) 9 8 rs s j h 3 (omega arith) in
      let e : wide_at (property_area m rs) 8 j 1 - (4 + 2 * wide_at (property_area m rs) 8 j 5) ≡ length (values_of r) =
      ap₂ (λ (x y : ℕ). x - (4 + 2 * y)) c q ∙ sym (length-drop (4 + 2 * at r 3) r.numbers) in
      ap₂ (λ (x y : ℕ). take x (drop (8 + y) (value_area k rs))) e t ∙ value_part k rs valueRoom fits.values j h

  same_size : (graph_at a p v).size ≡ (graph_of rs).size
  unfolding graph_at a counted belongs
  same_size = node-count n rs nodeRoom fits

  same_types : (graph_at a p v).type_of ≡ (graph_of rs).type_of
  unfolding graph_at a narrow belongs
  same_types =
      fun_ext (λ u. ap type_no
      (narrow_at_lem (node_area n rs) 7 8 rs (nodes_stand n rs nodeRoom fits) 0 u 1 (node-count n rs nodeRoom fits) (omega arith)))

  edges-read : cell a 1 ≡ length (those (is E) rs)
  unfolding a counted belongs
  edges-read = edge_count n rs nodeRoom fits

  properties-read : cell p 0 ≡ length (those (is P) rs)
  unfolding p counted belongs
  properties-read = property-count m rs propertyRoom fits

  same_targets : (graph_at a p v).targets ≡ (graph_of rs).targets
  unfolding graph_at targets_at
  same_targets =
      fun_ext (λ u. fun_ext (λ l.
      ap (λ (c : ℕ). map (λ j. wide_at a 1544 j 4) (those (starts_at a 1544 u l) (count_up 0 c))) edges-read
      ∙ kept-passing no_row (is E) rs (starts_at a 1544 u l) (starts u l)
      (λ j h. read-starts a 1544 j (nth (is E) rs j) u l (edge_row j h))
      (λ j. wide_at a 1544 j 4) target (λ j h. (edge_row j h).third)))

  found-row : (j : ℕ) → j < length (those (is P) rs) → read_found p v j ≡ row_found (nth (is P) rs j)
  unfolding read_found row_found p v
  found-row j h =
      ap₂ (λ (c : ℕ) (xs : List ℕ). cond (eqb c 1) (many xs) (one (get_or xs 0 0))) (property-row j h).third (property-values j h)

  same_lookup : (graph_at a p v).lookup ≡ (graph_of rs).lookup
  unfolding graph_at
  same_lookup =
      fun_ext (λ u. fun_ext (λ l.
      ap (λ (c : ℕ). found_at p v (those (starts_at p 8 u l) (count_up 0 c))) properties-read
      ∙ found-read p v (those (starts_at p 8 u l) (count_up 0 (length (those (is P) rs))))
      ∙ ap first_found (kept-passing no_row (is P) rs (starts_at p 8 u l) (starts u l)
      (λ j h. read-starts p 8 j (nth (is P) rs j) u l (property-row j h)) (read_found p v) row_found found-row)
      ∙ sym (found_rows (those (property_of u l) rs))))

  -- The areas read as a graph are the graph of the rows.
  pub graph-view : graph_at (node_area n rs) (property_area m rs) (value_area k rs) ≡ graph_of rs
  unfolding a p v
  graph-view = λ i. record { size = same_size i; type_of = same_types i; lookup = same_lookup i; targets = same_targets i }
