-- An area that is the index of two tables is linked to them, and so is the index of the rows to the tables of these rows. Assumes nothing.
use Prim.Native.Nat.{ℕ, suc, ◌+◌, ◌≤◌, ◌<◌}
use native.Mathlib.Omega.{arith}
use mathlib.Core.Path.{◌≡◌, refl, sym, ap, ap₂, ◌∙◌}
use mathlib.Core.List.{List, [], ◌∷◌, map}
use lib.ListN.{length, get_or}
use Rattle.rules.specs.Lists.{those, count_up}
use Rattle.rules.specs.Text.{Row, no_row, E, P}
use Rattle.rules.specs.Schema.{is, nth}
use Rattle.rules.specs.Graph.{source}
use Rattle.tables.specs.Layout.{belongs, counted, node_area, property_area}
use Rattle.tables.specs.Fill.{GraphFits}
use Rattle.tables.specs.Read.{cell}
use Rattle.tables.proofs.Wide.{StandsWide, wide-number}
use Rattle.tables.proofs.Areas.{node-length, edge_count, edges-stand, property-length, property-count, properties-stand}
use Rattle.index.specs.Index.{next_link, link_cell, index_by, sources, index_area, sources_at, index_at, led_to, own_from, node_at, keys, Keyed, Rowed, Chained, Linked}
use Rattle.index.proofs.Links.{led_own, keys-at}
use Rattle.index.proofs.Laying.{cell-first, cell-next, index_edge, index_property, index_length}

-- ---- the index of two tables

module _ (key : ℕ → ℕ) (n : ℕ) (keyed : Keyed key n) (x : List ℕ) (at : ℕ) where
  pub linked-by : at + 1536 ≤ length x → at ≤ 13064 → ((i : ℕ) → i < 1536 → cell x (at + i) ≡ link_cell (keys key n) i) → Chained key n x at
  unfolding next_link
  linked-by room low cells =
      let ss = keys key n in
      let few = keyed.few in
      record {
        long = room;
        low = low;
        keyed = keyed;
        first = λ u h. ap (led_to n) (cells u (omega arith) ∙ cell-first ss u h) ∙ led_own key n u 0;
        next = λ j h.
            ap (λ (i : ℕ). led_to n (cell x i)) (omega arith)
            ∙ ap (led_to n) (cells (512 + j) (omega arith) ∙ cell-next ss j)
            ∙ led_own key n (get_or ss j 0) (suc j)
            ∙ ap (λ (u : ℕ). own_from key n u (suc j)) (keys-at key n j h);
      }

module _ (g p x : List ℕ) (edges : Rowed g 1544 (cell g 1)) (properties : Rowed p 8 (cell p 0)) (room : 3072 ≤ length x)
    (is : x ≡ index_at (length x) g p) where
  pub index_edges : Linked g 1544 (cell g 1) x 0
  unfolding index_at
  index_edges =
      linked-by (node_at g 1544) (cell g 1) edges.nodes x 0 (omega arith) (omega arith)
      (λ i h. ap (cell x) (omega arith) ∙ ap (λ (l : List ℕ). cell l i) is
      ∙ index_edge (length x) (sources_at g 1544 (cell g 1)) (sources_at p 8 (cell p 0)) i h (omega arith))

  pub index_properties : Linked p 8 (cell p 0) x 1536
  unfolding index_at
  index_properties =
      linked-by (node_at p 8) (cell p 0) properties.nodes x 1536 (omega arith) (omega arith)
      (λ i h. ap (λ (l : List ℕ). cell l (1536 + i)) is
      ∙ index_property (length x) (sources_at g 1544 (cell g 1)) (sources_at p 8 (cell p 0)) i h (omega arith))

-- ---- the index of the rows

-- places in place of elements
map-places : {A : Type 0} (d : A) (u : ℕ → ℕ) (v : A → ℕ) (i : ℕ) (xs : List A)
    → ((j : ℕ) → j < length xs → u (i + j) ≡ v (get_or xs j d)) → map u (count_up i (length xs)) ≡ map v xs
map-places d u v i [] h = refl
map-places d u v i (x ∷ xs) h =
    ap₂ (λ (y : ℕ) (ys : List ℕ). y ∷ ys) (ap u (omega arith) ∙ h 0 (omega arith))
    (map-places d u v (suc i) xs (λ j k. ap u (omega arith) ∙ h (suc j) (omega arith)))

-- the keys of a table's rows, said of the rows
pub rows-keys : (key : ℕ → ℕ) (of : Row → ℕ) (k n : ℕ) (rs : List Row) → n ≡ counted k rs
    → ((j : ℕ) → j < counted k rs → key j ≡ of (nth (belongs k) rs j)) → keys key n ≡ map of (those (belongs k) rs)
unfolding keys counted
rows-keys key of k n rs e each =
    ap (λ (m : ℕ). map key (count_up 0 m)) e
    ∙ map-places no_row key of 0 (those (belongs k) rs) (λ j h. ap key (omega arith) ∙ each j h)

rows-sources : (a : List ℕ) (k base n : ℕ) (rs : List Row) → StandsWide a k base rs → n ≡ counted k rs
    → sources_at a base n ≡ map source (those (belongs k) rs)
rows-sources a k base n rs s e =
    rows-keys (node_at a base) source k n rs e (λ j h. wide-number a k base rs s j h 0 (omega arith))

-- Rows of a letter that are each of a node below 512.
abbrev pub Within : ℕ → List Row → Type 0
Within l rs = (j : ℕ) → j < length (those (is l) rs) → source (nth (is l) rs j) < 512

module _ (n m k : ℕ) (rs : List Row) (nodeRoom : 15880 ≤ n) (propertyRoom : 14344 ≤ m) (fits : GraphFits rs) where
  -- the areas of the rows give the index of the rows
  pub index_rows : index_area k rs ≡ index_at k (node_area n rs) (property_area m rs)
  unfolding index_area index_at sources belongs
  index_rows =
      sym (ap₂ (index_by k)
      (rows-sources (node_area n rs) 8 1544 (cell (node_area n rs) 1) rs (edges-stand n rs nodeRoom fits) (edge_count n rs nodeRoom fits))
      (rows-sources (property_area m rs) 9 8 (cell (property_area m rs) 0) rs (properties-stand m rs propertyRoom fits)
      (property-count m rs propertyRoom fits)))

  pub edges_rowed : Within E rs → Rowed (node_area n rs) 1544 (cell (node_area n rs) 1)
  unfolding counted belongs
  edges_rowed w =
      let c = edge_count n rs nodeRoom fits in
      record {
        long = omega (arith, c, fits.edges, node-length n rs nodeRoom fits);
        low = omega arith;
        nodes = record {
          few = omega (arith, c, fits.edges);
          within = λ j h. omega (
            arith,
            w j (omega (arith, c)),
            wide-number (node_area n rs) 8 1544 rs (edges-stand n rs nodeRoom fits) j (omega (arith, c)) 0 (omega arith),
          );
        };
      }

  pub properties_rowed : Within P rs → Rowed (property_area m rs) 8 (cell (property_area m rs) 0)
  unfolding counted belongs
  properties_rowed w =
      let c = property-count m rs propertyRoom fits in
      record {
        long = omega (arith, c, fits.properties, property-length m rs propertyRoom fits);
        low = omega arith;
        nodes = record {
          few = omega (arith, c, fits.properties);
          within = λ j h. omega (
            arith,
            w j (omega (arith, c)),
            wide-number (property_area m rs) 9 8 rs (properties-stand m rs propertyRoom fits) j (omega (arith, c)) 0 (omega arith),
          );
        };
      }

  module _ (room : 3072 ≤ k) (edges : Within E rs) (properties : Within P rs) where
    indexed : index_area k rs ≡ index_at (length (index_area k rs)) (node_area n rs) (property_area m rs)
    unfolding index_area
    indexed =
        index_rows
        ∙ ap (λ (i : ℕ). index_at i (node_area n rs) (property_area m rs)) (sym (index_length k (sources E rs) (sources P rs)))

    long : 3072 ≤ length (index_area k rs)
    unfolding index_area
    long = omega (arith, index_length k (sources E rs) (sources P rs))

    -- An area that is the index of the rows is linked to the tables of these rows.
    pub rows-linked : Linked (node_area n rs) 1544 (cell (node_area n rs) 1) (index_area k rs) 0
        × Linked (property_area m rs) 8 (cell (property_area m rs) 0) (index_area k rs) 1536
    rows-linked = (
      index_edges (node_area n rs) (property_area m rs) (index_area k rs) (edges_rowed edges) (properties_rowed properties) long indexed,
      index_properties (node_area n rs) (property_area m rs) (index_area k rs) (edges_rowed edges) (properties_rowed properties) long indexed,
    )
