-- The areas of rows that fit can be read: what the functions that read them ask. Assumes nothing.
use Prim.Native.Nat.{ℕ, suc, ◌+◌, ◌*◌, ◌-◌, ◌≤◌, ◌<◌}
use native.Mathlib.Omega.{arith}
use mathlib.Core.Path.{◌≡◌, ap, ◌∙◌}
use mathlib.Core.List.{List, [], ◌∷◌, ◌++◌}
use lib.ListN.{length, take, drop, replicate, length-append, length-drop, length-replicate}
use Rattle.rules.specs.Lists.{those, each}
use Rattle.rules.specs.Text.{Row, no_row, at, values_of, P}
use Rattle.rules.specs.Schema.{is, nth}
use Rattle.rules.proofs.Clean.{Each}
use Rattle.tables.specs.Layout.{laid, belongs, counted, all_values, node_area, property_area, value_area}
use Rattle.index.specs.Buckets.{SchemaStands}
use Rattle.tables.specs.Fill.{SchemaFits, GraphFits}
use Rattle.tables.specs.Read.{wide_at}
use Rattle.tables.proofs.Laid.{laid-length}
use Rattle.tables.proofs.Cells.{values_before}
use Rattle.tables.proofs.Wide.{wide_tag, wide-count, wide-number}
use Rattle.tables.proofs.Labelling.{Formed, edge-labelled, property-labelled}
use Rattle.tables.proofs.Areas.{values-before, each-split, node-length, node-count, edge_count, edges-stand}
use Rattle.tables.proofs.Areas.{property-length, property-count, properties-stand}
use Rattle.tables.proofs.Schemas.{type_table, field-table, arg_table, has_table, takes-table, member_table}
use Rattle.index.proofs.Buckets.{has_pairs, takes-pairs, member_pairs, schema-linked}
use Rattle.index.proofs.Views.{schema-count}
use Rattle.schema.specs.Held.{Bucketed, SchemaHeld}
use Rattle.graph.specs.Held.{NodesHeld, PropertiesHeld}

pub schema-held : (a : List ℕ) (rs : List Row) → SchemaStands a rs → SchemaFits rs → SchemaHeld a
unfolding Bucketed
schema-held a rs stands fits =
    record {
      long = stands.long;
      types = omega (arith, schema-count a rs stands fits type_table, fits.types);
      fields = omega (arith, schema-count a rs stands fits field-table, fits.fields);
      args = omega (arith, schema-count a rs stands fits arg_table, fits.args);
      has = omega (arith, schema-count a rs stands fits has_table, fits.has);
      takes = omega (arith, schema-count a rs stands fits takes-table, fits.takes);
      members = omega (arith, schema-count a rs stands fits member_table, fits.members);
      has_links = schema-linked a rs stands fits has_pairs;
      takes_links = schema-linked a rs stands fits takes-pairs;
      member_links = schema-linked a rs stands fits member_pairs;
    }

module _ (n : ℕ) (rs : List Row) (room : 15880 ≤ n) (fits : GraphFits rs) (formed : Each Formed rs) where
  edge-pairs : (j : ℕ) → j < counted 8 rs → wide_at (node_area n rs) 1544 j 5 ≤ 4
  unfolding counted belongs
  edge-pairs j h =
      omega (arith, wide-number (node_area n rs) 8 1544 rs (edges-stand n rs room fits) j h 3 (omega arith), (edge-labelled rs formed j h).few)

  pub nodes_held : NodesHeld (node_area n rs)
  nodes_held =
      record {
        long = omega (arith, node-length n rs room fits);
        nodes = omega (arith, node-count n rs room fits, fits.nodes);
        edges = omega (arith, edge_count n rs room fits, fits.edges);
        pairs = λ j h. edge-pairs j (omega (arith, edge_count n rs room fits));
      }

pub value-length : (k : ℕ) (rs : List Row) → 8200 ≤ k → length (all_values rs) ≤ 8192 → length (value_area k rs) ≡ k
unfolding value_area
value-length k rs room fits =
    let zeros : List ℕ = replicate k 0 in
    let z : length zeros ≡ k = length-replicate k 0 in
    let l : length (laid 8 (all_values rs) zeros) ≡ k = laid-length 8 (all_values rs) zeros (omega arith) ∙ z in
    laid-length 0 (length (all_values rs) ∷ []) (laid 8 (all_values rs) zeros) (omega arith) ∙ l

-- the values of a property stand among all values
values-inside : (rs : List Row) (j : ℕ) → j < counted 9 rs
    → values_before 9 rs j + length (values_of (nth (is P) rs j)) ≤ length (all_values rs)
unfolding counted belongs all_values
values-inside rs j h =
    let xs = those (is P) rs in
    let front = each values_of (take j xs) in
    let vs = values_of (nth (is P) rs j) in
    let rest = each values_of (drop (suc j) xs) in
    omega
    (arith, values-before rs j h, ap length (each-split values_of xs no_row j h), length-append front (vs ++ rest), length-append vs rest)

module _ (m k : ℕ) (rs : List Row) (room : 14344 ≤ m) (valueRoom : 8200 ≤ k) (fits : GraphFits rs) (formed : Each Formed rs) where
  property-pairs : (j : ℕ) → j < counted 9 rs → wide_at (property_area m rs) 8 j 5 ≤ 4
  unfolding counted belongs
  property-pairs j h =
      omega
      (arith, wide-number (property_area m rs) 9 8 rs (properties-stand m rs room fits) j h 3 (omega arith), (property-labelled rs formed j h).few)

  property-inside : (j : ℕ) → j < counted 9 rs
      → 8 + wide_at (property_area m rs) 8 j 0 + (wide_at (property_area m rs) 8 j 1 - (4 + 2 * wide_at (property_area m rs) 8 j 5))
      ≤ length (value_area k rs)
  unfolding counted belongs
  property-inside j h =
      let s = properties-stand m rs room fits in
      let r = nth (is P) rs j in
      let t : wide_at (property_area m rs) 8 j 0 ≡ values_before 9 rs j = wide_tag (property_area m rs) 9 8 rs s j h ∙ omega arith in
      let c : wide_at (property_area m rs) 8 j 1 ≡ length r.numbers = wide-count (property_area m rs) 9 8 rs s j h in
      let q : wide_at (property_area m rs) 8 j 5 ≡ at r 3 = wide-number (property_area m rs) 9 8 rs s j h 3 (omega arith) in
      omega (
        arith,
        length-drop (4 + 2 * at r 3) r.numbers,
        values-inside rs j h,
        value-length k rs valueRoom fits.values,
        fits.values,
      )

  pub properties-held : PropertiesHeld (property_area m rs) (value_area k rs)
  properties-held =
      let c = property-count m rs room fits in
      record {
        long = omega (arith, property-length m rs room fits);
        properties = omega (arith, c, fits.properties);
        pairs = λ j h. property-pairs j (omega arith);
        values = λ j h. property-inside j (omega arith);
      }
