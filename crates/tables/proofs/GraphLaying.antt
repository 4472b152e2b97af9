-- A graph laid out row by row, in one reading of its text: what is left to lay, at a position of the text. Assumes nothing.
use Prim.Native.Nat.{ℕ, ◌+◌, ◌*◌, ◌-◌, ◌/◌, ◌≤◌}
use native.Mathlib.Omega.{arith}
use mathlib.Core.Path.{◌≡◌, ap, ◌∙◌}
use mathlib.Core.List.{List, [], ◌∷◌}
use lib.ListN.{length, get_or}
use Rattle.rules.specs.Text.{lines, Row, row, rows}
use Rattle.rules.proofs.Clean.{Each}
use Rattle.text.specs.declared.Row.{Row as Read}
use Rattle.text.specs.Line.{line_at}
use Rattle.tables.specs.Layout.{laid, valued, table, counted, all_values}
use Rattle.tables.specs.Fill.{Plain, row_in, space, own_values, graph_counts_of, GraphFits}
use Rattle.tables.proofs.Turns.{Turn}
use Rattle.tables.proofs.Valuing.{Valued, valued-start, valued-on, valued-count, own-valued}
use Rattle.tables.proofs.Laying.{narrow-long, wide-long, node-room, edge-room, property-room, value_room}
use Rattle.tables.proofs.Together.{own, own_read, own-space, places, ends, puts, moved, todo}
use Rattle.tables.proofs.Together.{Left, left_start, left_on, left_all, left_ends}

-- the tables of the nodes and edges, by the places where their next rows go, and that of the properties
abbrev pub node_places : ℕ → ℕ → List (ℕ × ℕ)
node_places nodes edges = (8, edges) ∷ (7, nodes) ∷ []

abbrev pub property_places : ℕ → List (ℕ × ℕ)
property_places properties = (9, properties) ∷ []

pub record GraphLeft (s g₀ g p₀ p v₀ v : List ℕ) (nodes edges properties values here : ℕ) : Type 0 where
  pub nodes_left : Left s (node_places 8 1544) g₀ (node_places nodes edges) g (values - 8) here
  pub properties_left : Left s (property_places 8) p₀ (property_places properties) p (values - 8) here
  pub values_left : Valued s 8 v₀ v values here

pub graph-start : {s g p v : List ℕ} → Each Plain (lines s) → GraphFits (rows s) → 15880 ≤ length g → 14344 ≤ length p → 8200 ≤ length v
    → GraphLeft s g g p p v v 8 1544 8 8 0
graph-start {s} plain f hg hp hv =
    record {
      nodes_left = left_start (omega (arith, edge-room (rows s) f), (node-room (rows s) f, tt));
      properties_left = left_start (omega (arith, property-room (rows s) f), tt);
      values_left = valued-start plain (omega (arith, value_room (rows s) f));
    }

-- one turn
module _ {s g₀ g p₀ p v₀ v : List ℕ} {nodes edges properties values here : ℕ}
    (f : GraphLeft s g₀ g p₀ p v₀ v nodes edges properties values here) {r : Read} (t : Turn s here r) where
  abbrev x : Row
  x = row (line_at s here)

  module _ {start : ℕ} (e : start ≡ values - 8) where
    -- what was laid of the row in table k, and where the next goes
    put : (k : ℕ) → row_in k start r ≡ own k (values - 8) x
    put k = ap (λ (i : ℕ). row_in k i r) e ∙ own_read x r.next r t.read k (values - 8)

    wide : (k : ℕ) → space k r.letter ≡ length (own k (values - 8) x)
    wide k = own-space x r.next r t.read k (values - 8)

    pub graph-on : {g₁ g₂ p₁ v₁ : List ℕ} {nodes' edges' properties' values' : ℕ}
        → (nodes' ≡ nodes + space 7 r.letter) × (g₁ ≡ laid nodes (row_in 7 start r) g)
        → (edges' ≡ edges + space 8 r.letter) × (g₂ ≡ laid edges (row_in 8 start r) g₁)
        → (properties' ≡ properties + space 9 r.letter) × (p₁ ≡ laid properties (row_in 9 start r) p)
        → (values' ≡ values + length (own_values x)) × (v₁ ≡ laid values (own_values x) v)
        → GraphLeft s g₀ g₂ p₀ p₁ v₀ v₁ nodes' edges' properties' values' r.next
    unfolding moved puts
    graph-on {g₁} {g₂} {p₁} {v₁} {nodes'} {edges'} {properties'} {values'} en ee ep ev =
        let u = f.values_left.after in
        let w = ev.0 in
        let i : values' - 8 ≡ values - 8 + valued x = omega (arith, own-valued x) in
        record {
          nodes_left = left_on f.nodes_left t (cc (en.0, ee.0, wide 7, wide 8)) (cc (en.1, ee.1, put 7, put 8)) i;
          properties_left = left_on f.properties_left t (cc (ep.0, wide 9)) (cc (ep.1, put 9)) i;
          values_left = valued-on f.values_left t ev.0 ev.1;
        }

-- the end of the text
module _ {s g₀ g p₀ p v₀ v : List ℕ} {nodes edges properties values here : ℕ}
    (f : GraphLeft s g₀ g p₀ p v₀ v nodes edges properties values here) (h : length s ≤ here) where
  pub nodes_end : nodes ≡ 8 + 3 * counted 7 (rows s)
  unfolding places ends
  nodes_end = ap (λ (l : List ℕ). get_or l 1 0) (left_ends f.nodes_left h) ∙ ap (λ (n : ℕ). 8 + n) (narrow-long 7 (rows s) (omega arith))

  pub edges_end : edges ≡ 1544 + 14 * counted 8 (rows s)
  unfolding places ends
  edges_end = ap (λ (l : List ℕ). get_or l 0 0) (left_ends f.nodes_left h) ∙ ap (λ (n : ℕ). 1544 + n) (wide-long 8 (rows s) (omega arith))

  pub properties_end : properties ≡ 8 + 14 * counted 9 (rows s)
  unfolding places ends
  properties_end = ap (λ (l : List ℕ). get_or l 0 0) (left_ends f.properties_left h) ∙ ap (λ (n : ℕ). 8 + n) (wide-long 9 (rows s) (omega arith))

  pub nodes_all : g ≡ laid 1544 (table 8 0 (rows s)) (laid 8 (table 7 0 (rows s)) g₀)
  unfolding todo
  nodes_all = left_all f.nodes_left h

  pub properties-all : p ≡ laid 8 (table 9 0 (rows s)) p₀
  unfolding todo
  properties-all = left_all f.properties_left h

  pub counts_end : record {
    nodes = (nodes - 8) / 3;
    edges = (edges - 1544) / 14;
    properties = (properties - 8) / 14;
    values = values - 8;
  } ≡ graph_counts_of (rows s)
  unfolding graph_counts_of
  counts_end =
      let a : (nodes - 8) / 3 ≡ counted 7 (rows s) = omega (arith, nodes_end) in
      let b : (edges - 1544) / 14 ≡ counted 8 (rows s) = omega (arith, edges_end) in
      let c : (properties - 8) / 14 ≡ counted 9 (rows s) = omega (arith, properties_end) in
      let d : values - 8 ≡ length (all_values (rows s)) = omega (arith, valued-count f.values_left h) in
      cc
