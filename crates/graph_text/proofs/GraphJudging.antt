-- The verdict on a graph's text. Assumes nothing.
use Prim.Native.Nat.{ℕ, ◌≤◌}
use native.Mathlib.Omega.{arith}
use mathlib.Core.Path.{◌≡◌, refl, sym, ap, ap₂, ◌∙◌, subst}
use mathlib.Core.List.{List, [], ◌∷◌, ◌++◌}
use Rattle.std.specs.Prelude.{None, Err}
use lib.ListN.{length}
use borrow.Author.Tests.{eq-eqb, ne_eqb}
use Rattle.rules.specs.Text.{rows, E, P}
use Rattle.rules.specs.Search.{first_line, spot}
use Rattle.rules.specs.Forms.{text_form, graph_forms}
use Rattle.rules.specs.Schema.{Schema, query_type}
use Rattle.rules.specs.Graph.{Graph, graph_of, nodes_of, check22, check23, check24, check25, check26, check27}
use Rattle.rules.specs.Answer.{◌by◌, graph_checks}
use Rattle.rules.specs.declared.TypeNo.{TypeNo}
use Rattle.rules.proofs.Clean.{Each}
use Rattle.tables.specs.Layout.{node_area, property_area, value_area}
use Rattle.tables.specs.Fill.{GraphFits}
use Rattle.tables.specs.Read.{cell, schema_at, graph_at}
use Rattle.tables.proofs.Graphs.{graph-view, graph-formed}
use Rattle.tables.proofs.Areas.{node-length, property-length}
use Rattle.index.specs.Index.{sources, index_area, index_at, Rowed}
use Rattle.index.proofs.Laying.{index_length}
use Rattle.index.proofs.Areas.{index_edges, index_properties, index_rows, edges_rowed, properties_rowed}
use Rattle.index.proofs.Declared.{edges-within, properties-within}
use Rattle.masks.specs.Masks.{Masked}
use Rattle.schema.specs.Held.{SchemaHeld}
use Rattle.graph.specs.Held.{NodesHeld}
use Rattle.graph.specs.Faults.{nodes_at}
use Rattle.rules.specs.Kinds.{forms_of, maxima_of}
use Rattle.rules.specs.declared.TextKind.TheVariants.{Graph as TextGraph}
use Rattle.rules.specs.declared.Refusal.{Refusal}
use Rattle.search.specs.Search.{areas, graph_in, check_by, GraphReady, Indexed}
use Rattle.search.proofs.Calls.{nodes_held, value-length}
use Rattle.checks.specs.Verdict.{Verdict, refused_by, accepted, judged, form_checks}
use Rattle.checks.proofs.Judging.{refusal, judged-at, judged-past, judged-none, Passes, passed, front, behind, Left}
use Rattle.checks.proofs.Opening.{Opened, opening-refused, opening_past}
use Rattle.checks.proofs.Fitting.{graph-fits, graph-few}
use Rattle.graph_text.specs.GraphVerdict.{alone_checks, joint_checks, GraphJudged}

-- ---- 22 to 27, of a graph that is laid out

-- of checks 22 to 24 these are left
abbrev pub AloneLeft : (s a g p v ns : List ℕ) → Type 0
AloneLeft s a g p v ns =
    Left (λ n. check_by n (schema_at a) (graph_in (areas a g p v))) (rows s) [] (judged (alone_checks (schema_at a) s)) ns

-- of checks 25 to 27, these and 27
abbrev pub JointLeft : (s a g p v ns : List ℕ) → Type 0
JointLeft s a g p v ns =
    Left (λ n. check_by n (schema_at a) (graph_in (areas a g p v))) (rows s)
    (27 by check27 (schema_at a) (graph_of (rows s)) ∷ [])
    (judged (joint_checks (schema_at a) s))
    ns

module _ (s a g p v : List ℕ) (ready : GraphReady (rows s) (areas a g p v)) where
  abbrev sch : Schema
  sch = schema_at a

  view : graph_in (areas a g p v) ≡ graph_of (rows s)
  unfolding graph_in areas
  view =
      (λ i. graph_at (ready.nodes i) (ready.properties i) (ready.values i))
      ∙ graph-view (length g) (length p) (length v) (rows s) ready.nodes_long ready.properties_long ready.values_long
      ready.fits ready.formed

  -- the area of the nodes can be read
  pub nodes_ready : NodesHeld g
  unfolding areas
  nodes_ready =
      subst NodesHeld (sym ready.nodes) (nodes_held (length g) (rows s) ready.nodes_long ready.fits ready.formed)

  -- the areas state the graph of the rows, so that the search in them finds what the rules find
  pub alone_left : AloneLeft s a g p v (22 ∷ 23 ∷ 24 ∷ [])
  unfolding check_by alone_checks
  alone_left =
      let stated : Graph → Verdict = λ t. let rs = rows s in
      judged
      (22 by first_line (check22 sch t) rs
      ∷ 23 by first_line (check23 sch t) rs
      ∷ 24 by first_line (check24 sch t) rs
      ∷ []) in
      record { is = sym (ap stated view) }

  pub joint_left : JointLeft s a g p v (25 ∷ 26 ∷ [])
  unfolding check_by joint_checks
  joint_left =
      let stated : Graph → Verdict = λ t. let rs = rows s in
      judged
      (25 by first_line (check25 sch t) rs
      ∷ 26 by first_line check26 rs
      ∷ 27 by check27 sch (graph_of rs)
      ∷ []) in
      record { is = sym (ap stated view) }

  -- the nodes of the query type, as the code counts them
  module _ (t : TypeNo) (n : ℕ) (e : t ≡ query_type sch) (counted : n ≡ length (nodes_of (nodes_at g) t)) where
    queries : n ≡ length (nodes_of (graph_of (rows s)) (query_type sch))
    unfolding graph_in graph_at nodes_at areas
    queries =
        counted
        ∙ ap (λ (o : TypeNo). length (nodes_of (nodes_at g) o)) e
        ∙ ap (λ (o : Graph). length (nodes_of o (query_type sch))) view

    module _ (left : JointLeft s a g p v []) where
      pub at_27 : {w : Verdict} → (n ≡ 1 → ⊥) → w ≡ refused_by 27 (spot 0 0) → w ≡ judged (joint_checks sch s)
      at_27 h f =
          let offends = ne_eqb (length (nodes_of (graph_of (rows s)) (query_type sch))) 1 (λ q. h (queries ∙ q)) in
          f ∙ sym (left.is ∙ judged-at 27 (check27 sch (graph_of (rows s))) [] (spot 0 0) (rw offends))

      pub past_27 : n ≡ 1 → accepted ≡ judged (joint_checks sch s)
      past_27 h =
          let passes = eq-eqb (length (nodes_of (graph_of (rows s)) (query_type sch))) 1 (sym queries ∙ h) in
          sym (left.is ∙ judged-past 27 (check27 sch (graph_of (rows s))) [] (rw passes) ∙ judged-none)

-- ---- 20 and 21, and the whole

pub fits_21 : (s : List ℕ) → Opened TextGraph s → GraphFits (rows s)
unfolding maxima_of
fits_21 s o = graph-fits (rows s) o.few

pub form_20 : (s : List ℕ) → Opened TextGraph s → text_form graph_forms s ≡ None
unfolding forms_of
form_20 s o = o.formed

pub refused : (t : Schema) (s g p v x : List ℕ) {b : Verdict} → b ≡ judged (form_checks TextGraph s) → {r : Refusal} → b ≡ Err r
    → GraphJudged t s (length g) (length p) (length v) (length x) g p v x (Err r)
unfolding forms_of form_checks maxima_of alone_checks joint_checks
refused t s g p v x form h =
    record {
      is = sym h ∙ opening-refused TextGraph s form (alone_checks t s ++ joint_checks t s) h;
      long = (refl, refl, refl, refl);
      held = λ z. absurd (refusal z);
    }

-- The three areas, of the lengths n, m and k, laid out of the text s.
pub record Laid (s g p v : List ℕ) (n m k : ℕ) : Type 0 where
  pub nodes_room : 15880 ≤ n
  pub properties_room : 14344 ≤ m
  pub values_room : 8200 ≤ k
  pub fits : GraphFits (rows s)
  pub nodes : g ≡ node_area n (rows s)
  pub properties : p ≡ property_area m (rows s)
  pub values : v ≡ value_area k (rows s)

module _ {s g p v : List ℕ} {n m k : ℕ} (laid : Laid s g p v n m k) where
  g_long : length g ≡ n
  g_long = ap length laid.nodes ∙ node-length n (rows s) laid.nodes_room laid.fits

  p_long : length p ≡ m
  p_long = ap length laid.properties ∙ property-length m (rows s) laid.properties_room laid.fits

  v_long : length v ≡ k
  v_long = ap length laid.values ∙ value-length k (rows s) laid.values_room laid.fits.values

  -- they can be searched
  pub laid-ready : (a : List ℕ) → SchemaHeld a → Masked a → k ≤ 16384 → text_form graph_forms s ≡ None
      → GraphReady (rows s) (areas a g p v)
  unfolding areas
  laid-ready a h m most f =
      record {
        schema = h;
        masks = m;
        nodes_long = omega (arith, g_long, laid.nodes_room);
        properties_long = omega (arith, p_long, laid.properties_room);
        values_long = omega (arith, v_long, laid.values_room);
        values_most = omega (arith, v_long);
        fits = laid.fits;
        formed = graph-formed s f;
        few = graph-few s f;
        nodes = laid.nodes ∙ ap (λ (i : ℕ). node_area i (rows s)) (sym g_long);
        properties = laid.properties ∙ ap (λ (i : ℕ). property_area i (rows s)) (sym p_long);
        values = laid.values ∙ ap (λ (i : ℕ). value_area i (rows s)) (sym v_long);
      }

  -- the verdict on each row by itself
  module _ (t : Schema) {c : Verdict} (alone : c ≡ judged (alone_checks t s)) where
    module _ (y : c ≡ accepted) where
      alone-passes : Each Passes (alone_checks t s)
      unfolding alone_checks
      alone-passes = passed (alone_checks t s) (sym alone ∙ y)

      passes_22 : first_line (check22 t (graph_of (rows s))) (rows s) ≡ None
      unfolding alone_checks
      passes_22 = alone-passes.0

      -- the tables can be indexed
      pub edges_indexable : Rowed g 1544 (cell g 1)
      edges_indexable =
          subst (λ (l : List ℕ). Rowed l 1544 (cell l 1)) (sym laid.nodes)
          (edges_rowed n m 0 (rows s) laid.nodes_room laid.properties_room laid.fits
          (edges-within t (rows s) passes_22 laid.fits))

      pub properties_indexable : Rowed p 8 (cell p 0)
      properties_indexable =
          subst (λ (l : List ℕ). Rowed l 8 (cell l 0)) (sym laid.properties)
          (properties_rowed n m 0 (rows s) laid.nodes_room laid.properties_room laid.fits
          (properties-within t (rows s) passes_22 laid.fits))

      -- and what is laid of them is their index
      pub laid-indexed : (i : ℕ) → 3072 ≤ i → (x : List ℕ) → x ≡ index_at i g p → Indexed g p x
      unfolding index_at
      laid-indexed i room x xIs =
          let long : length x ≡ i = ap length xIs ∙ index_length i _ _ in
          let is : x ≡ index_at (length x) g p = xIs ∙ ap (λ (k : ℕ). index_at k g p) (sym long) in
          record {
            nodes_long = omega (arith, g_long, laid.nodes_room);
            properties_long = omega (arith, p_long, laid.properties_room);
            edges = index_edges g p x edges_indexable properties_indexable (omega arith) is;
            properties = index_properties g p x edges_indexable properties_indexable (omega arith) is;
          }

    module _ {b : Verdict} (form : b ≡ judged (form_checks TextGraph s)) (z : b ≡ accepted) where
      past : judged (graph_checks t s) ≡ judged (alone_checks t s ++ joint_checks t s)
      unfolding forms_of form_checks maxima_of alone_checks joint_checks
      past = opening_past TextGraph s form z (alone_checks t s ++ joint_checks t s)

      pub alone-refused : {r : Refusal} → c ≡ Err r → (x : List ℕ) → GraphJudged t s n m k (length x) g p v x (Err r)
      alone-refused h x =
          record {
            is = sym h ∙ alone ∙ sym (past ∙ front (alone_checks t s) (joint_checks t s) (λ y. refusal (sym h ∙ alone ∙ y)));
            long = (g_long, p_long, v_long, refl);
            held = λ y. absurd (refusal y);
          }

      -- the whole verdict, from that on a row and the others
      pub whole-verdict : (y : c ≡ accepted) (i : ℕ) (x : List ℕ) → x ≡ index_at i g p → {w : Verdict} → w ≡ judged (joint_checks t s)
          → GraphJudged t s n m k i g p v x w
      unfolding index_area
      whole-verdict y i x xIs j =
          let rowed = index_rows n m i (rows s) laid.nodes_room laid.properties_room laid.fits in
          let is = xIs ∙ ap₂ (index_at i) laid.nodes laid.properties ∙ sym rowed in
          record {
            is = j ∙ sym (past ∙ behind (alone_checks t s) (joint_checks t s) (alone-passes y));
            long = (g_long, p_long, v_long, ap length is ∙ index_length i (sources E (rows s)) (sources P (rows s)));
            held = λ _. (laid.nodes, laid.properties, laid.values, is);
          }
