-- The areas of accepted texts can be read, and say what the texts say. Assumes nothing.
use Prim.Native.Nat.{ℕ, suc, ◌≤◌, ◌<◌}
use native.Mathlib.Omega.{arith}
use mathlib.Core.Path.{◌≡◌, refl, sym, ap, ◌∙◌, subst}
use mathlib.Core.Bool.{Bool, true, false}
use mathlib.Core.List.{List, [], ◌∷◌}
use lib.ListN.{length, take, length-take}
use borrow.Author.Tests.{ltb-false}
use Rattle.rules.specs.Text.{Row, rows, at, F}
use Rattle.rules.specs.Schema.{Schema, is}
use Rattle.rules.specs.Graph.{Graph}
use Rattle.rules.specs.Query.{shown_as, check33}
use Rattle.rules.specs.Tree.{Asks, field, on, asks_of, Entry, entries_from, entries}
use Rattle.rules.specs.World.{World, query_node}
use Rattle.rules.specs.Answer.{Texts, schema_in, graph_in, graph_rows, query_rows, world_of, root_of, checks}
use Rattle.rules.specs.Contract.{Passed}
use Rattle.rules.proofs.Clean.{Each, each_map, clean, clean-each}
use Rattle.rules.proofs.Size.{Closed}
use Rattle.rules.proofs.Preorder.{Steps}
use Rattle.rules.proofs.Facts.{Facts, facts}
use Rattle.tables.specs.Read.{cell, wide_at, schema_at, graph_at}
use Rattle.tables.specs.Layout.{node_area, property_area}
use Rattle.tables.proofs.Labelling.{each_at}
use Rattle.index.specs.Index.{Linked}
use Rattle.index.proofs.Areas.{rows-linked}
use Rattle.index.proofs.Declared.{edges-within, properties-within}
use Rattle.masks.specs.Masks.{Masked}
use Rattle.schema.specs.Held.{SchemaHeld}
use Rattle.graph.specs.Faults.{nodes_at}
use Rattle.query.specs.Entries.{QueryHeld, entries_at}
use Rattle.search.specs.Search.{areas, GraphReady}
use Rattle.search.proofs.Asking.{nodes_read, properties-read}
use Rattle.checks.proofs.Entering.{QueryFormed, query-formed, query-entries, query-entries_same, query-held}
use Rattle.checks.proofs.Fitting.{schema-fits, members_sound, graph-fits, query-fits}
use Rattle.checks.proofs.SchemaJudging.{area_ready}
use Rattle.graph_text.proofs.GraphJudging.{Laid, laid-ready}
use Rattle.checks.specs.Verdict.{Verdict, accepted}
use Rattle.judge.specs.Texts.{Lent, too_short_of, Holding, Judged}
use Rattle.judge.proofs.Texts.{Long}
use Rattle.judge.proofs.World.{schema-read, graph-read, world-read}
use Rattle.world.specs.World.{world_at, root_at, EdgesHeld, WorldHeld, entry_in}
use Rattle.sizing.specs.Measure.{QuerySteps}
use Rattle.evaluate.specs.Evaluate.{QueryLabelled}
use Rattle.world.proofs.Targets.{closed_ends}
use Rattle.world.proofs.Asked.{asks-field, entries-length, entries-at}
use Rattle.response.proofs.Passing.{passed-all, areas-long}

-- The World and the query node that the areas hold; of the values' area the needed part is read.
abbrev pub world_in : Lent → World
world_in w = world_at w.schema w.nodes w.properties (take 8200 w.values)

abbrev pub root_in : Lent → ℕ
root_in w = root_at w.schema w.nodes

-- What sizing and evaluation ask of the areas, and what the areas say of the texts.
pub record Readable (x : Texts) (w : Lent) : Type 0 where
  pub held : WorldHeld w.schema w.nodes w.properties (take 8200 w.values) w.index
  pub steps : QuerySteps w.query
  pub labelled : QueryLabelled w.query
  pub root : root_in w < cell w.nodes 0
  pub world : world_in w ≡ world_of x
  pub start : root_in w ≡ root_of x
  pub entered : entries (entries_at w.query) ≡ entries (query_rows x)

-- ---- 33: labels are at most 255

abbrev LowLabel : Asks → Type 0
LowLabel (field n l) = n ≤ 255
LowLabel (on t) = Unit {0}

asks-low : (r : Row) → (is F r ≡ true → shown_as r ≤ 255) → LowLabel (asks_of r)
asks-low r h = go (is F r) refl
  where
    go : (b : Bool) → is F r ≡ b → LowLabel (asks_of r)
    go true e = rw (e, asks_of) (h e)
    go false e = rw (e, asks_of) tt

entries-low : (i : ℕ) (rs : List Row) → Each (λ r. is F r ≡ true → shown_as r ≤ 255) rs
    → Each (λ e. LowLabel e.asks) (entries_from i rs)
entries-low i [] h = tt
entries-low i (r ∷ rs) h = (asks-low r h.0, entries-low (suc i) rs h.1)

-- ---- the areas

module _ (x : Texts) (before after : Lent) (v : Verdict) (j : Judged x before after v) (z : v ≡ accepted) where
  abbrev vs : List ℕ
  vs = take 8200 after.values

  hold : Holding x before after
  hold = j.held z

  passed : Passed (checks (too_short_of before) x)
  passed = passed-all x before after v j z

  known : Facts x
  known = facts (too_short_of before) x passed

  long : Long before
  long = areas-long x before after v j z

  -- the schema and the graph
  schema-ready : SchemaHeld after.schema × Masked after.schema
  schema-ready =
      let rs = rows x.schema in
      let fits = schema-fits rs (passed 11) in
      subst (λ (a : List ℕ). SchemaHeld a × Masked a) (sym hold.schema)
      (area_ready (length before.schema) rs long.schema fits (members_sound rs fits (passed 12)))

  graph-laid : Laid x.graph after.nodes after.properties vs (length before.nodes) (length before.properties) 8200
  graph-laid =
      record {
        nodes_room = long.nodes;
        properties_room = long.properties;
        values_room = omega arith;
        fits = graph-fits (graph_rows x) (passed 21);
        nodes = hold.nodes;
        properties = hold.properties;
        values = hold.values;
      }

  graph-ready : GraphReady (graph_rows x) (areas after.schema after.nodes after.properties vs)
  graph-ready = laid-ready graph-laid after.schema schema-ready.0 schema-ready.1 (omega arith) (passed 20)

  same-world : world_in after ≡ world_of x
  unfolding world_at
  same-world = world-read x before after v j z

  -- the tables and their index
  linked : Linked after.nodes 1544 (cell after.nodes 1) after.index 0
      × Linked after.properties 8 (cell after.properties 0) after.index 1536
  linked =
      let rs = graph_rows x in
      let fits = graph-fits rs (passed 21) in
      let own = rows-linked (length before.nodes) (length before.properties) (length before.index) rs
      long.nodes long.properties fits long.index
      (edges-within (schema_in x) rs (passed 22) fits) (properties-within (schema_in x) rs (passed 22) fits) in
      let stands = subst (λ (y : List ℕ). Linked (node_area (length before.nodes) rs) 1544 (cell (node_area (length before.nodes) rs) 1) y 0)
      (sym hold.index) own.0 in
      let stand = subst (λ (y : List ℕ). Linked (property_area (length before.properties) rs) 8
      (cell (property_area (length before.properties) rs) 0) y 1536) (sym hold.index) own.1 in (
        subst (λ (g : List ℕ). Linked g 1544 (cell g 1) after.index 0) (sym hold.nodes) stands,
        subst (λ (p : List ℕ). Linked p 8 (cell p 0) after.index 1536) (sym hold.properties) stand,
      )

  edges-ready : EdgesHeld after.nodes after.index
  unfolding areas
  edges-ready =
      record {
        nodes = nodes_read (graph_rows x) _ graph-ready;
        ends = closed_ends after.schema after.nodes after.properties vs (subst Closed (sym same-world) known.closed);
        links = linked.0;
      }

  world-ready : WorldHeld after.schema after.nodes after.properties vs after.index
  unfolding areas
  world-ready =
      record {
        graph = record { schema = schema-ready.0; masks = schema-ready.1; edges = edges-ready };
        properties = properties-read (graph_rows x) _ graph-ready;
        values = omega (arith, length-take 8200 after.values);
        own = linked.1;
      }

  -- the query node
  same_root : root_in after ≡ root_of x
  unfolding root_at nodes_at graph_at
  same_root =
      ap (λ (g : Graph). query_node (schema_at after.schema) g) (graph-read x before after v j z)
      ∙ ap (λ (s : Schema). query_node s (graph_in x)) (schema-read x before after v j z)

  root_ready : root_in after < cell after.nodes 0
  unfolding graph_at
  root_ready =
      let n : cell after.nodes 0 ≡ (graph_in x).size = ap (λ (g : Graph). g.size) (graph-read x before after v j z) in
      omega (arith, same_root, known.root)

  -- the query
  formed : Each QueryFormed (query_rows x)
  formed = query-formed x.query (passed 30)

  few : (length (query_rows x) ≤ 256) × Each (λ r. at r 0 ≤ 15) (query_rows x)
  few = query-fits (query_rows x) (passed 31)

  same_entries : entries (entries_at after.query) ≡ entries (query_rows x)
  same_entries =
      ap (λ (l : List ℕ). entries (entries_at l)) hold.query
      ∙ ap entries (query-entries (length before.query) (query_rows x) long.query few.0)
      ∙ query-entries_same (query_rows x) formed 0

  query-ready : QueryHeld after.query
  query-ready =
      subst QueryHeld (sym hold.query)
      (query-held (length before.query) (query_rows x) long.query few.0 few.1
      (each_map QueryFormed (λ r. at r 3 ≤ 4) (λ r f. f.few) (query_rows x) formed))

  low : Each (λ e. LowLabel e.asks) (entries (entries_at after.query))
  low =
      subst (Each (λ e. LowLabel e.asks)) (sym same_entries)
      (entries-low 0 (query_rows x)
      (clean-each (check33 (schema_in x)) (λ r. is F r ≡ true → shown_as r ≤ 255)
      (λ b r a c e. ltb-false 255 (shown_as r) (c.0 e).0) [] (query_rows x)
      (clean (check33 (schema_in x)) [] 1 (query_rows x) (passed 33))))

  labels_ready : (k : ℕ) → k < cell after.query 0 → wide_at after.query 8 k 0 ≡ 70 → wide_at after.query 8 k 3 ≤ 255
  unfolding entry_in
  labels_ready k h e =
      let q = after.query in
      let at-k = each_at (λ e. LowLabel e.asks) (entries (entries_at q)) (entry_in q k) low k (omega (arith, entries-length q)) in
      subst LowLabel (ap (λ (e : Entry). e.asks) (entries-at q k (entry_in q k) h) ∙ asks-field q k e) at-k

  pub readable : Readable x after
  readable =
      record {
        held = world-ready;
        steps = record { held = query-ready; steps = subst (Steps 0) (sym same_entries) known.steps };
        labelled = record { held = query-ready; labels = labels_ready };
        root = root_ready;
        world = same-world;
        start = same_root;
        entered = same_entries;
      }
