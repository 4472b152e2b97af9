-- What the code may ask at a line: the areas can be read, and the earlier lines stand in them. Assumes nothing.
use Prim.Native.Nat.{ℕ, suc, ◌+◌, ◌*◌, ◌≤◌, ◌<◌}
use native.Mathlib.Omega.{arith}
use mathlib.Core.Path.{◌≡◌, refl, sym, ap, ◌∙◌, subst, subst₂}
use mathlib.Core.Logic.{◌⊎◌, inl, inr}
use mathlib.Core.Bool.{Bool, true, false, ◌&&◌, ◌||◌, not, cond, false≢true}
use mathlib.Core.List.{List, [], ◌∷◌, ◌++◌}
use lib.ListN.{length, get_or, drop}
use lib.Dec.{eqb, ltb}
use borrow.Author.Tests.{eq-eqb, ne_eqb, eqb-true}
use Rattle.rules.specs.Lists.{among, sum_of}
use Rattle.rules.specs.Text.{Row, at, row, rows, field_no, E, G, H, M, P}
use Rattle.rules.specs.Schema.{is_list}
use Rattle.rules.proofs.Clean.{Each}
use Rattle.rules.proofs.Sums.{sum_append}
use Rattle.text.specs.declared.Row.{Row as Read}
use Rattle.text.specs.Line.{line_at, next_at, row_at, padded}
use Rattle.text.proofs.Rows.{padded-at, padded-length}
use Rattle.tables.specs.Layout.{belongs, counted}
use Rattle.tables.specs.Fill.{whole}
use Rattle.tables.specs.Read.{cell, schema_at}
use Rattle.tables.proofs.Cells.{counted-append}
use Rattle.tables.proofs.Schemas.{SchemaTable, has_table, takes-table, member_table}
use Rattle.index.specs.Buckets.{links_end}
use Rattle.index.proofs.Views.{schema-count}
use Rattle.tables.proofs.Areas.{edge_count, property-count}
use Rattle.schema.specs.Held.{SchemaHeld}
use Rattle.graph.specs.Faults.{nodes_at}
use Rattle.graph.specs.Held.{NodesHeld, PropertiesHeld}
use Rattle.search.specs.declared.Counts.{Counts}
use Rattle.search.specs.Count.{counts_of, Within}
use Rattle.search.specs.Search.{Areas, limit, pair_base, pair_count, pair_rows, plain_check}
use Rattle.search.specs.Search.{SchemaReady, GraphReady, Ready, IndexReady, GraphTestable, Testable, Clashable, Stepping}
use Rattle.search.proofs.Splitting.{Searched, by_11, by_12, by_13, by_14, by_15, by_21, by_22, by_23, by_24, by_25, by_26, by_31}
use Rattle.search.proofs.DataSplit.{each-there}
use Rattle.search.proofs.Sizes.{rows_numbers}
use Rattle.search.proofs.Calls.{schema-held, nodes_held, properties-held}
use Rattle.search.proofs.Looping.{Going, read_here, rows_split, within-here}

-- ---- the numbers that the search is for

-- what holds of each number of a list holds of any that is among them
pub pick : (T : ℕ → Type 0) (n : ℕ) (ks : List ℕ) → Each T ks → among n ks ≡ true → T n
pick T n [] e h = absurd (false≢true h)
pick T n (k ∷ ks) e h = go (λ q. pick T n ks e.1 q) (eqb n k) refl
  where
    go : (among n ks ≡ true → T n) → (t : Bool) → eqb n k ≡ t → T n
    go ih true q = subst T (sym (eqb-true n k q)) e.0
    go ih false q = ih (subst (λ (t : Bool). (t || among n ks) ≡ true) q h)

-- ---- the areas

-- before any check but 11, 21 and 31 a schema is held
pub schema-read : (n : ℕ) (rs : List Row) (x : Areas) → Ready n rs x → plain_check n ≡ false → SchemaHeld x.schema
unfolding Ready
schema-read n rs x ready p = go (ltb n 20) refl
  where
    go : (t : Bool) → ltb n 20 ≡ t → SchemaHeld x.schema
    go true q = let r = ready.0 p q in schema-held x.schema rs r.held r.fits
    go false q = (ready.1 p q).schema

pub nodes_read : (rs : List Row) (x : Areas) → GraphReady rs x → NodesHeld x.nodes
nodes_read rs x r = subst NodesHeld (sym r.nodes) (nodes_held (length x.nodes) rs r.nodes_long r.fits r.formed)

pub properties-read : (rs : List Row) (x : Areas) → GraphReady rs x → PropertiesHeld x.properties x.values
properties-read rs x r =
    subst₂ PropertiesHeld (sym r.properties) (sym r.values)
    (properties-held (length x.properties) (length x.values) rs r.properties_long r.values_long r.fits r.formed)

edges-counted : (rs : List Row) (x : Areas) → GraphReady rs x → cell x.nodes 1 ≡ counted 8 rs
edges-counted rs x r = ap (λ (l : List ℕ). cell l 1) r.nodes ∙ edge_count (length x.nodes) rs r.nodes_long r.fits

properties-counted : (rs : List Row) (x : Areas) → GraphReady rs x → cell x.properties 0 ≡ counted 9 rs
properties-counted rs x r =
    ap (λ (l : List ℕ). cell l 0) r.properties ∙ property-count (length x.properties) rs r.properties_long r.fits

-- ---- at a line

one-counted : (k : ℕ) (r : Row) (rs : List Row) → belongs k r ≡ true → counted k (r ∷ rs) ≡ suc (counted k rs)
unfolding counted
one-counted k r rs h = rw h

fewer : (k : ℕ) (ps rs : List Row) → counted k ps ≤ counted k (ps ++ rs)
fewer k ps rs = omega (arith, counted-append k ps rs)

module _ {n : ℕ} {s : List ℕ} {x : Areas} {here : ℕ} {c : Counts} (g : Going n s x here c) (h : here < length s) {r : Read}
    (e : r ≡ row_at s here) (ready : Ready n (rows s) x) where
  abbrev now : Row
  now = row (line_at s here)

  abbrev rest : List Row
  rest = rows (drop (next_at s here) s)

  is_whole : r ≡ whole now (next_at s here)
  is_whole = read_here g h e

  all-rows : rows s ≡ g.ps ++ now ∷ rest
  all-rows = rows_split g h e

  letter_is : r.letter ≡ now.letter
  unfolding whole
  letter_is = ap (λ (q : Read). q.letter) is_whole

  nums_are : r.nums ≡ padded 12 now.numbers
  unfolding whole
  nums_are = ap (λ (q : Read). q.nums) is_whole

  nums-long : length r.nums ≡ 12
  nums-long = ap length nums_are ∙ padded-length 12 now.numbers

  count_small : r.count ≤ length s
  unfolding whole
  count_small =
      let c1 : r.count ≡ length now.numbers = ap (λ (q : Read). q.count) is_whole in
      let t1 = ap (sum_of (λ (q : Row). length q.numbers)) all-rows in
      let t2 = sum_append (λ (q : Row). length q.numbers) g.ps (now ∷ rest) in
      omega (arith, rows_numbers s)

  few-here : GraphReady (rows s) x → get_or r.nums 3 0 ≤ 4
  few-here gr =
      let each = subst (λ (l : List Row). Each (λ q. at q 3 ≤ 4) l) all-rows gr.few in
      let k : at now 3 ≤ 4 = each-there (λ q. at q 3 ≤ 4) g.ps now rest each in
      let t : get_or r.nums 3 0 ≡ at now 3 =
      ap (λ (l : List ℕ). get_or l 3 0) nums_are ∙ padded-at 12 now.numbers 3 (omega arith) in
      omega arith

  -- this line is one more property than those before it
  place_here : GraphReady (rows s) x → r.letter ≡ P → c.properties < cell x.properties 0
  unfolding counts_of belongs
  place_here gr q =
      let is : belongs 9 now ≡ true = eq-eqb now.letter P (sym letter_is ∙ q) in
      let c1 : c.properties ≡ counted 9 g.ps = ap (λ (w : Counts). w.properties) g.counts in
      let c2 = properties-counted (rows s) x gr in
      let c3 = ap (counted 9) all-rows in
      omega (arith, counted-append 9 g.ps (now ∷ rest), one-counted 9 now rest is)

  graph-testable : GraphReady (rows s) x → GraphTestable x c r
  graph-testable gr =
      record {
        schema = gr.schema;
        masks = gr.masks;
        nodes = nodes_read (rows s) x gr;
        properties = properties-read (rows s) x gr;
        most = gr.values_most;
        long = nums-long;
        few = few-here gr;
        place = place_here gr;
      }

  within_small : length s ≤ 65535 → Within 65535 c
  within_small l =
      let w = within-here g h e in
      record {
        types = omega (arith, w.types);
        fields = omega (arith, w.fields);
        args = omega (arith, w.args);
        has = omega (arith, w.has);
        takes = omega (arith, w.takes);
        members = omega (arith, w.members);
        nodes = omega (arith, w.nodes);
        edges = omega (arith, w.edges);
        properties = omega (arith, w.properties);
        values = omega (arith, w.values);
        lines = omega (arith, w.lines);
      }

  pub testable : length s ≤ 65535 → Testable n x c r
  unfolding Ready
  testable l =
      record {
        long = nums-long;
        count = omega (arith, count_small);
        counts = within_small l;
        schema = schema-read n (rows s) x ready;
        graph = λ p q. graph-testable (ready.1 p q);
      }

  -- ---- an earlier line

  -- as many earlier lines of a kind as have been counted stand in its table
  counted-within : (k : ℕ) → counted k g.ps ≤ counted k (rows s)
  counted-within k = subst (λ (l : List Row). counted k g.ps ≤ counted k l) (sym all-rows) (fewer k g.ps (now ∷ rest))

  edges-within : GraphReady (rows s) x → (j : ℕ) → j < c.edges → j < cell x.nodes 1
  unfolding counts_of
  edges-within gr j k =
      let c1 : c.edges ≡ counted 8 g.ps = ap (λ (w : Counts). w.edges) g.counts in
      omega (arith, counted-within 8, edges-counted (rows s) x gr)

  properties-within : GraphReady (rows s) x → (j : ℕ) → j < c.properties → j < cell x.properties 0
  unfolding counts_of
  properties-within gr j k =
      let c1 : c.properties ≡ counted 9 g.ps = ap (λ (w : Counts). w.properties) g.counts in
      omega (arith, counted-within 9, properties-counted (rows s) x gr)

  -- of 13: the pair stands inside the schema's area
  pair-within : SchemaReady (rows s) x → (j : ℕ) → j < pair_count c r.letter
      → (pair_base r.letter + 3 * j + 2 < length x.schema) × (j < 1024)
  unfolding counts_of pair_count pair_base
  pair-within sr j k = go (eqb r.letter H) (eqb r.letter G) (eqb r.letter M) refl refl refl
    where
      l : links_end ≤ length x.schema
      l = sr.held.long

      hc : c.has ≤ 1024
      hc = let q = ap (λ (w : Counts). w.has) g.counts in omega (arith, counted-within 4, sr.fits.has)

      gc : c.takes ≤ 1024
      gc = let q = ap (λ (w : Counts). w.takes) g.counts in omega (arith, counted-within 5, sr.fits.takes)

      mc : c.members ≤ 1024
      mc = let q = ap (λ (w : Counts). w.members) g.counts in omega (arith, counted-within 6, sr.fits.members)

      go : (a b d : Bool) → eqb r.letter H ≡ a → eqb r.letter G ≡ b → eqb r.letter M ≡ d
          → (pair_base r.letter + 3 * j + 2 < length x.schema) × (j < 1024)
      go true b d p q w = let y : j < c.has = simp p at k in simp p (omega (arith, l, hc), omega (arith, hc))
      go false true d p q w = let y : j < c.takes = simp (p, q) at k in simp (p, q) (omega (arith, l, gc), omega (arith, gc))
      go false false true p q w =
          let y : j < c.members = simp (p, q, w) at k in
          simp (p, q) (omega (arith, l, mc), omega (arith, mc))
      go false false false p q w = let y : j < 0 = simp (p, q, w) at k in absurd (omega arith)

  -- and among the pairs that the area holds
  pair-among : SchemaReady (rows s) x → (j : ℕ) → j < pair_count c r.letter → j < pair_rows x.schema r.letter
  unfolding counts_of pair_count pair_rows
  pair-among sr j k = go (eqb r.letter H) (eqb r.letter G) (eqb r.letter M) refl refl refl
    where
      held : {t head base : ℕ} → SchemaTable t head base → cell x.schema head ≡ counted t (rows s)
      held {head = head} t =
          schema-count x.schema (rows s) sr.held sr.fits t

      go : (a b d : Bool) → eqb r.letter H ≡ a → eqb r.letter G ≡ b → eqb r.letter M ≡ d
          → j < cell x.schema (cond (eqb r.letter H) 3 (cond (eqb r.letter G) 4 5))
      go true b d p q w =
          let y : j < c.has = simp p at k in
          let n = ap (λ (z : Counts). z.has) g.counts in
          simp p (omega (arith, counted-within 4, held has_table))
      go false true d p q w =
          let y : j < c.takes = simp (p, q) at k in
          let n = ap (λ (z : Counts). z.takes) g.counts in
          simp (p, q) (omega (arith, counted-within 5, held takes-table))
      go false false true p q w =
          let y : j < c.members = simp (p, q, w) at k in
          let n = ap (λ (z : Counts). z.members) g.counts in
          simp (p, q) (omega (arith, counted-within 6, held member_table))
      go false false false p q w = let y : j < 0 = simp (p, q, w) at k in absurd (omega arith)

  pub paired : n ≡ 13 → (j : ℕ) → j < limit n x c r → j < pair_rows x.schema r.letter
  unfolding limit Ready plain_check
  paired q j k = pair-among (ready.0 (rw q) (rw q)) j (rw q at k)

  -- what a clash with the j-th earlier line asks, check by check
  clash_13 : SchemaReady (rows s) x → (j : ℕ) → j < pair_count c r.letter → Clashable 13 x r j
  clash_13 sr j k =
      record {
        long = nums-long;
        pair = λ _. pair-within sr j k;
        edge = λ no. absurd (no refl);
        inside = λ no _. absurd (no refl);
        within = λ no _ _. absurd (no refl);
      }

  clash-graph : (m : ℕ) → (m ≡ 13 → ⊥) → GraphReady (rows s) x → (j : ℕ) → ((m ≡ 25) ⊎ (r.letter ≡ E) → j < c.edges)
      → ((m ≡ 25 → ⊥) → (r.letter ≡ E → ⊥) → j < c.properties) → Clashable m x r j
  clash-graph m not13 gr j edge property =
      record {
        long = nums-long;
        pair = λ q. absurd (not13 q);
        edge = λ _. (nodes_read (rows s) x gr, properties-read (rows s) x gr, few-here gr);
        inside = λ _ q. edges-within gr j (edge q);
        within = λ _ a b. properties-within gr j (property a b);
      }

-- the limit of 25 and 26, taken apart
edge-limit : (b : Bool) (m j : ℕ) → j < cond b m 0 → j < m
edge-limit true m j k = k
edge-limit false m j k = absurd (omega arith)

module _ (x : Areas) (c : Counts) (r : Read) where
  -- of 25 whether the line can clash, and the limit of 26
  abbrev single : Bool
  single =
      let owner = (nodes_at x.nodes).type_of (get_or r.nums 0 0) in
      eqb r.letter E && not (is_list (schema_at x.schema) owner (field_no (get_or r.nums 1 0)))

  abbrev datum : ℕ
  datum = cond (eqb r.letter E) c.edges (cond (eqb r.letter P) c.properties 0)

  datum-edge : (j : ℕ) → j < datum → r.letter ≡ E → j < c.edges
  datum-edge j k q = simp (eq-eqb r.letter E q) at k

  datum-property : (j : ℕ) → j < datum → (r.letter ≡ E → ⊥) → j < c.properties
  datum-property j k q = edge-limit (eqb r.letter P) c.properties j (simp (ne_eqb r.letter E q) at k)

pub clashable : {n : ℕ} {s : List ℕ} {x : Areas} {here : ℕ} {c : Counts} (g : Going n s x here c) → here < length s → {r : Read}
    → r ≡ row_at s here → Searched n → Ready n (rows s) x → (j : ℕ) → j < limit n x c r → Clashable n x r j
unfolding limit Ready plain_check
clashable g h e by_11 ready j k = absurd (omega arith)
clashable g h e by_12 ready j k = absurd (omega arith)
clashable g h e by_13 ready j k = clash_13 g h e ready (ready.0 refl refl) j k
clashable g h e by_14 ready j k = absurd (omega arith)
clashable g h e by_15 ready j k = absurd (omega arith)
clashable g h e by_21 ready j k = absurd (omega arith)
clashable g h e by_22 ready j k = absurd (omega arith)
clashable g h e by_23 ready j k = absurd (omega arith)
clashable g h e by_24 ready j k = absurd (omega arith)
clashable {x = x} {c = c} g h {r} e by_25 ready j k =
    clash-graph g h e ready 25 (λ q. omega arith) (ready.1 refl refl) j
    (λ _. edge-limit (single x c r) c.edges j k) (λ no _. absurd (no refl))
clashable {x = x} {c = c} g h {r} e by_26 ready j k =
    clash-graph g h e ready 26 (λ q. omega arith) (ready.1 refl refl) j
    (elim [ inl q ↦ absurd (omega arith) | inr q ↦ datum-edge x c r j k q ]) (λ _ q. datum-property x c r j k q)
clashable g h e by_31 ready j k = absurd (omega arith)

-- the line can be held against the earlier ones
pub stepping : {n : ℕ} {s : List ℕ} {x : Areas} {here : ℕ} {c : Counts} (g : Going n s x here c) → here < length s → {r : Read}
    → r ≡ row_at s here → Searched n → Ready n (rows s) x → {i : List ℕ} → IndexReady n x.nodes x.properties i
    → Stepping n x i c r
unfolding plain_check
stepping {n} {x = x} g h e searched ready linked =
    record {
      clashable = clashable g h e searched ready;
      paired = paired g h e ready;
      pairs = record { held = λ q. schema-read n _ x ready (ap plain_check q) };
      ready = linked;
    }
