-- The verdict on three texts from those on each. Assumes nothing.
use Prim.Native.Nat.{ℕ, ◌≤◌, ◌<◌}
use native.Mathlib.Omega.{arith}
use mathlib.Core.Path.{◌≡◌, refl, sym, ap, ◌∙◌, subst}
use mathlib.Core.Bool.{Bool, true, false, ◌||◌, or-false, true≢false}
use mathlib.Core.List.{List, ◌++◌}
use lib.Dec.{ltb}
use lib.ListN.{length, take}
use lib.Seq.{take_all, take-append-le, length-take-le}
use borrow.Author.Tests.{le-ltb, lt-ltb, ltb-false}
use Rattle.rules.specs.Text.{rows}
use Rattle.rules.specs.Search.{spot, whole}
use Rattle.rules.specs.Schema.{Schema, schema_of}
use Rattle.rules.specs.Answer.{Texts, schema_in, schema_checks, graph_checks, query_checks}
use Rattle.rules.proofs.Clean.{Each}
use Rattle.tables.specs.Layout.{node_area, property_area, value_area, query_area}
use Rattle.masks.specs.Masks.{schema_needed, schema_area, MembersSound, Masked}
use Rattle.masks.proofs.Agreeing.{area_view}
use Rattle.tables.specs.Read.{schema_at}
use Rattle.tables.specs.Fill.{SchemaFits}
use Rattle.index.specs.Index.{index_area}
use Rattle.schema.specs.Held.{SchemaHeld}
use Rattle.std.specs.Prelude.{Err}
use Rattle.rules.specs.declared.Refusal.{Refusal}
use Rattle.checks.specs.Verdict.{Verdict, refused_by, accepted, judged, text_checks, SchemaJudged}
use Rattle.checks.proofs.Judging.{refusal, no_refusal, judged-at, judged-past, passed, front, behind}
pub use Rattle.checks.proofs.Judging.{Passes}
use Rattle.checks.proofs.Fitting.{schema-fits, members_sound}
use Rattle.checks.proofs.SchemaJudging.{area_ready}
use Rattle.graph_text.specs.GraphVerdict.{GraphJudged}
use Rattle.query_text.specs.QueryVerdict.{QueryJudged}
use Rattle.judge.specs.Texts.{texts, Lent, lent, work_areas, too_short_of, Judged}

-- ---- the areas

-- areas none of which is too short
pub record Long (w : Lent) : Type 0 where
  pub schema : schema_needed ≤ length w.schema
  pub nodes : 15880 ≤ length w.nodes
  pub properties : 14344 ≤ length w.properties
  pub values : 8200 ≤ length w.values
  pub index : 3072 ≤ length w.index
  pub query : 3592 ≤ length w.query

pub enough : (w : Lent) → Long w → too_short_of w ≡ false
unfolding too_short_of work_areas
enough w long =
    rw (
      le-ltb (length w.schema) schema_needed long.schema,
      le-ltb (length w.nodes) 15880 long.nodes,
      le-ltb (length w.properties) 14344 long.properties,
      le-ltb (length w.values) 8200 long.values,
      le-ltb (length w.index) 3072 long.index,
      le-ltb (length w.query) 3592 long.query,
    )

both : (a b : Bool) → (a || b) ≡ false → (a ≡ false) × (b ≡ false)
both true b h = absurd (true≢false h)
both false b h = (refl, h)

pub long-areas : (w : Lent) → too_short_of w ≡ false → Long w
unfolding too_short_of work_areas
long-areas w h =
    let a = both _ _ h in
    let g = both _ _ a.1 in
    let p = both _ _ g.1 in
    let v = both _ _ p.1 in
    let x = both _ _ v.1 in
    let q = both _ _ x.1 in
    record {
      schema = ltb-false _ _ a.0;
      nodes = ltb-false _ _ g.0;
      properties = ltb-false _ _ p.0;
      values = ltb-false _ _ v.0;
      index = ltb-false _ _ x.0;
      query = ltb-false _ _ q.0;
    }

-- the first area that is too short
module _ (w : Lent) where
  pub short-schema : length w.schema < schema_needed → true ≡ too_short_of w
  unfolding too_short_of work_areas
  short-schema h = rw (lt-ltb (length w.schema) schema_needed h)

  module _ (a : schema_needed ≤ length w.schema) where
    pub short_nodes : length w.nodes < 15880 → true ≡ too_short_of w
    unfolding too_short_of work_areas
    short_nodes h = rw (le-ltb (length w.schema) schema_needed a, lt-ltb (length w.nodes) 15880 h)

    module _ (g : 15880 ≤ length w.nodes) where
      pub short-properties : length w.properties < 14344 → true ≡ too_short_of w
      unfolding too_short_of work_areas
      short-properties h =
          rw (le-ltb (length w.schema) schema_needed a, le-ltb (length w.nodes) 15880 g, lt-ltb (length w.properties) 14344 h)

      module _ (p : 14344 ≤ length w.properties) where
        pub short-values : length w.values < 8200 → true ≡ too_short_of w
        unfolding too_short_of work_areas
        short-values h =
            rw (
              le-ltb (length w.schema) schema_needed a,
              le-ltb (length w.nodes) 15880 g,
              le-ltb (length w.properties) 14344 p,
              lt-ltb (length w.values) 8200 h,
            )

        module _ (v : 8200 ≤ length w.values) where
          pub short_index : length w.index < 3072 → true ≡ too_short_of w
          unfolding too_short_of work_areas
          short_index h =
              rw (
                le-ltb (length w.schema) schema_needed a,
                le-ltb (length w.nodes) 15880 g,
                le-ltb (length w.properties) 14344 p,
                le-ltb (length w.values) 8200 v,
                lt-ltb (length w.index) 3072 h,
              )

          pub short-query : 3072 ≤ length w.index → ltb (length w.query) 3592 ≡ too_short_of w
          unfolding too_short_of work_areas
          short-query x =
              rw (
                le-ltb (length w.schema) schema_needed a,
                le-ltb (length w.nodes) 15880 g,
                le-ltb (length w.properties) 14344 p,
                le-ltb (length w.values) 8200 v,
                le-ltb (length w.index) 3072 x,
                or-false (ltb (length w.query) 3592),
              )

-- ---- the texts

module _ (s g q : List ℕ) (w : Lent) (long : too_short_of w ≡ false) where
  abbrev x : Texts
  x = texts s g q

  abbrev t : Schema
  t = schema_of (rows s)

  past_2 : judged (text_checks (too_short_of w) x) ≡ judged (schema_checks s ++ (graph_checks t g ++ query_checks t q))
  unfolding text_checks texts
  past_2 = judged-past 2 (whole (too_short_of w)) _ (rw long)

  module _ {n : ℕ} {a : List ℕ} {b : Verdict} (j : SchemaJudged s n a b) where
    pub schema-refused : {after : Lent} {r : Refusal} → b ≡ Err r → Judged x w after (Err r)
    schema-refused h =
        record {
          is = sym h ∙ j.is ∙ sym (past_2 ∙ front (schema_checks s) _ (λ z. refusal (sym h ∙ j.is ∙ z)));
          held = λ z. absurd (refusal z);
        }

    module _ (room : schema_needed ≤ n) (z : b ≡ accepted) where
      passes : Each Passes (schema_checks s)
      passes = passed (schema_checks s) (sym j.is ∙ z)

      fits : SchemaFits (rows s)
      fits = schema-fits (rows s) passes.1.0

      sound : MembersSound t
      sound = members_sound (rows s) fits passes.1.1.0

      -- the area can be read, with its masks
      pub held-schema : SchemaHeld a × Masked a
      held-schema =
          subst (λ (b : List ℕ). SchemaHeld b × Masked b) (sym (j.held z)) (area_ready n (rows s) room fits sound)

      same-schema : schema_at a ≡ t
      same-schema = ap schema_at (j.held z) ∙ area_view n (rows s) room fits

      past-schema : judged (text_checks (too_short_of w) x) ≡ judged (graph_checks (schema_at a) g ++ query_checks (schema_at a) q)
      past-schema =
          past_2
          ∙ behind (schema_checks s) _ passes
          ∙ ap (λ (u : Schema). judged (graph_checks u g ++ query_checks u q)) (sym same-schema)

      module _ {k l m o : ℕ} {ns ps vs xs : List ℕ} {c : Verdict} (i : GraphJudged (schema_at a) g k l m o ns ps vs xs c) where
        pub graph-refused : {after : Lent} {r : Refusal} → c ≡ Err r → Judged x w after (Err r)
        graph-refused h =
            record {
              is = sym h ∙ i.is ∙ sym (past-schema ∙ front (graph_checks (schema_at a) g) _ (λ y. refusal (sym h ∙ i.is ∙ y)));
              held = λ y. absurd (refusal y);
            }

        module _ (y : c ≡ accepted) where
          passes-graph : Each Passes (graph_checks (schema_at a) g)
          passes-graph = passed (graph_checks (schema_at a) g) (sym i.is ∙ y)

          past-graph : judged (text_checks (too_short_of w) x) ≡ judged (query_checks (schema_at a) q)
          past-graph = past-schema ∙ behind (graph_checks (schema_at a) g) _ passes-graph

          pub all-accepted : {h : ℕ} {qs : List ℕ} {r : Verdict} → QueryJudged (schema_at a) q h qs r → n ≡ length w.schema
              → k ≡ length w.nodes → l ≡ length w.properties → m ≡ 8200 → o ≡ length w.index
              → h ≡ length w.query → Judged x w (lent a ns ps vs xs qs) r
          unfolding lent texts
          all-accepted u en ek el em eo eh =
              let needed = take_all 8200 vs (omega (arith, i.long.2, em)) in
              record {
                is = u.is ∙ sym past-graph;
                held = λ f. record {
                  schema = j.held z ∙ ap (λ (d : ℕ). schema_area d (rows s)) en;
                  nodes = (i.held y).0 ∙ ap (λ (d : ℕ). node_area d (rows g)) ek;
                  properties = (i.held y).1 ∙ ap (λ (d : ℕ). property_area d (rows g)) el;
                  values = needed ∙ (i.held y).2 ∙ ap (λ (d : ℕ). value_area d (rows g)) em;
                  index = (i.held y).3 ∙ ap (λ (d : ℕ). index_area d (rows g)) eo;
                  query = u.held f ∙ ap (λ (d : ℕ). query_area d (rows q)) eh;
                };
              }

-- ---- the call that has no condition

module _ (s g q : List ℕ) (w : Lent) where
  pub too_short_lem : (after : Lent) (v : Verdict) → too_short_of w ≡ true → v ≡ refused_by 2 (spot 0 0) → Judged (texts s g q) w after v
  unfolding text_checks
  too_short_lem after v h e =
      record {
        is = e ∙ sym (judged-at 2 (whole (too_short_of w)) _ (spot 0 0) (rw h));
        held = λ z. absurd (no_refusal 2 (spot 0 0) (sym e ∙ z));
      }

-- of the values' area the needed part is lent, and stands at the front afterwards
pub widened : (s g q a ns ps vs xs qs b ms os u ys us rest : List ℕ) (r : Verdict) → too_short_of (lent a ns ps vs xs qs) ≡ false
    → length u ≡ 8200 → Judged (texts s g q) (lent a ns ps (take 8200 vs) xs qs) (lent b ms os u ys us) r
    → Judged (texts s g q) (lent a ns ps vs xs qs) (lent b ms os (u ++ rest) ys us) r
unfolding lent texts
widened s g q a ns ps vs xs qs b ms os u ys us rest r h l j =
    let w = lent a ns ps vs xs qs in
    let long : Long w = long-areas w h in
    let part : length (take 8200 vs) ≡ 8200 = length-take-le 8200 vs long.values in
    let narrow : too_short_of (lent a ns ps (take 8200 vs) xs qs) ≡ false =
    enough (lent a ns ps (take 8200 vs) xs qs)
    (record {
      schema = long.schema;
      nodes = long.nodes;
      properties = long.properties;
      values = omega arith;
      index = long.index;
      query = long.query;
    }) in
    record {
      is = j.is ∙ ap (λ (d : Bool). judged (text_checks d (texts s g q))) (narrow ∙ sym h);
      held = λ z.
          let k = j.held z in
          record {
            schema = k.schema;
            nodes = k.nodes;
            properties = k.properties;
            values = take-append-le 8200 u rest (omega arith) ∙ k.values;
            index = k.index;
            query = k.query;
          };
    }

-- an accepted verdict passes every check
pub accepted-passes : (x : Texts) (before after : Lent) (v : Verdict) → Judged x before after v → v ≡ accepted
    → Each Passes (text_checks (too_short_of before) x)
accepted-passes x before after v j z = passed (text_checks (too_short_of before) x) (sym j.is ∙ z)
