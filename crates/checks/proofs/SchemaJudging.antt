-- The verdict on a schema's text. Assumes nothing.
use Prim.Native.Nat.{ℕ, ◌≤◌}
use native.Mathlib.Omega.{arith}
use mathlib.Core.Path.{◌≡◌, sym, ap, ◌∙◌, subst}
use mathlib.Core.List.{List, [], ◌∷◌}
use lib.ListN.{length}
use borrow.Author.Tests.{eq-eqb, ne_eqb}
use Rattle.rules.specs.Lists.{those}
use Rattle.rules.specs.Text.{Row, rows, Q}
use Rattle.rules.specs.Search.{first_line, spot}
use Rattle.rules.specs.Schema.{Schema, schema_of, is, check12, check13, check14, check15, check16}
use Rattle.rules.specs.Answer.{◌by◌, schema_checks}
use Rattle.tables.specs.Layout.{schema_head}
use Rattle.index.specs.Buckets.{schema_linked, SchemaStands}
use Rattle.tables.specs.Fill.{SchemaFits}
use Rattle.tables.specs.Read.{cell, schema_at}
use Rattle.index.proofs.Views.{schema-view, schema-head}
use Rattle.masks.specs.Masks.{schema_needed, member_of, MembersSound, masked, schema_area, Masked}
use Rattle.masks.specs.Join.{Maskable}
use Rattle.masks.proofs.Agreeing.{linked-length, linked-here, linked_maskable, masks_laid}
use Rattle.masks.proofs.Agreeing.{area_length, area_stands, area_masked}
use Rattle.schema.specs.Held.{SchemaHeld}
use Rattle.rules.specs.Kinds.{forms_of, maxima_of}
use Rattle.rules.specs.declared.TextKind.TheVariants.{Schema as TextSchema}
use Rattle.search.specs.Search.{areas, graph_in, check_by, SchemaReady}
use Rattle.search.proofs.Calls.{schema-held}
use Rattle.checks.specs.Verdict.{Verdict, refused_by, accepted, judged, form_checks, later_schema, SchemaJudged}
use Rattle.rules.specs.declared.Refusal.{Refusal}
use Rattle.std.specs.Prelude.{Err}
use Rattle.checks.proofs.Judging.{refusal, judged-at, judged-past, judged-none, passed, Left}
use Rattle.checks.proofs.Opening.{Opened, opened, opening-refused, opening_past}
use Rattle.checks.proofs.Fitting.{schema-fits, members_sound}

-- ---- 12 to 16, of a schema that is laid out

-- of checks 12 to 16, these and 16 are left
abbrev pub SchemaLeft : List ℕ → List ℕ → List ℕ → Type 0
SchemaLeft s a ns =
    Left (λ n. check_by n (schema_at a) (graph_in (areas a [] [] []))) (rows s) (16 by check16 (rows s) ∷ []) (judged (later_schema s)) ns

module _ (s a : List ℕ) (ready : SchemaReady (rows s) (areas a [] [] [])) where
  view : schema_at a ≡ schema_of (rows s)
  unfolding areas
  view = schema-view a (rows s) ready.held ready.fits

  -- the area states the schema of the rows, so that the search in it finds what the rules find
  pub all_left : SchemaLeft s a (12 ∷ 13 ∷ 14 ∷ 15 ∷ [])
  unfolding check_by later_schema
  all_left =
      let stated : Schema → Verdict = λ t. let rs = rows s in
      judged
      (12 by first_line (check12 t) rs
      ∷ 13 by first_line check13 rs
      ∷ 14 by first_line (check14 t) rs
      ∷ 15 by first_line (check15 t) rs
      ∷ 16 by check16 rs
      ∷ []) in
      record { is = sym (ap stated view) }

  -- the count of the Q records stands in the head
  queries : cell a 6 ≡ length (those (is Q) (rows s))
  unfolding areas schema_head
  queries = schema-head a (rows s) ready.held ready.fits 6 (omega arith)

  module _ (left : SchemaLeft s a []) where
    pub at_16 : {v : Verdict} → (cell a 6 ≡ 1 → ⊥) → v ≡ refused_by 16 (spot 0 0) → v ≡ judged (later_schema s)
    at_16 h e =
        let offends = ne_eqb (length (those (is Q) (rows s))) 1 (λ q. h (queries ∙ q)) in
        e ∙ sym (left.is ∙ judged-at 16 (check16 (rows s)) [] (spot 0 0) (rw offends))

    pub past_16 : cell a 6 ≡ 1 → accepted ≡ judged (later_schema s)
    past_16 h =
        let passes = eq-eqb (length (those (is Q) (rows s))) 1 (sym queries ∙ h) in
        sym (left.is ∙ judged-past 16 (check16 (rows s)) [] (rw passes) ∙ judged-none)

-- ---- 10 and 11, and the whole

pub fits_11 : (s : List ℕ) → Opened TextSchema s → SchemaFits (rows s)
unfolding maxima_of
fits_11 s o = schema-fits (rows s) o.few

-- the area laid out can be searched
pub laid-ready : (s a : List ℕ) (n : ℕ) → schema_needed ≤ n → Opened TextSchema s → a ≡ schema_linked n (rows s)
    → SchemaReady (rows s) (areas a [] [] [])
unfolding areas
laid-ready s a n l o e =
    record {
      fits = fits_11 s o;
      held = subst (λ (b : List ℕ). SchemaStands b (rows s)) (sym e) (linked-here n (rows s) l (fits_11 s o));
    }

-- and that of an accepted schema read, with its masks
pub area_ready : (n : ℕ) (rs : List Row) → schema_needed ≤ n → SchemaFits rs → MembersSound (schema_of rs)
    → SchemaHeld (schema_area n rs) × Masked (schema_area n rs)
area_ready n rs room fits sound = (schema-held (schema_area n rs) rs (area_stands n rs room fits) fits, area_masked n rs room fits sound)

module _ (s area : List ℕ) (n : ℕ) {b : Verdict} (form : b ≡ judged (form_checks TextSchema s)) where
  pub refused : length area ≡ n → {r : Refusal} → b ≡ Err r → SchemaJudged s n area (Err r)
  unfolding forms_of form_checks maxima_of later_schema
  refused l {r} h = record { is = sym h ∙ opening-refused TextSchema s form (later_schema s) h; long = l; held = λ z. absurd (refusal z) }

-- The area a, of length n, laid out of a text on which the verdict by 10 and 11 is b, and the verdict v on its rows.
pub record RowsJudged (s : List ℕ) (n : ℕ) (a : List ℕ) (b v : Verdict) : Type 0 where
  pub form : b ≡ judged (form_checks TextSchema s)
  pub kept : b ≡ accepted
  pub room : schema_needed ≤ n
  pub laid : a ≡ schema_linked n (rows s)
  pub is : v ≡ judged (later_schema s)

module _ {s : List ℕ} {n : ℕ} {a : List ℕ} {b v : Verdict} (j : RowsJudged s n a b v) where
  fits : SchemaFits (rows s)
  fits = fits_11 s (opened TextSchema s j.form j.kept)

  -- the verdict on the rows is the whole one
  whole : v ≡ judged (schema_checks s)
  unfolding forms_of form_checks maxima_of later_schema
  whole = j.is ∙ sym (opening_past TextSchema s j.form j.kept (later_schema s))

  pub refused-rows : {r : Refusal} → v ≡ Err r → SchemaJudged s n a (Err r)
  refused-rows h =
      record { is = sym h ∙ whole; long = ap length j.laid ∙ linked-length n (rows s) j.room fits; held = λ y. absurd (refusal y) }

  module _ (y : v ≡ accepted) where
    sound : MembersSound (schema_of (rows s))
    unfolding later_schema
    sound = members_sound (rows s) fits (passed (later_schema s) (sym j.is ∙ y)).0

    -- the masks can be laid
    pub laid_maskable : Maskable a
    laid_maskable = subst Maskable (sym j.laid) (linked_maskable n (rows s) j.room fits sound)

    pub accepted-rows : (area : List ℕ) → area ≡ masked (member_of (schema_at a)) a → SchemaJudged s n area accepted
    accepted-rows area e =
        let linked : area ≡ masked (member_of (schema_at (schema_linked n (rows s)))) (schema_linked n (rows s)) =
        e ∙ ap (λ (x : List ℕ). masked (member_of (schema_at x)) x) j.laid in
        let held = masks_laid n (rows s) j.room fits area linked in
        record { is = sym y ∙ whole; long = ap length held ∙ area_length n (rows s) j.room fits; held = λ _. held }
