-- The first two checks of a text, its form and its maxima: how `judge_form` finds them, and what a text that passes them is.
-- Assumes nothing.
use Prim.Native.Nat.{ℕ, ◌+◌, ◌≤◌, ◌<◌}
use mathlib.Core.Path.{◌≡◌, refl, sym, ap, ◌∙◌}
use mathlib.Core.Bool.{Bool, true, false}
use mathlib.Core.List.{List, [], ◌∷◌, ◌++◌}
use Rattle.std.specs.Prelude.{None, Err}
use lib.Dec.{ltb}
use lib.ListN.{length}
use borrow.Author.Tests.{lt-ltb, le-ltb, ltb-false}
use Rattle.rules.specs.Text.{Row, rows, lines}
use Rattle.rules.specs.Search.{Check, first_line, spot}
use Rattle.rules.specs.Forms.{breaks, text_form}
use Rattle.rules.specs.Schema.{Schema}
use Rattle.rules.specs.Graph.{Graph}
use Rattle.rules.specs.Answer.{Numbered, ◌by◌}
use Rattle.rules.specs.Kinds.{first_check, forms_of, maxima_of}
use Rattle.rules.specs.declared.TextKind.{TextKind}
use Rattle.rules.specs.declared.TextKind.TheVariants.{Schema as SchemaText, Graph as GraphText, Query as QueryText}
use Rattle.rules.specs.declared.Refusal.{Refusal}
use Rattle.rules.proofs.Bools.{some-none}
use Rattle.rules.proofs.Clean.{Each, each_map}
use Rattle.tables.specs.Fill.{Plain, whole as whole_row}
use Rattle.form.proofs.Readable.{readable}
use Rattle.search.specs.Search.{Areas, check_by, Ready, IndexReady, plain_check, indexed}
use Rattle.checks.specs.Verdict.{Verdict, refused_by, accepted, judged, form_checks}
use Rattle.checks.proofs.Judging.{refusal, judged-at, judged-past, stops, Passes, passed, front, behind, ready-plain, not-indexed}

-- ---- the maxima: they are searched for at the number behind the form's, look at no area and walk no index

pub maxima-ready : (k : TextKind) (rs : List Row) (x : Areas) → Ready (first_check k + 1) rs x
unfolding plain_check
maxima-ready SchemaText rs x = ready-plain 11 rs x refl
maxima-ready GraphText rs x = ready-plain 21 rs x refl
maxima-ready QueryText rs x = ready-plain 31 rs x refl

pub maxima-not_indexed : (k : TextKind) (g p i : List ℕ) → IndexReady (first_check k + 1) g p i
unfolding indexed
maxima-not_indexed SchemaText g p i = not-indexed 11 g p i refl
maxima-not_indexed GraphText g p i = not-indexed 21 g p i refl
maxima-not_indexed QueryText g p i = not-indexed 31 g p i refl

maxima : (k : TextKind) (s : Schema) (g : Graph) → check_by (first_check k + 1) s g ≡ maxima_of k
unfolding check_by maxima_of
maxima SchemaText s g = refl
maxima GraphText s g = refl
maxima QueryText s g = refl

-- every line of a text that keeps its form can be read
plain_lines : (k : TextKind) (s : List ℕ) → text_form (forms_of k) s ≡ None → Each Plain (lines s)
unfolding whole_row
plain_lines kind s h = each_map _ Plain (λ l k. record { read = k }) (lines s) (readable kind s h)

-- ---- how the code finds them

module _ (k : TextKind) (s : List ℕ) where
  pub at_length : 65535 < length s → judged (form_checks k s) ≡ refused_by (first_check k) (spot 0 0)
  unfolding form_checks
  at_length h = judged-at (first_check k) (text_form (forms_of k) s) _ (spot 0 0) (rw (lt-ltb 65535 (length s) h))

-- The verdict v is that on the form of a text which is not too long.
pub record Forms (k : TextKind) (s : List ℕ) (v : Verdict) : Type 0 where
  pub short : length s ≤ 65535
  pub is : v ≡ judged (first_check k by first_line (breaks (forms_of k)) (lines s) ∷ [])

module _ {k : TextKind} {s : List ℕ} {v : Verdict} (e : Forms k s v) where
  form-is : text_form (forms_of k) s ≡ first_line (breaks (forms_of k)) (lines s)
  form-is = rw (le-ltb 65535 (length s) e.short)

  formed : v ≡ judged (first_check k by text_form (forms_of k) s ∷ [])
  formed = rw form-is e.is

  pub at-form : {r : Refusal} → v ≡ Err r → Err r ≡ judged (form_checks k s)
  unfolding form_checks
  at-form h = sym (stops (first_check k) (text_form (forms_of k) s) _ (sym formed ∙ h))

  module _ (h : v ≡ accepted) where
    kept : text_form (forms_of k) s ≡ None
    kept = (passed (first_check k by text_form (forms_of k) s ∷ []) (sym formed ∙ h)).0

    pub form-plain : Each Plain (lines s)
    form-plain = plain_lines k s kept

    pub at-maxima : (t : Schema) (g : Graph) {w : Verdict}
        → w ≡ judged ((first_check k + 1) by first_line (check_by (first_check k + 1) t g) (rows s) ∷ []) → w ≡ judged (form_checks k s)
    unfolding form_checks
    at-maxima t g f =
        f ∙ ap (λ (c : Check Row). judged ((first_check k + 1) by first_line c (rows s) ∷ [])) (maxima k t g)
        ∙ sym (judged-past (first_check k) (text_form (forms_of k) s) _ kept)

-- ---- what they say to the caller

-- What a text is that passes them.
pub record Opened (k : TextKind) (s : List ℕ) : Type 0 where
  pub short : length s ≤ 65535
  pub plain : Each Plain (lines s)
  pub formed : text_form (forms_of k) s ≡ None
  pub few : first_line (maxima_of k) (rows s) ≡ None

not-long : (k : TextKind) (s : List ℕ) → text_form (forms_of k) s ≡ None → length s ≤ 65535
not-long k s h = go (ltb 65535 (length s)) refl
  where
    go : (b : Bool) → ltb 65535 (length s) ≡ b → length s ≤ 65535
    go true e = absurd (some-none (rw e at h))
    go false e = ltb-false 65535 (length s) e

module _ (k : TextKind) (s : List ℕ) {v : Verdict} (e : v ≡ judged (form_checks k s)) where
  -- a refusal decides, whatever checks stand behind
  pub opening-refused : (later : List Numbered) {r : Refusal} → v ≡ Err r → v ≡ judged (form_checks k s ++ later)
  opening-refused later h = e ∙ sym (front (form_checks k s) later (λ z. refusal (sym h ∙ e ∙ z)))

  module _ (z : v ≡ accepted) where
    passes : Each Passes (form_checks k s)
    passes = passed (form_checks k s) (sym e ∙ z)

    pub opened : Opened k s
    unfolding form_checks
    opened =
        record { short = not-long k s passes.0; plain = plain_lines k s passes.0; formed = passes.0; few = passes.1.0 }

    -- otherwise the checks behind decide
    pub opening_past : (later : List Numbered) → judged (form_checks k s ++ later) ≡ judged later
    opening_past later = behind (form_checks k s) later passes
