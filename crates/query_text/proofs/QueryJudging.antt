-- The verdict on a query's text. Assumes nothing.
use Prim.Native.Nat.{ℕ, zero, suc, ◌≤◌}
use mathlib.Core.Path.{◌≡◌, refl, sym, ap, ◌∙◌, subst}
use mathlib.Core.Bool.{Bool, true, false, cond}
use lib.Dec.{eqb}
use mathlib.Core.List.{List, [], ◌∷◌, map}
use Rattle.std.specs.Prelude.{None, Err}
use lib.ListN.{length}
use Rattle.rules.specs.Lists.{is_empty, count_up}
use Rattle.rules.specs.Text.{Row, rows}
use Rattle.rules.specs.Search.{Check, first_line, spot, whole, or_else}
use Rattle.rules.specs.Forms.{text_form, query_forms}
use Rattle.rules.specs.Schema.{Schema}
use Rattle.rules.specs.Query.{depth, steps, check32, check33, check34}
use Rattle.rules.specs.Answer.{◌by◌}
use Rattle.rules.proofs.Clean.{Each}
use Rattle.tables.specs.Layout.{query_area}
use Rattle.tables.specs.Read.{cell}
use Rattle.rules.specs.Kinds.{forms_of, maxima_of}
use Rattle.rules.specs.declared.TextKind.TheVariants.{Query}
use Rattle.rules.specs.declared.Refusal.{Refusal}
use Rattle.query.specs.Entries.{QueryHeld, entry_at, entries_from, entries_at}
use Rattle.query.specs.Faults.{entry_number, check_for}
use Rattle.query.specs.declared.EntryCheck.{EntryCheck}
use Rattle.query.specs.declared.EntryCheck.TheVariants.{Depths, Numbers, Validity}
use Rattle.checks.specs.Verdict.{Verdict, refused_by, accepted, judged, form_checks}
use Rattle.checks.proofs.Judging.{refusal, judged-at, Left, stop, pass}
use Rattle.checks.proofs.Opening.{Opened, opened, opening-refused, opening_past}
use Rattle.checks.proofs.Fitting.{query-fits, query-few}
use Rattle.checks.proofs.Entering.{shown, query-length, query-entries, query-held, query-formed, query_search}
use Rattle.query_text.specs.QueryVerdict.{entry_checks, QueryJudged}

-- ---- 32 to 34, of entries

-- the entries of an area are empty where it counts none
counted_none : (q : List ℕ) → cell q 0 ≡ 0 → is_empty (entries_at q) ≡ true
unfolding entries_at entries_from
counted_none q h = ap (λ (n : ℕ). is_empty (map (entry_at q) (count_up 0 n))) h

counted-some : (q : List ℕ) → (cell q 0 ≡ 0 → ⊥) → is_empty (entries_at q) ≡ false
unfolding entries_at entries_from
counted-some q h = go (cell q 0) refl
  where
    go : (n : ℕ) → cell q 0 ≡ n → is_empty (map (entry_at q) (count_up 0 n)) ≡ false
    go zero e = absurd (h e)
    go (suc n) e = refl

-- the check with each number
abbrev by_number : Schema → ℕ → Check Row
by_number s n = cond (eqb n 32) steps (cond (eqb n 33) (check33 s) (check34 s))

-- of checks 32 to 34, these are left
abbrev pub EntriesLeft : Schema → List ℕ → List ℕ → Type 0
EntriesLeft s q ns = Left (by_number s) (entries_at q) [] (judged (entry_checks s (entries_at q))) ns

module _ (s : Schema) (q : List ℕ) where
  abbrev es : List Row
  es = entries_at q

  pub no_entry : {v : Verdict} → cell q 0 ≡ 0 → v ≡ refused_by 32 (spot 0 0) → v ≡ judged (entry_checks s es)
  unfolding entry_checks
  no_entry h e =
      let offends = ap (λ (b : Bool). or_else (whole b) (first_line steps es)) (counted_none q h) in
      e ∙ sym (judged-at 32 (check32 es) _ (spot 0 0) offends)

  -- where there is an entry, 32 is its search
  pub all_left : (cell q 0 ≡ 0 → ⊥) → EntriesLeft s q (32 ∷ 33 ∷ 34 ∷ [])
  unfolding entry_checks
  all_left h =
      let stated : Bool → Verdict = λ b.
      judged
      (32 by or_else (whole b) (first_line steps es)
      ∷ 33 by first_line (check33 s) es
      ∷ 34 by first_line (check34 s) es
      ∷ []) in
      record { is = ap stated (counted-some q h) }

  -- each search by the check that the code asks for
  abbrev pub Said : EntryCheck → Verdict → Type 0
  Said k v = v ≡ judged (entry_number k by first_line (check_for k s) es ∷ [])

  module _ {v : Verdict} {ns : List ℕ} (k : EntryCheck) (left : EntriesLeft s q (entry_number k ∷ ns)) (found : Said k v) where
    pub stop_at : {r : Refusal} → v ≡ Err r → Err r ≡ judged (entry_checks s es)
    unfolding check_for
    stop_at h = stop left found h

    pub strike : v ≡ accepted → EntriesLeft s q ns
    unfolding check_for
    strike h = pass left found h

  -- the last decides
  pub decides : {v : Verdict} (k : EntryCheck) → EntriesLeft s q (entry_number k ∷ []) → Said k v → v ≡ judged (entry_checks s es)
  unfolding check_for
  decides k left found = found ∙ sym left.is

-- ---- the entries say what the rows say

empty_same : (rs : List Row) → is_empty (map shown rs) ≡ is_empty rs
empty_same [] = refl
empty_same (r ∷ rs) = refl

shown-judged : (s : Schema) (text : List ℕ) → text_form query_forms text ≡ None
    → judged (entry_checks s (map shown (rows text))) ≡ judged (entry_checks s (rows text))
unfolding entry_checks check_for
shown-judged s text h =
    let formed = query-formed text h in
    let same32 : first_line steps (map shown (rows text)) ≡ first_line steps (rows text) = query_search Depths s (rows text) formed in
    let same33 : first_line (check33 s) (map shown (rows text)) ≡ first_line (check33 s) (rows text) =
    query_search Numbers s (rows text) formed in
    let same34 : first_line (check34 s) (map shown (rows text)) ≡ first_line (check34 s) (rows text) =
    query_search Validity s (rows text) formed in
    let none32 = empty_same (rows text) in
    λ i. judged (32 by or_else (whole (none32 i)) (same32 i) ∷ 33 by same33 i ∷ 34 by same34 i ∷ [])

-- ---- 30 and 31, and the whole

module _ (text : List ℕ) (o : Opened Query text) where
  formed : text_form query_forms text ≡ None
  unfolding forms_of
  formed = o.formed

  fits : (length (rows text) ≤ 256) × Each (λ r. depth r ≤ 15) (rows text)
  unfolding maxima_of
  fits = query-fits (rows text) o.few

  pub fits_31 : length (rows text) ≤ 256
  fits_31 = fits.0

  module _ (n : ℕ) (room : 3592 ≤ n) {area : List ℕ} (laid : area ≡ query_area n (rows text)) where
    -- the area laid out can be read
    pub laid-held : QueryHeld area
    laid-held = subst QueryHeld (sym laid) (query-held n (rows text) room fits.0 fits.1 (query-few text formed))

    entries_say : (s : Schema) → judged (entry_checks s (entries_at area)) ≡ judged (entry_checks s (rows text))
    entries_say s =
        let entries : entries_at area ≡ map shown (rows text) = ap entries_at laid ∙ query-entries n (rows text) room fits_31 in
        ap (λ (l : List Row). judged (entry_checks s l)) entries ∙ shown-judged s text formed

module _ (s : Schema) (text area : List ℕ) (n : ℕ) {b : Verdict} (form : b ≡ judged (form_checks Query text)) where
  pub refused : length area ≡ n → {r : Refusal} → b ≡ Err r → QueryJudged s text n area (Err r)
  unfolding form_checks forms_of maxima_of entry_checks
  refused l h =
      record {
        is = sym h ∙ opening-refused Query text form (entry_checks s (rows text)) h;
        long = l;
        held = λ z. absurd (refusal z);
      }

  -- the whole verdict, from that on the entries
  pub entered : b ≡ accepted → 3592 ≤ n → area ≡ query_area n (rows text) → {v : Verdict}
      → v ≡ judged (entry_checks s (entries_at area)) → QueryJudged s text n area v
  unfolding form_checks forms_of maxima_of entry_checks
  entered z room laid j =
      let o = opened Query text form z in
      record {
        is = j ∙ entries_say text o n room laid s ∙ sym (opening_past Query text form z (entry_checks s (rows text)));
        long = ap length laid ∙ query-length n (rows text) room (fits_31 text o);
        held = λ z. laid;
      }
