-- The verdict on a text: the number and the spot of the first check that is offended. Assumes nothing.
use Rattle.std.specs.Prelude.{ℕ, ◌+◌, List, [], ◌∷◌, ◌++◌, Bool, ◌≡◌, length, Result, Ok, Err, ⊤}
use Rattle.rules.specs.Search.{first_line, whole}
use Rattle.rules.specs.Text.{rows}
use Rattle.rules.specs.Forms.{text_form}
use Rattle.rules.specs.Schema.{schema_of, check12, check13, check14, check15, check16}
use Rattle.rules.specs.Answer.{Texts, Numbered, ◌by◌, verdict, schema_in, schema_checks, graph_checks, query_checks}
use Rattle.rules.specs.declared.Spot.{Spot}
use Rattle.masks.specs.Masks.{schema_area}
use Rattle.rules.specs.Kinds.{first_check, forms_of, maxima_of}
use Rattle.rules.specs.declared.TextKind.{TextKind}
use Rattle.rules.specs.declared.Refusal.{Refusal}

-- What a text's checks come to: nothing where none is offended, and else the refusal by the first that is.
abbrev pub Verdict : Type 0
Verdict = Result ⊤ Refusal

unfoldable pub refused_by : ℕ → Spot → Verdict
refused_by n p = Err (record { number = n; spot = p })

abbrev pub accepted : Verdict
accepted = Ok tt

unfoldable pub judged : List Numbered → Verdict
judged cs = verdict refused_by accepted cs

-- the first two checks of a text: its form and its maxima
unfoldable pub form_checks : TextKind → List ℕ → List Numbered
form_checks k text =
    first_check k by text_form (forms_of k) text ∷ (first_check k + 1) by first_line (maxima_of k) (rows text) ∷ []

-- the checks of a schema's text behind 11
unfoldable pub later_schema : List ℕ → List Numbered
later_schema text =
    let rs = rows text in
    let s = schema_of rs in
    12 by first_line (check12 s) rs
    ∷ 13 by first_line check13 rs
    ∷ 14 by first_line (check14 s) rs
    ∷ 15 by first_line (check15 s) rs
    ∷ 16 by check16 rs
    ∷ []

-- the checks of all three texts, 2 before them: everything but the evaluation's
unfoldable pub text_checks : Bool → Texts → List Numbered
text_checks short x =
    2 by whole short ∷ schema_checks x.schema ++ (graph_checks (schema_in x) x.graph ++ query_checks (schema_in x) x.query)

-- ---- what a verdict leaves

-- of a schema's text, in an area of length n: where it is accepted, the area holds the schema's tables, their links and the masks, followed
-- by zeros
pub record SchemaJudged (text : List ℕ) (n : ℕ) (area : List ℕ) (v : Verdict) : Type 0 where
  pub is : v ≡ judged (schema_checks text)
  pub long : length area ≡ n
  pub held : v ≡ accepted → area ≡ schema_area n (rows text)
