-- What a verdict on a query's text leaves. Assumes nothing.
use Rattle.std.specs.Prelude.{ℕ, ◌≡◌, List, [], ◌∷◌, length}
use Rattle.rules.specs.Text.{Row, rows}
use Rattle.rules.specs.Search.{first_line}
use Rattle.rules.specs.Schema.{Schema}
use Rattle.rules.specs.Query.{check32, check33, check34}
use Rattle.rules.specs.Answer.{Numbered, ◌by◌, query_checks}
use Rattle.tables.specs.Layout.{query_area}
use Rattle.checks.specs.Verdict.{Verdict, accepted, judged}

-- the checks of a query behind 31
unfoldable pub entry_checks : Schema → List Row → List Numbered
entry_checks s rs = 32 by check32 rs ∷ 33 by first_line (check33 s) rs ∷ 34 by first_line (check34 s) rs ∷ []

-- Under the schema s, in an area of the length n: where the text is accepted, the area holds its table, followed by zeros.
pub record QueryJudged (s : Schema) (text : List ℕ) (n : ℕ) (area : List ℕ) (v : Verdict) : Type 0 where
  pub is : v ≡ judged (query_checks s text)
  pub long : length area ≡ n
  pub held : v ≡ accepted → area ≡ query_area n (rows text)
