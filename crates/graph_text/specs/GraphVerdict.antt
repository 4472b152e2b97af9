-- What a verdict on a graph's text leaves. Assumes nothing.
use Rattle.std.specs.Prelude.{ℕ, ◌≡◌, List, [], ◌∷◌, length}
use Rattle.rules.specs.Text.{rows}
use Rattle.rules.specs.Search.{first_line}
use Rattle.rules.specs.Schema.{Schema}
use Rattle.rules.specs.Graph.{graph_of, check22, check23, check24, check25, check26, check27}
use Rattle.rules.specs.Answer.{Numbered, ◌by◌, graph_checks}
use Rattle.tables.specs.Layout.{node_area, property_area, value_area}
use Rattle.index.specs.Index.{index_area}
use Rattle.checks.specs.Verdict.{Verdict, accepted, judged}

-- the checks of a row by itself, under which the rows can be indexed, and those of a row and the others
unfoldable pub alone_checks : Schema → List ℕ → List Numbered
alone_checks s text =
    let rs = rows text in
    let g = graph_of rs in
    22 by first_line (check22 s g) rs ∷ 23 by first_line (check23 s g) rs ∷ 24 by first_line (check24 s g) rs ∷ []

unfoldable pub joint_checks : Schema → List ℕ → List Numbered
joint_checks s text =
    let rs = rows text in
    let g = graph_of rs in
    25 by first_line (check25 s g) rs ∷ 26 by first_line check26 rs ∷ 27 by check27 s g ∷ []

-- Under the schema s, in areas of the lengths n, m, k and i: where the text is accepted, the areas hold its tables and their index,
-- followed by zeros.
pub record GraphJudged (s : Schema) (text : List ℕ) (n m k i : ℕ) (nodes properties values index : List ℕ) (v : Verdict) : Type 0 where
  pub is : v ≡ judged (graph_checks s text)
  pub long : (length nodes ≡ n) × (length properties ≡ m) × (length values ≡ k) × (length index ≡ i)
  pub held : v ≡ accepted
      → (nodes ≡ node_area n (rows text)) × (properties ≡ property_area m (rows text)) × (values ≡ value_area k (rows text))
      × (index ≡ index_area i (rows text))
