-- The three texts by kind: the form of each, its maxima, and the number of its first check. Assumes nothing.
use Rattle.std.specs.Prelude.{ℕ, List, eqb, cond}
use Rattle.rules.specs.Text.{Row}
use Rattle.rules.specs.Search.{Check}
use Rattle.rules.specs.Forms.{Form, schema_forms, graph_forms, query_forms}
use Rattle.rules.specs.Schema.{check11}
use Rattle.rules.specs.Graph.{check21}
use Rattle.rules.specs.Query.{check31}
use Rattle.rules.specs.declared.TextKind.{TextKind}
use Rattle.rules.specs.declared.TextKind.TheVariants.{Schema, Graph, Query}

-- "10, 20, 30: schema, graph, query text breaks the text form"
abbrev pub first_check : TextKind → ℕ
first_check Schema = 10
first_check Graph = 20
first_check Query = 30

-- the text whose first check a number is; any other number is taken for the query's
abbrev pub kind_for : ℕ → TextKind
kind_for n = cond (eqb n 10) Schema (cond (eqb n 20) Graph Query)

unfoldable pub forms_of : TextKind → List Form
forms_of Schema = schema_forms
forms_of Graph = graph_forms
forms_of Query = query_forms

-- the check behind it: "a maximum passed"
unfoldable pub maxima_of : TextKind → Check Row
maxima_of Schema = check11
maxima_of Graph = check21
maxima_of Query = check31
