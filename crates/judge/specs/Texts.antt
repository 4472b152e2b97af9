-- The verdict on three texts, and what it leaves in the work areas. Assumes nothing.
use Rattle.std.specs.Prelude.{ℕ, ◌≡◌, Bool, List, [], ◌∷◌, length, take}
use Rattle.rules.specs.Text.{rows}
use Rattle.rules.specs.Answer.{Texts, Area, too_short}
use Rattle.tables.specs.Layout.{node_area, property_area, value_area, query_area}
use Rattle.masks.specs.Masks.{schema_needed, schema_area}
use Rattle.index.specs.Index.{index_area}
use Rattle.checks.specs.Verdict.{Verdict, accepted, judged, text_checks}

-- "Three texts in (schema, graph, query)"
unfoldable pub texts : List ℕ → List ℕ → List ℕ → Texts
texts schema graph query = record { schema = schema; graph = graph; query = query }

-- The work areas that the texts are read into.
pub record Lent : Type 0 where
  pub schema : List ℕ
  pub nodes : List ℕ
  pub properties : List ℕ
  pub values : List ℕ
  pub index : List ℕ
  pub query : List ℕ

unfoldable pub lent : List ℕ → List ℕ → List ℕ → List ℕ → List ℕ → List ℕ → Lent
lent a g p v x q = record { schema = a; nodes = g; properties = p; values = v; index = x; query = q }

-- each with the length that is needed
unfoldable pub work_areas : Lent → List Area
work_areas w =
    record { needed = schema_needed; held = w.schema }
    ∷ record { needed = 15880; held = w.nodes }
    ∷ record { needed = 14344; held = w.properties }
    ∷ record { needed = 8200; held = w.values }
    ∷ record { needed = 3072; held = w.index }
    ∷ record { needed = 3592; held = w.query }
    ∷ []

-- 2: "a work area is too short"
unfoldable pub too_short_of : Lent → Bool
too_short_of w = too_short (work_areas w)

-- The tables of accepted texts and the graph's index: each area holds the rows' encoding and zeros behind it; of the values' the needed
-- part does.
pub record Holding (x : Texts) (before after : Lent) : Type 0 where
  pub schema : after.schema ≡ schema_area (length before.schema) (rows x.schema)
  pub nodes : after.nodes ≡ node_area (length before.nodes) (rows x.graph)
  pub properties : after.properties ≡ property_area (length before.properties) (rows x.graph)
  pub values : take 8200 after.values ≡ value_area 8200 (rows x.graph)
  pub index : after.index ≡ index_area (length before.index) (rows x.graph)
  pub query : after.query ≡ query_area (length before.query) (rows x.query)

pub record Judged (x : Texts) (before after : Lent) (v : Verdict) : Type 0 where
  pub is : v ≡ judged (text_checks (too_short_of before) x)
  pub held : v ≡ accepted → Holding x before after
