-- The written rules: when three texts meet them, and the place that they fix for each refusal. Assumes nothing.
use Rattle.std.specs.Prelude.{ℕ, ◌≤◌, ◌<◌, ◌≡◌, ◌⊎◌, List, [], length}
use Rattle.rules.specs.Text.{Row, lines}
use Rattle.rules.specs.Search.{spot}
use Rattle.rules.specs.Forms.{Form, schema_forms, graph_forms, query_forms, breaks}
use Rattle.rules.specs.Schema.{check11, check12, check13, check14, check15}
use Rattle.rules.specs.Graph.{check21, check22, check23, check24, check25, check26}
use Rattle.rules.specs.Query.{check31, steps, check33, check34}
use Rattle.rules.specs.Answer.{Texts, schema_rows, graph_rows, query_rows, schema_in, graph_in, schema_checks, graph_checks, query_checks}
use Rattle.rules.specs.Contract.{FirstLine, Passed}
use Rattle.rules.specs.declared.Spot.{Spot}

-- Demand 2: "Schema, graph and query .. meet the written rules": no check of any of the three texts is offended.
pub record RulesMet (x : Texts) : Type 0 where
  pub schema : Passed (schema_checks x.schema)
  pub graph : Passed (graph_checks (schema_in x) x.graph)
  pub query : Passed (query_checks (schema_in x) x.query)

-- ---- the place fixed

-- of a check of the text form: "The length of a text is tested before its lines."
abbrev pub FormPlace : List Form → List ℕ → Spot → Type 0
FormPlace fs text p = ((65535 < length text) × (p ≡ spot 0 0)) ⊎ ((length text ≤ 65535) × FirstLine (breaks fs) (lines text) p)

-- of 32: "no entries (place 0)"
abbrev pub StepPlace : List Row → Spot → Type 0
StepPlace rs p = ((rs ≡ []) × (p ≡ spot 0 0)) ⊎ FirstLine steps rs p

-- "the place is the first line that offends against that check. Lines are counted from 1"; place 0 is a whole text or call.
-- (40 never arises: `never_40` of Rattle.rules.proofs.Outcomes.)
pub data PlaceFixed (x : Texts) : ℕ → Spot → Type 0 where
  at_1 : {p : Spot} → p ≡ spot 0 0 → PlaceFixed x 1 p
  at_2 : {p : Spot} → p ≡ spot 0 0 → PlaceFixed x 2 p
  at_10 : {p : Spot} → FormPlace schema_forms x.schema p → PlaceFixed x 10 p
  at_11 : {p : Spot} → FirstLine check11 (schema_rows x) p → PlaceFixed x 11 p
  at_12 : {p : Spot} → FirstLine (check12 (schema_in x)) (schema_rows x) p → PlaceFixed x 12 p
  at_13 : {p : Spot} → FirstLine check13 (schema_rows x) p → PlaceFixed x 13 p
  at_14 : {p : Spot} → FirstLine (check14 (schema_in x)) (schema_rows x) p → PlaceFixed x 14 p
  at_15 : {p : Spot} → FirstLine (check15 (schema_in x)) (schema_rows x) p → PlaceFixed x 15 p
  at_16 : {p : Spot} → p ≡ spot 0 0 → PlaceFixed x 16 p
  at_20 : {p : Spot} → FormPlace graph_forms x.graph p → PlaceFixed x 20 p
  at_21 : {p : Spot} → FirstLine check21 (graph_rows x) p → PlaceFixed x 21 p
  at_22 : {p : Spot} → FirstLine (check22 (schema_in x) (graph_in x)) (graph_rows x) p → PlaceFixed x 22 p
  at_23 : {p : Spot} → FirstLine (check23 (schema_in x) (graph_in x)) (graph_rows x) p → PlaceFixed x 23 p
  at_24 : {p : Spot} → FirstLine (check24 (schema_in x) (graph_in x)) (graph_rows x) p → PlaceFixed x 24 p
  at_25 : {p : Spot} → FirstLine (check25 (schema_in x) (graph_in x)) (graph_rows x) p → PlaceFixed x 25 p
  at_26 : {p : Spot} → FirstLine check26 (graph_rows x) p → PlaceFixed x 26 p
  at_27 : {p : Spot} → p ≡ spot 0 0 → PlaceFixed x 27 p
  at_30 : {p : Spot} → FormPlace query_forms x.query p → PlaceFixed x 30 p
  at_31 : {p : Spot} → FirstLine check31 (query_rows x) p → PlaceFixed x 31 p
  at_32 : {p : Spot} → StepPlace (query_rows x) p → PlaceFixed x 32 p
  at_33 : {p : Spot} → FirstLine (check33 (schema_in x)) (query_rows x) p → PlaceFixed x 33 p
  at_34 : {p : Spot} → FirstLine (check34 (schema_in x)) (query_rows x) p → PlaceFixed x 34 p
  at_40 : {p : Spot} → p ≡ spot 0 0 → PlaceFixed x 40 p
