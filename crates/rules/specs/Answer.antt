-- What a call returns, and what it leaves in the response buffer and the work areas. Assumes nothing.
use Rattle.std.specs.Prelude.{ℕ, zero, suc, min, Bool, true, false, List, [], ◌∷◌, ◌++◌, map, ltb, length, drop, replicate, Option, None, Some}
use Rattle.rules.specs.Lists.{any}
use Rattle.rules.specs.Text.{Row, rows}
use Rattle.rules.specs.Search.{first_line, whole}
use Rattle.rules.specs.Forms.{schema_forms, graph_forms, query_forms, text_form}
use Rattle.rules.specs.Schema.{Schema, schema_of, check11, check12, check13, check14, check15, check16}
use Rattle.rules.specs.Graph.{Graph, graph_of, check21, check22, check23, check24, check25, check26, check27}
use Rattle.rules.specs.Query.{check31, check32, check33, check34}
use Rattle.rules.specs.Tree.{Forest, tree}
use Rattle.rules.specs.World.{World, world, query_node}
use Rattle.rules.specs.Eval.{eval, meets_fork}
use Rattle.rules.specs.Sizing.{Visit, visits, start, total, cap}
use Rattle.rules.specs.declared.Spot.{Spot}
use Rattle.rules.specs.declared.Outcome.{Outcome}

-- ---- what the texts state

-- "Three texts in (schema, graph, query)"
pub record Texts : Type 0 where
  pub schema : List ℕ
  pub graph : List ℕ
  pub query : List ℕ

abbrev pub schema_rows : Texts → List Row
schema_rows x = rows x.schema

abbrev pub graph_rows : Texts → List Row
graph_rows x = rows x.graph

abbrev pub query_rows : Texts → List Row
query_rows x = rows x.query

-- the schema, the graph, the world, its query node, and the query as a tree
abbrev pub schema_in : Texts → Schema
schema_in x = schema_of (schema_rows x)

abbrev pub graph_in : Texts → Graph
graph_in x = graph_of (graph_rows x)

abbrev pub world_of : Texts → World
world_of x = world (schema_in x) (graph_in x)

abbrev pub root_of : Texts → ℕ
root_of x = query_node (schema_in x) (graph_in x)

abbrev pub tree_of : Texts → Forest
tree_of x = tree (query_rows x)

-- Definition 6's response from the query node, and the visit list
abbrev pub response : Texts → List ℕ
response x = eval (world_of x) (tree_of x) (root_of x)

abbrev pub visits_in : Texts → List Visit
visits_in x = visits (world_of x) (tree_of x) (start (world_of x) (root_of x))

-- ---- the checks

-- A check: its number, and its place where it is offended.
pub record Numbered : Type 0 where
  pub number : ℕ
  pub place : Option Spot

infix 90 ◌by◌
abbrev pub ◌by◌ : ℕ → Option Spot → Numbered
n by p = record { number = n; place = p }

-- "Checks run in ascending number, each over its whole text before the next begins": those of a schema's text, those of a graph's
-- and of a query's under a schema, and that of the evaluation.
abbrev pub schema_checks : List ℕ → List Numbered
schema_checks text =
    let rs = rows text in
    let s = schema_of rs in
    10 by text_form schema_forms text
    ∷ 11 by first_line check11 rs
    ∷ 12 by first_line (check12 s) rs
    ∷ 13 by first_line check13 rs
    ∷ 14 by first_line (check14 s) rs
    ∷ 15 by first_line (check15 s) rs
    ∷ 16 by check16 rs
    ∷ []

abbrev pub graph_checks : Schema → List ℕ → List Numbered
graph_checks s text =
    let rs = rows text in
    let g = graph_of rs in
    20 by text_form graph_forms text
    ∷ 21 by first_line check21 rs
    ∷ 22 by first_line (check22 s g) rs
    ∷ 23 by first_line (check23 s g) rs
    ∷ 24 by first_line (check24 s g) rs
    ∷ 25 by first_line (check25 s g) rs
    ∷ 26 by first_line check26 rs
    ∷ 27 by check27 s g
    ∷ []

abbrev pub query_checks : Schema → List ℕ → List Numbered
query_checks s text =
    let rs = rows text in
    30 by text_form query_forms text
    ∷ 31 by first_line check31 rs
    ∷ 32 by check32 rs
    ∷ 33 by first_line (check33 s) rs
    ∷ 34 by first_line (check34 s) rs
    ∷ []

abbrev pub eval_checks : Texts → List Numbered
eval_checks x = 40 by whole (meets_fork (world_of x) (tree_of x) (root_of x)) ∷ []

-- What sizing and answering share. `short`: "a work area is too short".
abbrev pub checks : Bool → Texts → List Numbered
checks short x =
    2 by whole short
    ∷ schema_checks x.schema ++ (graph_checks (schema_in x) x.graph ++ (query_checks (schema_in x) x.query ++ eval_checks x))

-- 1: "room given is above 16,384 (answering only)"
abbrev pub largest_room : ℕ
largest_room = 16384

abbrev pub answer_checks : Bool → Texts → ℕ → List Numbered
answer_checks short x room = 1 by whole (ltb largest_room room) ∷ checks short x

-- The first check that is offended decides; where none is, `accepted` does.
abbrev pub verdict : {A : Type 0} → (ℕ → Spot → A) → A → List Numbered → A
verdict refuse accepted [] = accepted
verdict refuse accepted (c ∷ cs) = elim c.place [ None ↦ verdict refuse accepted cs | Some p ↦ refuse c.number p ]

-- ---- the outcome: "Every call returns number, place, size, visits."

abbrev pub outcome : ℕ → ℕ → ℕ → ℕ → Outcome
outcome n p size vs = record { number = n; place = p; size = size; visits = vs }

-- "In a refusal size and visits are 0 except for 50." The base shows the line of a spot.
abbrev pub refused : ℕ → Spot → Outcome
refused n p = outcome n p.line 0 0

-- "Accepted is number 0, place 0, with size and visits."
abbrev pub told : Texts → Outcome
told x = outcome 0 0 (cap (total (world_of x) (visits_in x))) (length (visits_in x))

abbrev pub sized : Bool → Texts → Outcome
sized short x = verdict refused (told x) (checks short x)

-- "Room counts as the smaller of the number given and the response buffer's length."
abbrev pub space : ℕ → List ℕ → ℕ
space room buffer = min room (length buffer)

-- 50: "size exceeds the room (answering only); size and visits are given"
abbrev pub fitted : ℕ → Outcome → Outcome
fitted k o = elim (ltb k o.size) [ true ↦ outcome 50 0 o.size o.visits | false ↦ o ]

abbrev pub answered : Bool → Texts → ℕ → List ℕ → Outcome
answered short x room buffer = verdict refused (fitted (space room buffer) (told x)) (answer_checks short x room)

-- ---- what was lent, afterwards

-- "An accepted answer changes only the first `size` numbers of the response buffer"; in a refusal it "is unchanged".
abbrev pub written : ℕ → List ℕ → List ℕ → List ℕ
written zero r buffer = r ++ drop (length r) buffer
written (suc n) r buffer = buffer

abbrev pub buffer_after : Bool → Texts → ℕ → List ℕ → List ℕ
buffer_after short x room buffer = written (answered short x room buffer).number (response x) buffer

-- A work area as it is lent: the length that is needed, and the numbers that it holds.
pub record Area : Type 0 where
  pub needed : ℕ
  pub held : List ℕ

-- 2: "a work area is too short"
abbrev pub too_short : List Area → Bool
too_short areas = any (λ a. ltb (length a.held) a.needed) areas

-- "After every call, accepted or refused, every work area holds zeros only."
abbrev pub zeroed : List ℕ → List ℕ
zeroed held = replicate (length held) 0

abbrev pub areas_after : List Area → List (List ℕ)
areas_after areas = map (λ a. zeroed a.held) areas
