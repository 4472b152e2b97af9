-- The user's three demands in so many words, of what the calls are given and what they leave. Assumes nothing.
use Rattle.std.specs.Prelude.{ℕ, ◌≤◌, ◌<◌, ◌≡◌, ◌⊎◌, ◌↔◌, Bool, false, List, [], ◌∷◌, map, length, get_or}
use Rattle.rules.specs.Lists.{those, each}
use Rattle.rules.specs.Graph.{Label, target, edge_of}
use Rattle.rules.specs.Tree.{field}
use Rattle.rules.specs.World.{list}
use Rattle.rules.specs.Eval.{label, object, listed, shown, eval, Meets}
use Rattle.rules.specs.Sizing.{total, cap}
use Rattle.rules.specs.Answer.{Texts, graph_rows, world_of, tree_of, root_of, response, visits_in, Numbered, checks, answer_checks, Area}
use Rattle.rules.specs.Contract.{Least, Exact, Exceeds, Fits, Written, AllZeros}
use Rattle.rules.specs.declared.Spot.{Spot}
use Rattle.rules.specs.declared.Outcome.{Outcome}
use Rattle.rules.proofs.Visited.{Listed}
use Rattle.rules.proofs.Order.{Ascends, NoPairTwice}
use Rattle.judge.specs.Texts.{Lent}
use Rattle.response.specs.Calls.{areas_of, any_short, sized_in, answered_in, buffer_in}
use Rattle.sodgravel.specs.Cleared.{cleared}
use Rattle.sodgravel.specs.Ruled.{RulesMet, PlaceFixed}

-- ---- what is given, and what is left

-- What the calls are given: three texts, the work areas, and for answering a room and a response buffer. Nothing is asked of them.
pub record Given : Type 0 where
  pub texts : Texts
  pub areas : Lent
  pub rows : List ℕ
  pub room : ℕ
  pub buffer : List ℕ

-- What a call returns, and what stands in the work areas afterwards.
pub record Left : Type 0 where
  pub outcome : Outcome
  pub areas : Lent
  pub rows : List ℕ

-- every work area is cleared
pub record AreasEnsured (g : Given) (l : Left) : Type 0 where
  pub schema : l.areas.schema ≡ cleared g.areas.schema
  pub nodes : l.areas.nodes ≡ cleared g.areas.nodes
  pub properties : l.areas.properties ≡ cleared g.areas.properties
  pub values : l.areas.values ≡ cleared g.areas.values
  pub index : l.areas.index ≡ cleared g.areas.index
  pub query : l.areas.query ≡ cleared g.areas.query
  pub rows : l.rows ≡ cleared g.rows

-- the `ensures` clauses of `size`
pub record SizeEnsured (g : Given) (l : Left) : Type 0 where
  pub returned : l.outcome ≡ sized_in g.areas g.rows g.texts
  pub areas : AreasEnsured g l

-- the `ensures` clauses of `answer`, of what stands in the response buffer afterwards too
pub record AnswerEnsured (g : Given) (l : Left) (buffer : List ℕ) : Type 0 where
  pub returned : l.outcome ≡ answered_in g.areas g.rows g.texts g.room g.buffer
  pub written : buffer ≡ buffer_in g.areas g.rows g.texts g.room g.buffer
  pub areas : AreasEnsured g l

-- the work areas as they are lent, whether one is too short, and what stands in them afterwards
abbrev pub areas_in : Given → List Area
areas_in g = areas_of g.areas g.rows

abbrev pub short_in : Given → Bool
short_in g = any_short g.areas g.rows

abbrev pub areas_left : Left → List (List ℕ)
areas_left l =
    l.areas.schema ∷ l.areas.nodes ∷ l.areas.properties ∷ l.areas.values ∷ l.areas.index ∷ l.areas.query ∷ l.rows ∷ []

-- ---- demand 1

-- A refusal by one of some checks: its number is the least that is offended, and it carries the place that the rules fix.
pub record Refused (x : Texts) (cs : List Numbered) (o : Outcome) : Type 0 where
  pub spot : Spot
  pub above : 0 < o.number
  pub least : Least cs o.number spot
  pub fixed : PlaceFixed x o.number spot
  pub place : o.place ≡ spot.line
  pub size : o.size ≡ 0
  pub visits : o.visits ≡ 0

-- A refusal for size.
pub record TooLarge (o : Outcome) : Type 0 where
  pub number : o.number ≡ 50
  pub place : o.place ≡ 0

-- "Every text, buffer and room is answered or refused by number; no caller is asked to have checked first. A refusal carries the
-- place the rules fix, alters nothing in the response buffer, and leaves every work area zeroed."
pub record Demand1 (g : Given) (size answer : Left) (buffer : List ℕ) : Type 0 where
  pub size_accepts_or_refuses : (size.outcome.number ≡ 0) ⊎ Refused g.texts (checks (short_in g) g.texts) size.outcome
  pub answer_accepts_or_refuses : (answer.outcome.number ≡ 0)
      ⊎ (TooLarge answer.outcome ⊎ Refused g.texts (answer_checks (short_in g) g.texts g.room) answer.outcome)
  pub refusal_leaves_buffer : (answer.outcome.number ≡ 0 → ⊥) → buffer ≡ g.buffer
  pub size_zeroes : AllZeros (areas_in g) (areas_left size)
  pub answer_zeroes : AllZeros (areas_in g) (areas_left answer)

-- ---- demand 2

-- "Schema, graph and query are accepted exactly when they meet the written rules. The response then holds, number for number, what
-- Definition 6 of Hartig and Pérez gives, lists in the order of the edges."
pub record Demand2 (g : Given) (size answer : Left) (buffer : List ℕ) : Type 0 where
  pub size_accepts_exactly : (size.outcome.number ≡ 0) ↔ ((short_in g ≡ false) × RulesMet g.texts)
  pub answer_accepts_exactly : (answer.outcome.number ≡ 0)
      ↔ (((g.room ≤ 16384) × (short_in g ≡ false) × RulesMet g.texts) × Fits (length (response g.texts)) g.room g.buffer)
  pub response_written : answer.outcome.number ≡ 0 → Written (response g.texts) g.buffer buffer
  pub number_for_number : answer.outcome.number ≡ 0
      → (i : ℕ) → i < length (response g.texts) → get_or buffer i 0 ≡ get_or (response g.texts) i 0
  pub definition_6 : response g.texts ≡ eval (world_of g.texts) (tree_of g.texts) (root_of g.texts)
  -- a list field at node u shows the targets of the edges from u with its label, in the order of the graph's lines
  pub lists_in_edge_order : (n u : ℕ) (l : Label) (below : ℕ → List ℕ) → (world_of g.texts).shape u l.field ≡ list
      → shown (world_of g.texts) (field n l) u below
      ≡ label n ∷ listed (each (λ v. object (below v)) (map target (those (edge_of u l) (graph_rows g.texts))))

-- ---- demand 3

-- "Sizing gives the length of the defined response without a response buffer, exact to 1,000,000 and 1,000,001 above; an answer is
-- refused for size exactly when that length exceeds the room. Sizing rests on the list of exactly those pairs of entry and node
-- that Definition 6 meets, none twice; the count reported is that list's length."
pub record Demand3 (g : Given) (size answer : Left) : Type 0 where
  pub size_exact : size.outcome.number ≡ 0 → Exact (length (response g.texts)) size.outcome.size
  pub refused_for_size_exactly : (answer.outcome.number ≡ 50)
      ↔ (((g.room ≤ 16384) × (short_in g ≡ false) × RulesMet g.texts) × Exceeds (length (response g.texts)) g.room g.buffer)
  pub exactly_the_pairs_met : RulesMet g.texts
      → (i v : ℕ) → Listed i v (visits_in g.texts) ↔ Meets (world_of g.texts) (tree_of g.texts) (root_of g.texts) i v
  pub none_twice : RulesMet g.texts → NoPairTwice (visits_in g.texts)
  pub in_order : RulesMet g.texts → Ascends (visits_in g.texts)
  pub size_rests_on_the_list : size.outcome.number ≡ 0 → size.outcome.size ≡ cap (total (world_of g.texts) (visits_in g.texts))
  pub size_counts_the_list : size.outcome.number ≡ 0 → size.outcome.visits ≡ length (visits_in g.texts)
  pub answer_size : answer.outcome.number ≡ 0 → answer.outcome.size ≡ length (response g.texts)
  pub answer_counts_the_list : answer.outcome.number ≡ 0 → answer.outcome.visits ≡ length (visits_in g.texts)
  pub refused_size_exact : answer.outcome.number ≡ 50 → Exact (length (response g.texts)) answer.outcome.size
  pub refused_counts_the_list : answer.outcome.number ≡ 50 → answer.outcome.visits ≡ length (visits_in g.texts)
