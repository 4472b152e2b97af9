-- What the calls return, and what they leave in the response buffer. Assumes nothing.
use Rattle.std.specs.Prelude.{ℕ, ◌≡◌, Bool, List, [], ◌∷◌, ◌++◌}
use Rattle.rules.specs.Search.{spot}
use Rattle.rules.specs.Answer.{Texts, Area, too_short, sized, answered, buffer_after, refused, fitted, space}
use Rattle.rules.specs.declared.Outcome.{Outcome}
use Rattle.judge.specs.Texts.{Lent, work_areas, Holding}

-- The work areas of a call: those that the texts are read into, and the rows of multiplicities, sixteen depths of 512 nodes.
unfoldable pub areas_of : Lent → List ℕ → List Area
areas_of w m = work_areas w ++ (record { needed = 8192; held = m } ∷ [])

unfoldable pub any_short : Lent → List ℕ → Bool
any_short w m = too_short (areas_of w m)

-- what sizing returns
unfoldable pub sized_in : Lent → List ℕ → Texts → Outcome
sized_in w m x = sized (any_short w m) x

-- what answering returns, and what the response buffer holds afterwards
unfoldable pub answered_in : Lent → List ℕ → Texts → ℕ → List ℕ → Outcome
answered_in w m x room buffer = answered (any_short w m) x room buffer

unfoldable pub buffer_in : Lent → List ℕ → Texts → ℕ → List ℕ → List ℕ
buffer_in w m x room buffer = buffer_after (any_short w m) x room buffer

-- a refusal at place 0
unfoldable pub refused_by : ℕ → Outcome
refused_by n = refused n (spot 0 0)

-- ---- inside

-- the outcome of answering, by that of sizing
unfoldable pub limited_in : ℕ → List ℕ → Outcome → Outcome
limited_in room buffer o = fitted (space room buffer) o

-- The outcome of sizing, while the areas still hold the tables.
pub record Measured (x : Texts) (before after : Lent) (m : List ℕ) (o : Outcome) : Type 0 where
  pub is : o ≡ sized_in before m x
  pub held : o.number ≡ 0 → Holding x before after

-- The outcome of answering and the response buffer afterwards, while the areas still hold the tables.
pub record Responded (x : Texts) (before : Lent) (m : List ℕ) (room : ℕ) (buffer after : List ℕ) (o : Outcome) : Type 0 where
  pub is : o ≡ answered_in before m x room buffer
  pub left : after ≡ buffer_in before m x room buffer
