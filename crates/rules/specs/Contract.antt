-- What a call owes, in 01's words and without saying how it is computed: no two outcomes meet them. Assumes nothing.
use Rattle.std.specs.Prelude.{ℕ, suc, ◌≤◌, ◌<◌, ◌≡◌, ◌⊎◌, true, false, List, [], ◌∷◌, reverse, eqb, length, get_or, take, drop, Option, None, Some}
use Rattle.rules.specs.Search.{Check, fault}
use Rattle.rules.specs.Answer.{Texts, response, visits_in, Numbered, checks, answer_checks, Area, too_short}
use Rattle.rules.specs.declared.Spot.{Spot}
use Rattle.rules.specs.declared.Outcome.{Outcome}

-- ---- the place of a check

-- The fault of the line with k lines before it, by what stands before it and behind it; none past the end.
abbrev pub fault_in : {A : Type 0} → Check A → List A → List A → Option ℕ
fault_in check before [] = None
fault_in check before (r ∷ after) = fault (check before r after)

abbrev pub fault_at : {A : Type 0} → Check A → List A → ℕ → Option ℕ
fault_at check rs k = fault_in check (reverse (take k rs)) (drop k rs)

-- "the place is the first line that offends against that check. Lines are counted from 1."
pub record FirstLine {A : Type 0} (check : Check A) (rs : List A) (p : Spot) : Type 0 where
  pub before : ℕ
  pub line : p.line ≡ suc before
  pub offends : fault_at check rs before ≡ Some p.field
  pub none_earlier : (j : ℕ) → j < before → fault_at check rs j ≡ None

-- ---- the number of a refusal

-- Where the check with number n is offended.
abbrev pub place_of : ℕ → List Numbered → Option Spot
place_of n [] = None
place_of n (c ∷ cs) = elim (eqb c.number n) [ true ↦ c.place | false ↦ place_of n cs ]

-- No check of the table is offended.
abbrev pub Passed : List Numbered → Type 0
Passed cs = (n : ℕ) → place_of n cs ≡ None

-- "Checks run in ascending number": the least number that is offended is n, and its place is p.
pub record Least (cs : List Numbered) (n : ℕ) (p : Spot) : Type 0 where
  pub offended : place_of n cs ≡ Some p
  pub none_less : (m : ℕ) → m < n → place_of m cs ≡ None

-- ---- what is shown, and what is left

-- number, place, size, visits
pub record Shows (o : Outcome) (n p k vs : ℕ) : Type 0 where
  pub number : o.number ≡ n
  pub place : o.place ≡ p
  pub size : o.size ≡ k
  pub visits : o.visits ≡ vs

-- k shows n: it is n, "shown as 1,000,001 once above 1,000,000"
pub record Exact (n k : ℕ) : Type 0 where
  pub upto : n ≤ 1000000 → k ≡ n
  pub above : 1000000 < n → k ≡ 1000001

-- the length n of a response exceeds the room, "the smaller of the number given and the response buffer's length"; or it does not
abbrev pub Exceeds : ℕ → ℕ → List ℕ → Type 0
Exceeds n room buffer = (room < n) ⊎ (length buffer < n)

pub record Fits (n room : ℕ) (buffer : List ℕ) : Type 0 where
  pub given : n ≤ room
  pub held : n ≤ length buffer

-- "An accepted answer changes only the first `size` numbers of the response buffer", which then are the response.
pub record Written (r buffer after : List ℕ) : Type 0 where
  pub front : take (length r) after ≡ r
  pub rest : drop (length r) after ≡ drop (length r) buffer

-- "every work area holds zeros only", each as long as before
pub record Zeros (before after : List ℕ) : Type 0 where
  pub long : length after ≡ length before
  pub zero : (i : ℕ) → i < length after → get_or after i 0 ≡ 0

abbrev pub AllZeros : List Area → List (List ℕ) → Type 0
AllZeros [] [] = Unit {0}
AllZeros [] (b ∷ bs) = ⊥
AllZeros (a ∷ more) [] = ⊥
AllZeros (a ∷ more) (b ∷ bs) = Zeros a.held b × AllZeros more bs

-- ---- sizing and answering

-- What sizing returns, and the work areas afterwards.
pub record Sizes (areas : List Area) (x : Texts) (o : Outcome) (areas' : List (List ℕ)) : Type 0 where
  pub accepts : Passed (checks (too_short areas) x)
      → (k : ℕ) × Exact (length (response x)) k × Shows o 0 0 k (length (visits_in x))
  pub refuses : (n : ℕ) (p : Spot) → Least (checks (too_short areas) x) n p → Shows o n p.line 0 0
  pub clears : AllZeros areas areas'

-- What answering returns, and the response buffer and the work areas afterwards.
pub record Answers (areas : List Area) (x : Texts) (room : ℕ) (buffer : List ℕ) (o : Outcome) (buffer' : List ℕ) (areas' : List (List ℕ)) : Type 0 where
  pub accepts : Passed (answer_checks (too_short areas) x room) → Fits (length (response x)) room buffer
      → Shows o 0 0 (length (response x)) (length (visits_in x)) × Written (response x) buffer buffer'
  pub too_large : Passed (answer_checks (too_short areas) x room) → Exceeds (length (response x)) room buffer
      → (k : ℕ) × Exact (length (response x)) k × Shows o 50 0 k (length (visits_in x)) × (buffer' ≡ buffer)
  pub refuses : (n : ℕ) (p : Spot) → Least (answer_checks (too_short areas) x room) n p → Shows o n p.line 0 0 × (buffer' ≡ buffer)
  pub clears : AllZeros areas areas'
