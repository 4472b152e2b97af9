-- The check's answer is that a sequence is a response. Assumes nothing.
use mathlib.Core.Path.{◌≡◌, refl, sym, ap, ◌∙◌}
use mathlib.Core.Logic.{◌↔◌}
use mathlib.Core.Bool.{Bool, true, false}
use mathlib.Core.List.{List, [], ◌∷◌}
use Prim.Native.Nat.{ℕ, ◌+◌, ◌≤◌, ◌<◌}
use lib.Dec.{leb}
use lib.ListN.{length, get_or, drop, drop_of_length-le}
use borrow.Author.Tests.{le-leb, leb-true}
use Rattle.std.specs.Prelude.{Some, None}
use Rattle.std.proofs.lemmas.List.{drop_more}
use Rattle.rules.proofs.Bools.{and-true_left, and-true_right, clash}
use Rattle.tokens.specs.Response.{most_tokens, IsResponse}
use Rattle.tokens.specs.Check.{start, accepts, step_of, finished_at, responds}
use Rattle.tokens.specs.declared.State.{State}
use Rattle.tokens.proofs.Accepts.{response-accepted}
use Rattle.tokens.proofs.Sound.{accepted-response}

-- ---- of any sequence

pub is_one : (s : List ℕ) → responds s ≡ true → IsResponse s
is_one s h =
    accepted-response s (leb-true (length s) most_tokens (and-true_left _ _ h)) (and-true_right (leb (length s) most_tokens) _ h)

pub is_none : (s : List ℕ) → responds s ≡ false → IsResponse s → ⊥
is_none s h r = clash (rw (le-leb (length s) most_tokens r.1.few, response-accepted r.1)) h

-- ---- for the run of `is_response` over the tokens

pub tells : (s : List ℕ) (b : Bool) → length s ≤ most_tokens → b ≡ accepts s (Some start) → (b ≡ true) ↔ IsResponse s
tells s b h e = (λ t. accepted-response s h (sym e ∙ t), λ r. e ∙ response-accepted r.1)

-- one token more
pub accepts-more : (s : List ℕ) (i : ℕ) (p : State) → i < length s
    → accepts (drop i s) (Some p) ≡ accepts (drop (i + 1) s) (step_of p (get_or s i 0))
unfolding accepts
accepts-more s i p h = ap (λ (x : List ℕ). accepts x (Some p)) (drop_more s i 0 h)

-- where one leads nowhere
pub accepts_nowhere : (s : List ℕ) → accepts s None ≡ false
unfolding accepts
accepts_nowhere [] = refl
accepts_nowhere (x ∷ s) = refl

-- behind the last
pub accepts_end : (s : List ℕ) (i : ℕ) (p : State) → length s ≤ i → accepts (drop i s) (Some p) ≡ finished_at p
unfolding accepts
accepts_end s i p h = ap (λ (x : List ℕ). accepts x (Some p)) (drop_of_length-le s h)
