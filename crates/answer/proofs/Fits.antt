-- An accepted answer's size is not above the length that the response buffer has after the call, which so has all of the response.
-- Assumes nothing.
use Prim.Native.Nat.{ℕ, ◌≤◌}
use native.Mathlib.Omega.{arith}
use mathlib.Core.Path.{◌≡◌, ap, sym, ◌∙◌}
use mathlib.Core.List.{List}
use lib.ListN.{length, take}
use Rattle.std.proofs.lemmas.List.{length-take-le}
use Rattle.rules.specs.Answer.{Texts, answered}
use Rattle.rules.specs.declared.Outcome.{Outcome}
use Rattle.rules.proofs.Outcomes.{AnswerCase, accepts, overflows, refuses, answer-case}
use Rattle.rules.proofs.Unique.{buffer-length}
use Rattle.judge.specs.Texts.{Lent}
use Rattle.response.specs.Calls.{areas_of, any_short, answered_in, buffer_in}

module _ (w : Lent) (m : List ℕ) (x : Texts) (room : ℕ) (buffer : List ℕ) where
  accepted-size : AnswerCase (any_short w m) x room buffer → (answered (any_short w m) x room buffer).number ≡ 0
      → (answered (any_short w m) x room buffer).size ≤ length buffer
  accepted-size (accepts p l e) h = omega (arith, ap (λ (o : Outcome). o.size) e)
  accepted-size (overflows p l e) h = absurd (omega (arith, ap (λ (o : Outcome). o.number) e))
  accepted-size (refuses n p l above e) h = absurd (omega (arith, ap (λ (o : Outcome). o.number) e))

  same_length : length (buffer_in w m x room buffer) ≡ length buffer
  unfolding buffer_in any_short
  same_length = buffer-length (areas_of w m) x room buffer

  pub accepted-fits : (o : Outcome) (after : List ℕ) → o ≡ answered_in w m x room buffer → after ≡ buffer_in w m x room buffer
      → o.number ≡ 0 → o.size ≤ length after
  unfolding answered_in
  accepted-fits o after is left h =
      let fits = accepted-size (answer-case (any_short w m) x room buffer) (sym (ap (λ (r : Outcome). r.number) is) ∙ h) in
      omega (arith, ap (λ (r : Outcome). r.size) is, ap length left, same_length, fits)

  pub accepted-whole : (o : Outcome) (after : List ℕ) → o ≡ answered_in w m x room buffer → after ≡ buffer_in w m x room buffer
      → o.number ≡ 0 → o.size ≡ length (take o.size after)
  accepted-whole o after is left h = sym (length-take-le o.size after (accepted-fits o after is left h))
