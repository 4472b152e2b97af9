-- What the judge's answers mean. Assumes nothing.
use Rattle.std.specs.Prelude.{ℕ, Bool, List, Result, Ok, Err}
use Rattle.rules.specs.Lists.{one_if}
use Rattle.rules.specs.Answer.{outcome}
use Rattle.rules.specs.declared.Reply.{Reply}
use Rattle.tokens.specs.Response.{IsResponse}
use Rattle.shorten.specs.declared.Refusal.{Refusal}
use Rattle.shorten.specs.declared.Refusal.TheVariants.{FullIsNone, ShortenedIsNone}
use Rattle.shorten.specs.Strikes.{Shortened}

-- An answer: 1 for yes or 0, and a number, 0 where it is no refusal; "place 0".
abbrev pub reply_of : ℕ → ℕ → Reply
reply_of said n = record { yes = said; outcome = outcome n 0 0 0 }

-- Which answer is right for the full sequence f and the shortened one s. "It says yes exactly when the second can be made from the
-- first by striking out"; "71 when the first sequence is not a response .., 72 the same for the second, 71 first".
pub data Judged (f s : List ℕ) : Reply → Type 0 where
  says-yes : Shortened f s → Judged f s (reply_of 1 0)
  says_no : IsResponse f → IsResponse s → (Shortened f s → ⊥) → Judged f s (reply_of 0 0)
  refuses-first : (IsResponse f → ⊥) → Judged f s (reply_of 0 71)
  refuses-second : IsResponse f → (IsResponse s → ⊥) → Judged f s (reply_of 0 72)

-- ---- as the code has it before C is told

abbrev pub number_of : Refusal → ℕ
number_of FullIsNone = 71
number_of ShortenedIsNone = 72

abbrev pub replied : Result Bool Refusal → Reply
replied (Ok b) = reply_of (one_if b) 0
replied (Err r) = reply_of 0 (number_of r)
