-- None of our own exports is refused as the first sequence. Assumes nothing.
use Prim.Native.Nat.{ℕ}
use mathlib.Core.Path.{◌≡◌}
use mathlib.Core.Logic.{◌≢◌}
use mathlib.Core.Bool.{Bool}
use mathlib.Core.List.{List}
use Rattle.rules.specs.Answer.{Texts, response, answered}
use Rattle.rules.specs.declared.Reply.{Reply}
use Rattle.tokens.proofs.Own.{answer-is_one}
use Rattle.shorten.specs.Judge.{Judged}
use Rattle.shorten.proofs.Verdicts.{first-refused_exactly}

-- What an accepted answering call writes is a response: whatever is sent to be held against it, the answer is not 71.
pub own-never_71 : (short : Bool) (x : Texts) (room : ℕ) (buffer : List ℕ) → (answered short x room buffer).number ≡ 0
    → (s : List ℕ) (r : Reply)
    → Judged (response x) s r
    → r.outcome.number ≢ 71
own-never_71 short x room buffer h s r j e = (first-refused_exactly j).0 e (answer-is_one short x room buffer h)
