-- What an accepted answering call leaves in the response buffer is never refused as the first sequence of a judgement. Assumes nothing.
use mathlib.Core.Path.{◌≡◌, sym, ap, subst, ◌∙◌}
use mathlib.Core.Logic.{◌≢◌}
use mathlib.Core.List.{List}
use Prim.Native.Nat.{ℕ}
use lib.ListN.{take}
use Rattle.rules.specs.Answer.{response}
use Rattle.rules.specs.declared.Outcome.{Outcome}
use Rattle.rules.specs.declared.Reply.{Reply}
use Rattle.response.specs.Calls.{answered_in}
use Rattle.shorten.specs.Judge.{Judged}
use Rattle.shorten.proofs.Own.{own-never_71}
use Rattle.sodgravel.specs.Demands.{Given, Left, SizeEnsured, AnswerEnsured, short_in}
use Rattle.sodgravel.proofs.Demands.{demand_2, demand_3}

module _
    (g : Given)
    (size answer : Left)
    (buffer : List ℕ)
    (sized : SizeEnsured g size)
    (answered : AnswerEnsured g answer buffer)
  where
    -- the first `size` numbers of the buffer
    the_response : answer.outcome.number ≡ 0 → take answer.outcome.size buffer ≡ response g.texts
    the_response z =
        ap (λ (n : ℕ). take n buffer) ((demand_3 g size answer buffer sized answered).answer_size z)
        ∙ ((demand_2 g size answer buffer sized answered).response_written z).front

    pub export_never_71 : answer.outcome.number ≡ 0 → (s : List ℕ) (r : Reply) → Judged (take answer.outcome.size buffer) s r
        → r.outcome.number ≢ 71
    unfolding answered_in
    export_never_71 z s r j =
        own-never_71 (short_in g) g.texts g.room g.buffer (ap (λ (o : Outcome). o.number) (sym answered.returned) ∙ z) s r
        (subst (λ (f : List ℕ). Judged f s r) (the_response z) j)
