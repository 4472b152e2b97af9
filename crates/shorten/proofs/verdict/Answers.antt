-- `shorten::verdict` meets its contract: what was told of the two sequences, and of both, on each way. Assumes nothing.
use Rattle.shorten.specs.Judge.{refuses-first, refuses-second}
use Rattle.shorten.proofs.Verdicts.{told, denied, judged}
use Rattle.shorten.proofs.verdict.Goals as goal

pub returns-then-not-is_response : goal.returns-then-not-is_response
returns-then-not-is_response c = refuses-first (denied c.is_response.ensures c.if-not-is_response.true)

pub returns-then-not-is_response-2 : goal.returns-then-not-is_response-2
returns-then-not-is_response-2 c =
    refuses-second (told c.is_response.ensures c.if-not-is_response.false) (denied c.is_response-2.ensures c.if-not-is_response-2.true)

pub returns : goal.returns
returns c =
    judged
    (told c.is_response.ensures c.if-not-is_response.false)
    (told c.is_response-2.ensures c.if-not-is_response-2.false)
    c.made_from.result
    c.made_from.ensures
