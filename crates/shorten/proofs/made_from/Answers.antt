-- `shorten::made_from` meets its contract: each turn, by what the calls of the turn say, and the end. Assumes nothing.
use Rattle.shorten.proofs.Walks.{next, decides, back-none, back-some}
use Rattle.shorten.proofs.made_from.Goals as goal
use Rattle.shorten.proofs.made_from.Goals.{then-depth-eq0, else-depth-eq0}

pub loop-token-preserved : goal.loop-token-preserved
loop-token-preserved c =
    let at = c.loop-token.invariant in
    next at c.loop-token-test.true _ _ _ _ _
    c.side_of.ensures
    c.next.ensures
    c.stands_at-past.ensures
    (elim c.if-depth-eq0.branch [
      | then-depth-eq0 w ↦ back-none at _ w.if-depth-eq0.true w.back-is
      | else-depth-eq0 w ↦ back-some at _ _ w.if-depth-eq0.false w.back-is
    ])
    c.turn-stand.ensures

pub returns : goal.returns
returns c = decides c.loop-token.invariant c.loop-token-test.false c.is_empty.result c.is_empty.ensures
