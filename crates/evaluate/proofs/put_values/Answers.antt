-- What the check asks of `evaluate::put_values`. Assumes nothing.
use Rattle.evaluate.proofs.Write.{part_step}
use Rattle.evaluate.proofs.Values.{values-next}
use Rattle.evaluate.proofs.put_values.Goals as goal

pub loop-i-preserved : goal.loop-i-preserved
loop-i-preserved c =
    let count = c.value_count-i-end.ensures in
    let next = values-next _ _ count _ _ c.loop-i-test.true c.value_at.ensures in
    part_step c.requires.room next c.loop-i.invariant c.put-pos.ensures
