-- `text::lettered_row` meets its contract, by what each turn, and each way out, makes of what is still to come. Assumes nothing.
use native.Mathlib.Omega.{arith}
use Rattle.text.proofs.Reading.{row_more, row_fault, turn_ends}
use Rattle.text.proofs.lettered_row.Goals as goal

pub returns-in_default : goal.returns-in_default
returns-in_default c = row_fault _ _ _ _ _ _ _ _ c.loop-i.invariant.to_come c.byte_at.ensures c.loop-i-test.true c.in_default.ensures

pub loop-i-smaller : goal.loop-i-smaller
loop-i-smaller c =
    let ends = turn_ends _ _ _ _ _ c.byte_at.ensures c.loop-i-test.true c.in-Ok.ensures in
    omega (arith, ends.after, ends.inside)

pub loop-i-preserved : goal.loop-i-preserved
loop-i-preserved c =
    let ends = turn_ends _ _ _ _ _ c.byte_at.ensures c.loop-i-test.true c.in-Ok.ensures in
    let more = row_more _ _ _ _ _ _ _ _ _ c.loop-i.invariant.to_come c.byte_at.ensures c.loop-i-test.true c.in-Ok.ensures in
    record { to_come = cc (more, c.put.ensures); stops = ends.stops; inside = ends.inside; counted = omega (arith, ends.after) }
