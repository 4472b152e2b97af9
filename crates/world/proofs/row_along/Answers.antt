use native.Mathlib.Omega.{arith}
use Rattle.index.proofs.Chains.{next-on, next-less}
use Rattle.world.proofs.Reading.{from_hit, from_on, from_end}
use Rattle.world.proofs.row_along.Goals as goal

pub returns-then-matches : goal.returns-then-matches
returns-then-matches c =
    from_hit _ _ _ _ _ _ _ c.loop-j.invariant.0 _ c.loop-j-test.true c.matches.ensures c.if-matches.true

pub loop-j-smaller : goal.loop-j-smaller
loop-j-smaller c =
    next-less _ _ _ _ c.requires.linked _ _ c.loop-j-test.true (c.loop-j.invariant.1.own c.loop-j-test.true) _
    c.next_row-j.ensures

pub loop-j-preserved : goal.loop-j-preserved
loop-j-preserved c =
    let v = c.loop-j.invariant in
    let t = c.loop-j-test.true in
    let k = c.requires.linked in (
      from_on _ _ _ _ _ _ _ v.0 _ _ _ _ k t c.matches.ensures c.if-matches.false (v.1.own t) c.next_row-j.ensures,
      next-on _ _ _ _ k _ _ t (v.1.own t) _ c.next_row-j.ensures,
    )

pub returns : goal.returns
returns c = from_end _ _ _ _ _ _ _ c.loop-j.invariant.0 (omega arith)
