use Rattle.tables.specs.Read.{cell}
use Rattle.world.proofs.Reading.{root_all, root_found, root_on, root_end}
use Rattle.world.proofs.query_node.Goals as goal

pub loop-u-init : goal.loop-u-init
loop-u-init c = root_all _ _

pub returns-then-eq : goal.returns-then-eq
unfolding cell
returns-then-eq c =
    let t = c.query_type-t.ensures in
    root_found _ _ _ c.loop-u.invariant _ _ c.loop-u-test.true t c.type_of.ensures _ c.eq.ensures c.if-eq.true

pub loop-u-preserved : goal.loop-u-preserved
unfolding cell
loop-u-preserved c =
    let t = c.query_type-t.ensures in
    root_on _ _ _ c.loop-u.invariant _ _ c.loop-u-test.true t c.type_of.ensures _ c.eq.ensures c.if-eq.false

pub returns : goal.returns
unfolding cell
returns c = root_end _ _ _ c.loop-u.invariant c.loop-u-test.false
