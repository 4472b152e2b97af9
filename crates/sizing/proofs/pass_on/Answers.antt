-- `sizing::pass_on` meets its contract. Assumes nothing.
use Rattle.tables.specs.Read.{cell}
use Rattle.sizing.proofs.Passing.{goes-stays, goes_nowhere, goes_scalar, goes-all, goes_first, goes_no_edge}
use native.Mathlib.Omega.{arith}
use Rattle.sizing.proofs.pass_on.Goals as goal

pub returns-then-holds : goal.returns-then-holds
returns-then-holds c =
    let letter = c.cell.ensures in
    let other = c.if-cell-ne-FIELD.true in
    let type = c.cell-then-cell-ne-FIELD.ensures in
    goes-stays _ _ _ _ _ _ _ _ _ letter other _ type _ c.holds.ensures _ c.if-holds.true c.add_at.ensures

pub returns-else-holds : goal.returns-else-holds
returns-else-holds c =
    let letter = c.cell.ensures in
    let other = c.if-cell-ne-FIELD.true in
    let type = c.cell-then-cell-ne-FIELD.ensures in
    goes_nowhere _ _ _ _ _ _ _ _ _ letter other _ type _ c.holds.ensures c.if-holds.false

pub returns-in-Scalar : goal.returns-in-Scalar
returns-in-Scalar c =
    let name = c.cell-2.ensures in
    let shape = c.shape.ensures in
    goes_scalar _ _ _ _ _ _ _ _ _ c.cell.ensures c.if-cell-ne-FIELD.false _ name _ shape c.in-Scalar.is

pub returns-in-Objects : goal.returns-in-Objects
returns-in-Objects c =
    let letter = c.cell.ensures in
    let name = c.cell-2.ensures in
    let shape = c.shape.ensures in
    let all = c.push_targets.ensures in
    goes-all _ _ _ _ _ _ _ _ _ letter c.if-cell-ne-FIELD.false _ name _ shape _ c.in-Objects.is all

pub target-requires : goal.target-requires
unfolding cell
target-requires c = c.if-e-w.true

pub add_at-requires-then-e-w : goal.add_at-requires-then-e-w
unfolding cell
add_at-requires-then-e-w c =
    let t = c.args.w.now.held.graph.edges.ends _ c.if-e-w.true in
    omega (arith, t, c.target.ensures, c.requires)

pub returns-then-e-w : goal.returns-then-e-w
unfolding cell
returns-then-e-w c =
    let letter = c.cell.ensures in
    let name = c.cell-2.ensures in
    let shape = c.shape.ensures in
    let edge = c.first_edge-e.ensures in
    let one = c.add_at-then-e-w.ensures in
    goes_first _ _ _ _ _ _ _ _ _ letter c.if-cell-ne-FIELD.false _ name _ shape c.in-Object.is _ edge _ _ c.if-e-w.true c.target.ensures one

pub returns-else-e-w : goal.returns-else-e-w
unfolding cell
returns-else-e-w c =
    let letter = c.cell.ensures in
    let name = c.cell-2.ensures in
    let shape = c.shape.ensures in
    let edge = c.first_edge-e.ensures in
    goes_no_edge _ _ _ _ _ _ _ _ _ letter c.if-cell-ne-FIELD.false _ name _ shape c.in-Object.is _ edge c.if-e-w.false
