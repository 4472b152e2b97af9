use Prim.Native.Nat.{◌+◌, ◌<◌}
use lib.ListN.{length}
use Rattle.tables.specs.Read.{cell}
use Rattle.world.proofs.Targets.{edges-fewer, edge-node}
use Rattle.sizing.proofs.Passing.{adding_start, adding_on, adding_end}
use native.Mathlib.Omega.{arith}
use Rattle.sizing.proofs.push_targets.Goals as goal
use Rattle.sizing.proofs.push_targets.Goals.{After-target}

-- the place of the target is in the area
room : (c : After-target) → c.args.b + c.target.result < length c.loop-e.m
unfolding cell
room c =
    let t = c.args.w.now.held.graph.edges.ends _ c.loop-e-test.true in
    omega (arith, t, c.target.ensures, c.loop-e.invariant.same, c.requires)

pub loop-e-init : goal.loop-e-init
loop-e-init c = adding_start _ _ _ _ _ _ _ c.first_edge-e.ensures

pub target-requires : goal.target-requires
unfolding cell
target-requires c = c.loop-e-test.true

pub add_at-requires : goal.add_at-requires
add_at-requires c = room (goal.at.add_at-requires c).After-target

pub edge_after-e-requires-clause-e_bound : goal.edge_after-e-requires-clause-e_bound
unfolding cell
edge_after-e-requires-clause-e_bound c = c.loop-e-test.true

pub edge_after-e-requires-clause-e_value : goal.edge_after-e-requires-clause-e_value
unfolding cell
edge_after-e-requires-clause-e_value c = edge-node _ _ _ _ _ c.loop-e.invariant.edge c.loop-e-test.true

pub loop-e-smaller : goal.loop-e-smaller
unfolding cell
loop-e-smaller c =
    edges-fewer _ _ _ _ _ c.loop-e-test.true c.edge_after-e.ensures

pub loop-e-preserved : goal.loop-e-preserved
unfolding cell
loop-e-preserved c =
    let t = c.target.ensures in
    let s = c.add_at.ensures in
    adding_on _ _ _ _ _ _ _ _ c.loop-e.invariant _ _ _ c.loop-e-test.true t s c.edge_after-e.ensures

pub returns : goal.returns
unfolding cell
returns c = adding_end _ _ _ _ _ _ _ _ c.loop-e.invariant c.loop-e-test.false
