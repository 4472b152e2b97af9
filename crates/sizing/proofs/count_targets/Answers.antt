use native.Mathlib.Omega.{arith}
use Rattle.tables.specs.Read.{cell}
use Rattle.world.proofs.Targets.{edges-fewer, edge-node}
use Rattle.sizing.proofs.Tallying.{counted_start, counted-few, counted_end, counted-on}
use Rattle.sizing.proofs.count_targets.Goals as goal

pub loop-e-init : goal.loop-e-init
loop-e-init c = counted_start _ _ _ 0 _ c.first_edge-e.ensures

pub overflow_add-n : goal.overflow_add-n
overflow_add-n c = omega (arith, counted-few _ _ _ _ _ c.loop-e.invariant, c.args.w.now.held.graph.edges.nodes.edges)

pub edge_after-e-requires-clause-e_bound : goal.edge_after-e-requires-clause-e_bound
unfolding cell
edge_after-e-requires-clause-e_bound c = c.loop-e-test.true

pub edge_after-e-requires-clause-e_value : goal.edge_after-e-requires-clause-e_value
unfolding cell
edge_after-e-requires-clause-e_value c = edge-node _ _ _ _ _ c.loop-e.invariant.first c.loop-e-test.true

pub loop-e-smaller : goal.loop-e-smaller
unfolding cell
loop-e-smaller c = edges-fewer _ _ _ _ _ c.loop-e-test.true c.edge_after-e.ensures

pub loop-e-preserved : goal.loop-e-preserved
unfolding cell
loop-e-preserved c = counted-on _ _ _ _ _ _ c.loop-e-test.true c.edge_after-e.ensures c.loop-e.invariant

pub returns : goal.returns
unfolding cell
returns c =
    let inv = c.loop-e.invariant in
    let held = c.args.w.now.held.graph.edges.nodes in
    record {
      value = counted_end _ _ _ _ _ c.loop-e-test.false inv;
      upper_bound = omega (arith, counted-few _ _ _ _ _ inv, held.edges);
    }
