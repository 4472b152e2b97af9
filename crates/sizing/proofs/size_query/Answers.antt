use Prim.Native.Nat.{◌≤◌}
use native.Mathlib.Omega.{arith}
use mathlib.Core.Path.{◌∙◌}
use lib.ListN.{length}
use Rattle.tables.specs.Read.{cell}
use Rattle.sizing.proofs.Passes.{sized-start, sized_end, sized-flat, sized-down}
use Rattle.sizing.proofs.size_query.Goals as goal
use Rattle.sizing.proofs.size_query.Goals.{At-loop-k, After-cell-d, then-d-lt15, else-d-lt15}

-- the areas at the loop, and the depth of an entry
wide : (c : At-loop-k) → 8192 ≤ length c.loop-k.m
wide c =
    omega (arith, c.loop-k.auto.m, c.first_row.auto.m, c.requires.in_bounds)

low : (c : After-cell-d) → c.cell-d.result ≤ 15
unfolding cell
low c =
    let inside = rw c.len-k-end.ensures at c.loop-k-test.true in
    let deep = c.requires.query_steps.held.depths c.loop-k.k inside in
    omega (arith, c.cell-d.ensures)

pub loop-k-init : goal.loop-k-init
unfolding cell
loop-k-init c =
    let nodes = c.args.w.now.held.graph.edges.nodes.nodes in
    sized-start _ _ _ _ _ c.requires.query_steps _ _ (omega (arith, nodes, c.requires.in_bounds)) c.first_row.ensures

pub invariant_of-entry : goal.invariant_of-entry
unfolding cell
invariant_of-entry c = record { held = c.args.q.now.held; inside = rw c.len-k-end.ensures at c.loop-k-test.true }

pub tally_row-t-requires-clause-g_in_bounds : goal.tally_row-t-requires-clause-g_in_bounds
unfolding cell
tally_row-t-requires-clause-g_in_bounds c =
    let at = goal.at.tally_row-t-requires-clause-g_in_bounds c in
    omega (arith, low at.After-cell-d, wide at.At-loop-k, c.args.w.now.held.graph.edges.nodes.nodes)

pub tally_row-t-requires-clause-visits_bound : goal.tally_row-t-requires-clause-visits_bound
unfolding cell
tally_row-t-requires-clause-visits_bound c =
    omega (arith, c.loop-k.invariant.few, c.requires.query_steps.held.entries, c.len-k-end.ensures, c.loop-k-test.true)

pub loop-k-preserved : goal.loop-k-preserved
unfolding cell
loop-k-preserved c =
    let inv = c.loop-k.invariant in
    let world = c.args.w.now.held in
    let held = c.requires.query_steps.held in
    let inside = rw c.len-k-end.ensures at c.loop-k-test.true in
    let depth = c.cell-d.ensures in
    let sum = c.tally_row-t.ensures in
    let areas = wide (goal.at.loop-k-preserved c).At-loop-k in
    elim c.if-d-lt15.branch [
      | then-d-lt15 w ↦
          sized-down _ _ _ _ _ _ _ _ inv _ _ _ world held inside depth sum.value sum.visits_bound_2 w.if-d-lt15.true areas (w.m-is ∙ w.pass_row.ensures)
      | else-d-lt15 w ↦
          sized-flat _ _ _ _ _ _ _ _ inv _ _ _ world held inside depth sum.value sum.visits_bound_2 w.if-d-lt15.false w.m-is
    ]

pub returns : goal.returns
unfolding cell
returns c = sized_end _ _ _ _ _ _ _ _ c.loop-k.invariant (rw c.len-k-end.ensures at c.loop-k-test.false)
