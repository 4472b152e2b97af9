use Prim.Native.Nat.{◌<◌}
use native.Mathlib.Omega.{arith}
use mathlib.Core.Path.{refl}
use Rattle.rules.specs.Text.{rows}
use Rattle.tables.specs.Fill.{GraphFits}
use Rattle.tables.proofs.Turns.{Turn, turn, turned-few}
use Rattle.tables.proofs.Together.{left_rooms}
use Rattle.tables.proofs.GraphLaying.{graph-start, graph-on}
use Rattle.tables.proofs.GraphLaying.{nodes_end, edges_end, properties_end, nodes_all, properties-all, counts_end}
use Rattle.tables.proofs.Valuing.{valued-room, valued-all}
use Rattle.tables.proofs.fill_graph.Goals as goal
use Rattle.tables.proofs.fill_graph.Goals.{After-read_row-r, At-loop-at}

turned : (c : After-read_row-r) → Turn c.args.s.now.bytes.now c.loop-at.at c.read_row-r.result
turned c = turn _ _ _ c.loop-at.invariant.values_left.plain c.loop-at-test.true c.read_row-r.ensures

few : (c : After-read_row-r) → c.read_row-r.result.count < 100000
few c = omega (arith, turned-few (turned c), (turned c).inside, c.args.s.now.short)

-- the counts at the end
fits : (c : At-loop-at) → GraphFits (rows c.args.s.now.bytes.now)
fits c = c.requires.graph_fits

pub loop-at-init : goal.loop-at-init
loop-at-init c =
    graph-start c.args.s.now.plain c.requires.graph_fits c.requires.in_bounds c.requires.in_bounds_2 c.requires.in_bounds_3

pub overflow_sub-start : goal.overflow_sub-start
overflow_sub-start c = c.loop-at.invariant.values_left.after

pub overflow_cast-start : goal.overflow_cast-start
overflow_cast-start c =
    let f = c.loop-at.invariant.values_left in
    omega (arith, f.under, f.inside, c.args.s.now.short)

pub put_in-nodes-requires : goal.put_in-nodes-requires
put_in-nodes-requires c =
    record { letter_in_bounds = (left_rooms c.loop-at.invariant.nodes_left (turned (goal.at.put_in-nodes-requires c).After-read_row-r)).1.0; count_bound = few (goal.at.put_in-nodes-requires c).After-read_row-r }

pub put_in-edges-requires : goal.put_in-edges-requires
put_in-edges-requires c =
    record { letter_in_bounds = omega (arith, (left_rooms c.loop-at.invariant.nodes_left (turned (goal.at.put_in-edges-requires c).After-read_row-r)).0, c.put_in-nodes.auto.area); count_bound = few (goal.at.put_in-edges-requires c).After-read_row-r }

pub put_in-properties-requires : goal.put_in-properties-requires
put_in-properties-requires c =
    record { letter_in_bounds = (left_rooms c.loop-at.invariant.properties_left (turned (goal.at.put_in-properties-requires c).After-read_row-r)).0; count_bound = few (goal.at.put_in-properties-requires c).After-read_row-r }

pub put_values-values-requires : goal.put_values-values-requires
put_values-values-requires c =
    let t = turned (goal.at.put_values-values-requires c).After-read_row-r in
    record { at_in_bounds = c.loop-at-test.true; plain = t.here; r_value = c.read_row-r.ensures; at_in_bounds_2 = valued-room c.loop-at.invariant.values_left t }

pub loop-at-smaller : goal.loop-at-smaller
loop-at-smaller c = let t = turned (goal.at.loop-at-smaller c).After-read_row-r in omega arith

pub loop-at-preserved : goal.loop-at-preserved
loop-at-preserved c =
    graph-on c.loop-at.invariant (turned (goal.at.loop-at-preserved c).After-read_row-r) refl
    (c.put_in-nodes.ensures.value, c.put_in-nodes.ensures.area_after)
    (c.put_in-edges.ensures.value, c.put_in-edges.ensures.area_after)
    (c.put_in-properties.ensures.value, c.put_in-properties.ensures.area_after)
    (c.put_values-values.ensures.value, c.put_values-values.ensures.area_after)

pub overflow_sub-result : goal.overflow_sub-result
overflow_sub-result c = omega (arith, nodes_end c.loop-at.invariant c.loop-at-test.false)

pub overflow_cast-result : goal.overflow_cast-result
overflow_cast-result c = omega (arith, nodes_end c.loop-at.invariant c.loop-at-test.false, (fits (goal.at.overflow_cast-result c).At-loop-at).nodes)

pub overflow_sub-result-2 : goal.overflow_sub-result-2
overflow_sub-result-2 c = omega (arith, edges_end c.loop-at.invariant c.loop-at-test.false)

pub overflow_cast-result-2 : goal.overflow_cast-result-2
overflow_cast-result-2 c = omega (arith, edges_end c.loop-at.invariant c.loop-at-test.false, (fits (goal.at.overflow_cast-result-2 c).At-loop-at).edges)

pub overflow_sub-result-3 : goal.overflow_sub-result-3
overflow_sub-result-3 c = omega (arith, properties_end c.loop-at.invariant c.loop-at-test.false)

pub overflow_cast-result-3 : goal.overflow_cast-result-3
overflow_cast-result-3 c = omega (arith, properties_end c.loop-at.invariant c.loop-at-test.false, (fits (goal.at.overflow_cast-result-3 c).At-loop-at).properties)

pub overflow_sub-result-4 : goal.overflow_sub-result-4
overflow_sub-result-4 c = c.loop-at.invariant.values_left.after

pub overflow_cast-result-4 : goal.overflow_cast-result-4
overflow_cast-result-4 c =
    let f = c.loop-at.invariant.values_left in
    omega (arith, f.under, f.inside, c.args.s.now.short)

pub shape_of-g : goal.shape_of-g
shape_of-g c = c.loop-at.invariant.nodes_left.same

pub shape_of-p : goal.shape_of-p
shape_of-p c = c.loop-at.invariant.properties_left.same

pub shape_of-v : goal.shape_of-v
shape_of-v c = c.loop-at.invariant.values_left.same

pub returns : goal.returns
returns c =
    let f = c.loop-at.invariant in
    let e = c.loop-at-test.false in
    record { value = counts_end f e; g_after = nodes_all f e; p_after = properties-all f e; v_after = valued-all f.values_left e }
