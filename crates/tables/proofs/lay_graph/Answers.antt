-- `tables::lay_graph` meets its contract. Assumes nothing.
use Prim.Native.Nat.{◌≤◌}
use native.Mathlib.Omega.{arith}
use mathlib.Core.Path.{ap, ◌∙◌}
use lib.ListN.{length, length-set}
use Rattle.tables.specs.Fill.{graph_counts_of}
use Rattle.tables.specs.declared.GraphCounts.{GraphCounts}
use Rattle.tables.proofs.Laying.{node-laid, property-laid, value-laid}
use Rattle.tables.proofs.lay_graph.Goals as goal
use Rattle.tables.proofs.lay_graph.Goals.{After-fill_graph-c}

-- each area has room for its head
node-long : (c : After-fill_graph-c) → 2 ≤ length c.fill_graph-c.new.g
node-long c =
    omega (arith, c.fill_graph-c.auto.g, c.clear.auto.area, c.requires.in_bounds)

property-long : (c : After-fill_graph-c) → 1 ≤ length c.fill_graph-c.new.p
property-long c =
    omega (arith, c.fill_graph-c.auto.p, c.clear-2.auto.area, c.requires.in_bounds_2)

value-long : (c : After-fill_graph-c) → 1 ≤ length c.fill_graph-c.new.v
value-long c =
    omega (arith, c.fill_graph-c.auto.v, c.clear-3.auto.area, c.requires.in_bounds_3)

pub fill_graph-c-requires : goal.fill_graph-c-requires
fill_graph-c-requires c =
    record { graph_fits = c.requires.graph_fits; in_bounds = omega (arith, c.requires.in_bounds, c.clear.auto.area); in_bounds_2 = omega (arith, c.requires.in_bounds_2, c.clear-2.auto.area); in_bounds_3 = omega (arith, c.requires.in_bounds_3, c.clear-3.auto.area) }

pub bounds-g-1 : goal.bounds-g-1
bounds-g-1 c = simp length-set (omega (arith, node-long (goal.at.bounds-g-1 c).After-fill_graph-c))

pub shape_of-g : goal.shape_of-g
shape_of-g c =
    simp length-set (c.fill_graph-c.auto.g ∙ c.clear.auto.area)

pub shape_of-p : goal.shape_of-p
shape_of-p c =
    simp length-set (c.fill_graph-c.auto.p ∙ c.clear-2.auto.area)

pub shape_of-v : goal.shape_of-v
shape_of-v c =
    simp length-set (c.fill_graph-c.auto.v ∙ c.clear-3.auto.area)

pub returns : goal.returns
unfolding graph_counts_of
returns c =
    let counts = c.fill_graph-c.ensures.value in
    record {
      g_after = node-laid _ _ _ _ c.clear.ensures _ _ (node-long (goal.at.returns c).After-fill_graph-c) c.fill_graph-c.ensures.g_after (ap (λ (x : GraphCounts). x.nodes) counts)
          (ap (λ (x : GraphCounts). x.edges) counts);
      p_after = property-laid _ _ _ _ c.clear-2.ensures _ (property-long (goal.at.returns c).After-fill_graph-c) c.fill_graph-c.ensures.p_after (ap (λ (x : GraphCounts). x.properties) counts);
      v_after = value-laid _ _ _ _ c.clear-3.ensures _ (value-long (goal.at.returns c).After-fill_graph-c) c.fill_graph-c.ensures.v_after (ap (λ (x : GraphCounts). x.values) counts);
    }
