use Prim.Native.Nat.{◌+◌, ◌≤◌}
use mathlib.Core.Path.{◌≡◌, ◌∙◌}
use lib.ListN.{length}
use Rattle.sizing.proofs.Rows.{zeroed-length}
use Rattle.tables.specs.Read.{cell}
use Rattle.sizing.proofs.Passing.{passing-none, passing-on, passing-by, passing-all, passed_on_lem, next_nodes}
use native.Mathlib.Omega.{arith}
use borrow.Author.Rules.{rules}
use Rattle.sizing.proofs.pass_row.Goals as goal
use Rattle.sizing.proofs.pass_row.Goals.{At-loop-u, then-x-gt0, else-x-gt0}

-- the area at the loop's start is as long as it was
same : (c : At-loop-u) → length c.zero_row.new.m ≡ length c.args.m.now
unfolding cell
same c = zeroed-length _ _ c.args.m.now _ c.zero_row.ensures c.requires.g_in_bounds

room : (c : At-loop-u)
    → c.args.b + cell c.args.w.now.nodes.now 0 ≤ length c.zero_row.new.m
room c = omega (arith, same c, c.requires.g_in_bounds)

pub zero_row-requires : goal.zero_row-requires
unfolding cell
zero_row-requires c = search rules

pub loop-u-init : goal.loop-u-init
unfolding cell
loop-u-init c =
    passing-none _ _ _ _ c.args.m.now _ c.requires.g_bound c.requires.g_in_bounds c.zero_row.ensures

pub number_at-x-requires : goal.number_at-x-requires
unfolding cell
number_at-x-requires c = search rules

pub pass_on-requires-clause-u_bound : goal.pass_on-requires-clause-u_bound
unfolding cell
pass_on-requires-clause-u_bound c = c.loop-u-test.true

pub loop-u-preserved : goal.loop-u-preserved
unfolding cell
loop-u-preserved c =
    let t = c.loop-u-test.true in
    let x = c.number_at-x.ensures in
    let low = c.requires.g_bound in
    let nodes = next_nodes _ _ _ _ _ c.args.w.now.held.graph.edges t in
    let wide = room (goal.at.loop-u-preserved c).At-loop-u in
    elim c.if-x-gt0.branch [
      | then-x-gt0 w ↦ passing-on _ _ _ _ _ low wide _ _ c.loop-u.invariant t _ x _ nodes (w.m-is ∙ w.pass_on.ensures)
      | else-x-gt0 w ↦ passing-by _ _ _ _ _ low wide _ _ c.loop-u.invariant t _ x _ w.if-x-gt0.false w.m-is
    ]

pub returns : goal.returns
unfolding cell
returns c =
    let z = c.zero_row.ensures in
    passed_on_lem _ _ _ _ _ _ _ _
    (passing-all _ _ _ _ c.args.m.now _ c.requires.g_bound c.requires.g_in_bounds z _ _ c.loop-u.invariant c.loop-u-test.false)
