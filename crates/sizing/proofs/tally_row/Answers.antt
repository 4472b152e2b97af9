use Prim.Native.Nat.{◌+◌, ◌≤◌}
use native.Mathlib.Omega.{arith}
use mathlib.Core.Path.{sym, ap, ◌∙◌}
use lib.ListN.{length}
use Rattle.tables.specs.Read.{cell}
use Rattle.sizing.specs.declared.Tally.{Tally}
use Rattle.sizing.proofs.Tallying.{tally_end, tally-on, tally_skip, visits-added}
use Rattle.sizing.proofs.tally_row.Goals as goal
use Rattle.sizing.proofs.tally_row.Goals.{At-loop-u, then-x-gt0, else-x-gt0}

-- the row fits the area
row_fits : (c : At-loop-u) → let a = c.args in
    a.c + cell a.w.now.nodes.now 0 ≤ length a.m.now
row_fits c = c.requires.g_in_bounds

pub number_at-x-requires : goal.number_at-x-requires
unfolding cell
number_at-x-requires c = omega (arith, c.loop-u-test.true, row_fits (goal.at.number_at-x-requires c).At-loop-u)

pub add-r-requires : goal.add-r-requires
unfolding cell
add-r-requires c =
    omega (arith, c.loop-u.invariant.few, c.loop-u-test.true, c.args.w.now.held.graph.edges.nodes.nodes, c.requires.visits_bound)

pub loop-u-preserved : goal.loop-u-preserved
unfolding cell
loop-u-preserved c =
    let inside = c.loop-u-test.true in
    let i = c.loop-u.invariant in
    let read = c.number_at-x.ensures in
    let fits = row_fits (goal.at.loop-u-preserved c).At-loop-u in
    elim c.if-x-gt0.branch [
      | then-x-gt0 w ↦
          let adds = w.r-is ∙ w.add-r.ensures in
          let sum = tally-on _ _ _ _ _ _ fits _ _ _ _ inside read w.if-x-gt0.true _ w.own_tokens.ensures adds ∙ i.left in
          record { left = sum; few = omega (arith, visits-added _ _ _ _ adds, i.few) }
      | else-x-gt0 w ↦
          let sum = tally_skip _ _ _ _ _ _ fits _ _ _ _ inside read w.if-x-gt0.false w.r-is ∙ i.left in
          record { left = sum; few = omega (arith, ap (λ (t : Tally). t.visits) w.r-is, i.few) }
    ]

pub returns : goal.returns
unfolding cell
returns c =
    let inv = c.loop-u.invariant in
    record {
      value = sym (tally_end _ _ _ _ _ _ c.requires.g_in_bounds _ _ c.loop-u-test.false) ∙ inv.left;
      visits_bound_2 = omega (arith, inv.few, c.loop-u.auto.u-end);
    }
