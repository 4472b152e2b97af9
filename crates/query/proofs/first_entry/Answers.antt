-- `query::first_entry` meets its contract. Assumes nothing.
use Prim.Native.Nat.{◌≤◌}
use mathlib.Core.Path.{refl}
use native.Mathlib.Omega.{arith}
use Rattle.tables.specs.Read.{cell}
use Rattle.query.proofs.Lines.{reached-start, reached_end, reached-stop, reached-on, shallow}
use Rattle.query.proofs.first_entry.Goals as goal
use Rattle.query.proofs.first_entry.Goals.{After-cell-d}

at-most-15 : (g : _) (c : After-cell-d g) → c.cell-d.result ≤ 15
unfolding cell
at-most-15 g c = shallow _ _ _ c.args.q.now.held (omega (arith, c.len-k-end.ensures)) c.cell-d.ensures

pub loop-k-init : goal.loop-k-init
loop-k-init g c = (reached-start _ _ _ _ c.query_type-contexts.ensures, omega arith)

pub invariant_of-entry : goal.invariant_of-entry
unfolding cell
invariant_of-entry g c = record { held = c.args.q.now.held; inside = omega (arith, c.len-k-end.ensures, c.loop-k-test.true) }

pub bounds-contexts-d : goal.bounds-contexts-d
bounds-contexts-d g c = let bound = at-most-15 g (goal.at.bounds-contexts-d g c).After-cell-d in omega arith

pub returns-in-Some : goal.returns-in-Some
unfolding cell
returns-in-Some g c = (
  c.into-check.result,
  c.into-check.ensures,
  reached-stop _ _ _ _ _ _ c.loop-k.invariant.0 c.args.q.now.held (omega (arith, c.len-k-end.ensures)) _ c.cell-d.ensures _ _ refl _
      c.entry_fault.ensures _ c.in-Some.is,
)

pub put_below-requires : goal.put_below-requires
put_below-requires g c =
    let bound = at-most-15 g (goal.at.put_below-requires g c).After-cell-d in
    let size = c.loop-k.invariant.0.contexts.size in
    omega arith

pub overflow_add-deepest : goal.overflow_add-deepest
overflow_add-deepest g c = let bound = at-most-15 g (goal.at.overflow_add-deepest g c).After-cell-d in omega arith

pub loop-k-preserved : goal.loop-k-preserved
unfolding cell
loop-k-preserved g c =
    let on = reached-on _ _ _ _ _ _ c.loop-k.invariant.0 c.args.q.now.held (omega (arith, c.len-k-end.ensures)) _ c.cell-d.ensures _ _ refl _
    c.entry_fault.ensures _ _ c.in_default.is c.hands_down.ensures c.put_below.ensures in
    (on, omega arith)

pub returns : goal.returns
unfolding cell
returns g c =
    (c.into-check.result, c.into-check.ensures, reached_end _ _ _ _ _ _ c.loop-k.invariant.0 (omega (arith, c.len-k-end.ensures)))
