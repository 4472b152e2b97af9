-- `world::value_at` meets its contract. Assumes nothing.
use native.Mathlib.Omega.{arith}
use Rattle.world.proofs.Reading.{value-inside, value-here}
use Rattle.world.proofs.value_at.Goals as goal

pub overflow_add-result-2 : goal.overflow_add-result-2
overflow_add-result-2 c =
    let h = value-inside _ _ _ c.args.p.now.held c.args.p.now.inside _ _ c.wide_at.ensures c.requires.i_in_bounds in
    omega (arith, c.requires.v_len_bound)

pub offset_bounds-p-wide_at : goal.offset_bounds-p-wide_at
offset_bounds-p-wide_at c =
    let h = value-inside _ _ _ c.args.p.now.held c.args.p.now.inside _ _ c.wide_at.ensures c.requires.i_in_bounds in
    omega (arith, c.requires.v_len_bound)

pub bounds-p-wide_at : goal.bounds-p-wide_at
bounds-p-wide_at c =
    value-inside _ _ _ c.args.p.now.held c.args.p.now.inside _ _ c.wide_at.ensures c.requires.i_in_bounds

pub returns : goal.returns
returns c =
    value-here _ _ _ c.args.p.now.held c.args.p.now.inside _ _ c.wide_at.ensures c.requires.i_in_bounds
