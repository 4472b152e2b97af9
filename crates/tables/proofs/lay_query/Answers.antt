-- `tables::lay_query` meets its contract. Assumes nothing.
use native.Mathlib.Omega.{arith}
use mathlib.Core.Path.{◌∙◌}
use lib.ListN.{length-set}
use Rattle.tables.proofs.Laying.{query-laid}
use Rattle.tables.proofs.lay_query.Goals as goal

pub fill_query-entries-requires : goal.fill_query-entries-requires
fill_query-entries-requires c =
    record { s_len_bound_2 = c.requires.s_len_bound_2; in_bounds = omega (arith, c.requires.in_bounds, c.clear.auto.area) }

pub shape_of-area : goal.shape_of-area
shape_of-area c =
    simp length-set (c.fill_query-entries.auto.area ∙ c.clear.auto.area)

pub returns : goal.returns
returns c =
    query-laid _ _ _ _ c.clear.ensures _ (omega (arith, c.fill_query-entries.auto.area, c.clear.auto.area, c.requires.in_bounds)) c.fill_query-entries.ensures.area_after c.fill_query-entries.ensures.value
