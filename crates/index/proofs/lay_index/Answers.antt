-- `index::lay_index` meets its contract. Assumes nothing.
use native.Mathlib.Omega.{arith}
use Rattle.tables.specs.Read.{cell}
use Rattle.index.specs.Index.{index_at}
use Rattle.index.proofs.Laying.{blank_first, blank_second, index_laid}
use Rattle.index.proofs.lay_index.Goals as goal

pub overflow_cast-g : goal.overflow_cast-g
unfolding cell
overflow_cast-g c = omega (arith, c.requires.rowed.nodes.few)

pub lay_links-requires : goal.lay_links-requires
unfolding cell
lay_links-requires c =
    record { rowed = c.requires.rowed; blank = blank_first _ _ c.requires.in_bounds c.clear.ensures }

pub overflow_cast-p : goal.overflow_cast-p
unfolding cell
overflow_cast-p c = omega (arith, c.requires.rowed_2.nodes.few)

pub lay_links-requires-2 : goal.lay_links-requires-2
unfolding cell
lay_links-requires-2 c =
    record { rowed = c.requires.rowed_2; blank = blank_second _ _ c.requires.in_bounds c.clear.ensures _ _ c.lay_links.ensures }

pub returns : goal.returns
unfolding cell index_at
returns c =
    index_laid _ _ c.requires.in_bounds c.clear.ensures _ _ c.lay_links.ensures _ _ c.lay_links-2.ensures
