-- `world::lookup` meets its contract: the properties are a table, entered at the head of the node's chain. Assumes nothing.
use mathlib.Core.Path.{◌≡◌}
use Rattle.tables.specs.Read.{cell}
use Rattle.index.proofs.Chains.{head-on}
use Rattle.world.specs.World.{asked_at, row_from}
use Rattle.world.proofs.Targets.{head_rows}
use Rattle.world.proofs.Reading.{lookup_row, lookup_none}
use Rattle.world.proofs.lookup.Goals as goal
use Rattle.world.proofs.lookup.Goals.{After-row_along-j}

-- what the walk found is the first of all rows
found : (c : After-row_along-j)
    → c.row_along-j.result
    ≡ row_from c.args.p.now 8 (cell c.args.p.now 0) c.args.u
    (asked_at c.args.q.now.area.now c.args.q.now.place) 0
unfolding cell
found c =
    head_rows _ _ _ _ _ c.requires.linked _ _ c.first_row.ensures _ _ c.row_along-j.ensures

pub row_along-j-requires : goal.row_along-j-requires
unfolding cell
row_along-j-requires c =
    record { table_held = c.requires.table_held; linked = c.requires.linked; on_chain = head-on _ _ _ _ c.requires.linked _ _ c.first_row.ensures }

pub returns-then-j-n : goal.returns-then-j-n
unfolding cell
returns-then-j-n c = lookup_row _ _ _ _ (found (goal.at.returns-then-j-n c).After-row_along-j) c.if-j-n.true

pub returns-else-j-n : goal.returns-else-j-n
unfolding cell
returns-else-j-n c = lookup_none _ _ _ _ (found (goal.at.returns-else-j-n c).After-row_along-j) c.if-j-n.false
