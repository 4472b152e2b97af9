-- `sizing::first_row` meets its contract. Assumes nothing.
use mathlib.Core.List.{[]}
use Rattle.tables.specs.Read.{cell}
use Rattle.world.specs.World.{world_at}
use Rattle.world.proofs.Targets.{world-size}
use Rattle.sizing.proofs.Rows.{first-laid}
use borrow.Author.Rules.{rules}
use Rattle.sizing.proofs.first_row.Goals as goal

pub zero_row-requires : goal.zero_row-requires
unfolding cell
zero_row-requires c = search rules

pub returns : goal.returns
unfolding cell
returns c =
    let a = c.args.w.now.schema.now in
    let g = c.args.w.now.nodes.now in
    let z = c.zero_row.ensures in
    first-laid (world_at a g [] []) _ _ _ c.args.m.now _ (world-size a g [] []) c.requires.g_bound c.requires.g_in_bounds z c.query_node.ensures
