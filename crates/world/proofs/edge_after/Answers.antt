-- `world::edge_after` meets its contract: the node's chain is entered behind one of its edges. Assumes nothing.
use mathlib.Core.Path.{sym, ◌∙◌}
use Rattle.tables.specs.Read.{cell}
use Rattle.index.proofs.Chains.{next-on}
use Rattle.world.specs.World.{edge_from}
use Rattle.world.proofs.Targets.{nodes_table, next-rows}
use Rattle.world.proofs.edge_after.Goals as goal

pub row_along-requires : goal.row_along-requires
unfolding cell
row_along-requires c =
    let e = c.requires.edges_held in
    record { table_held = nodes_table _ e.nodes; linked = e.links; on_chain = next-on _ _ _ _ e.links _ _ c.requires.e_bound c.requires.e_value _ c.next_row.ensures }

pub returns : goal.returns
unfolding edge_from cell
returns c =
    c.row_along.ensures ∙ sym (next-rows _ _ _ _ _ c.requires.edges_held.links _ _ c.requires.e_bound c.requires.e_value _ c.next_row.ensures _)
