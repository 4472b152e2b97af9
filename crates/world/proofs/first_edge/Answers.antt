-- `world::first_edge` meets its contract: the edges are a table, entered at the head of the node's chain. Assumes nothing.
use Rattle.tables.specs.Read.{cell}
use Rattle.index.proofs.Chains.{head-on}
use Rattle.world.specs.World.{edge_from}
use Rattle.world.proofs.Targets.{nodes_table, head_rows}
use Rattle.world.proofs.first_edge.Goals as goal

pub row_along-requires : goal.row_along-requires
unfolding cell
row_along-requires c =
    let e = c.requires.edges_held in
    record { table_held = nodes_table _ e.nodes; linked = e.links; on_chain = head-on _ _ _ _ e.links _ _ c.first_row.ensures }

pub returns : goal.returns
unfolding edge_from cell
returns c =
    head_rows _ _ _ _ _ c.requires.edges_held.links _ _ c.first_row.ensures _ _ c.row_along.ensures
