use Prim.Native.Nat.{◌-◌, ◌<◌}
use native.Mathlib.Omega.{arith}
use Rattle.tables.specs.Read.{wide_at}
use Rattle.index.proofs.Laying.{keys-start, keys_on, links-done}
use Rattle.index.proofs.lay_links.Goals as goal
use Rattle.index.proofs.lay_links.Goals.{After-row_cell-node}

small : (c : After-row_cell-node) → c.row_cell-node.result < 512
unfolding wide_at
small c = omega (arith, c.row_cell-node.ensures, c.requires.rowed.nodes.within (c.loop-j.j - 1) (omega arith))

pub loop-j-init : goal.loop-j-init
loop-j-init c = keys-start _ _ _ _ c.requires.rowed.nodes c.requires.blank

pub row_cell-node-requires : goal.row_cell-node-requires
row_cell-node-requires c = omega (arith, c.requires.rowed.long)

pub overflow_cast-node : goal.overflow_cast-node
overflow_cast-node c = omega (arith, small (goal.at.overflow_cast-node c).After-row_cell-node)

pub link_row-requires : goal.link_row-requires
link_row-requires c =
    let l = c.loop-j.invariant in
    record { at_in_bounds = omega (arith, c.requires.blank.long, l.same); at_bound = c.requires.blank.low; j_bound = omega (arith, c.requires.rowed.nodes.few); key_bound = small (goal.at.link_row-requires c).After-row_cell-node }

pub loop-j-preserved : goal.loop-j-preserved
unfolding wide_at
loop-j-preserved c =
    keys_on _ _ _ _ c.requires.rowed.nodes c.requires.blank _ _ _ c.loop-j.invariant (omega arith) _ c.row_cell-node.ensures _ c.link_row.ensures

pub shape_of-x : goal.shape_of-x
shape_of-x c = c.loop-j.invariant.same

pub returns : goal.returns
returns c = links-done _ _ _ _ _ c.loop-j.invariant (omega arith)
