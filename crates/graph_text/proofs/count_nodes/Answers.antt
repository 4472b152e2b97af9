-- `graph_text::count_nodes` meets its contract: one node more keeps the count (`Counting`), and at the end all are counted. Assumes nothing.
use mathlib.Core.Path.{sym}
use native.Mathlib.Omega.{arith}
use Rattle.tables.specs.Read.{cell}
use Rattle.graph_text.proofs.Counting.{passed_none, passed_hit, passed_miss, passed-all}
use Rattle.graph_text.proofs.count_nodes.Goals as goal
use Rattle.graph_text.proofs.count_nodes.Goals.{then-eq, else-eq}

pub loop-u-init : goal.loop-u-init
loop-u-init c = (passed_none _ _, omega arith)

pub loop-u-preserved : goal.loop-u-preserved
unfolding cell
loop-u-preserved c =
    let inv = c.loop-u.invariant in
    elim c.if-eq.branch [
      | then-eq w ↦
          (rw w.found-is (passed_hit _ _ _ _ _ inv.0 c.loop-u-test.true c.type_of.ensures (sym w.if-eq.ensures)), omega (arith, w.found-is))
      | else-eq w ↦
          (rw w.found-is (passed_miss _ _ _ _ _ inv.0 c.loop-u-test.true c.type_of.ensures (sym w.if-eq.ensures)), omega (arith, w.found-is))
    ]

pub returns : goal.returns
unfolding cell
returns c = passed-all _ _ _ _ c.loop-u.invariant.0 (omega arith)
