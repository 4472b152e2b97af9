-- `sizing::zero_row` meets its contract: the row is a part of the area, which is filled. Assumes nothing.
use native.Mathlib.Omega.{arith}
use lib.ListN.{length-take, length-drop}
use Rattle.sizing.proofs.Rows.{part_zeroed}
use Rattle.sizing.proofs.zero_row.Goals as goal

pub returns : goal.returns
returns c =
    part_zeroed c.args.b _ _ c.args.n _ _ (omega arith) (simp (length-take, length-drop) (omega arith)) (c.fill.ensures.after (λ y e. e))
