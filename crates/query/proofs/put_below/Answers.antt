-- `query::put_below` meets its contract. Assumes nothing.
use Prim.Native.Nat.{◌+◌, ◌-◌}
use mathlib.Core.Path.{◌≡◌, ap, ◌∙◌}
use lib.ListN.{length, replicate}
use native.Mathlib.Omega.{arith}
use borrow.Rule.Slice.PartMut.{put_mid, mid_len}
use Rattle.query.proofs.Lines.{put_filled}
use Rattle.query.proofs.put_below.Goals as goal

pub returns : goal.returns
returns c =
    let xs = c.args.contexts.now in
    let t = c.args.t in
    let i = c.args.d + 1 in
    let n = length xs - i in
    let filled : c.fill.new.self ≡ replicate n t =
    c.fill.ensures.after (λ y e. e) ∙ ap (λ m. replicate m t) (mid_len i (length xs) xs (omega arith)) in
    ap (put_mid i n xs) filled ∙ put_filled t i n xs (omega arith)
