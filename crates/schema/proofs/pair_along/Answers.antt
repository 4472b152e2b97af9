use native.Mathlib.Omega.{arith}
use mathlib.Core.Path.{sym, ◌∙◌, subst}
use Rattle.index.specs.Index.{head_in, next_in}
use Rattle.schema.proofs.Searching.{pair_found, pair_ended}
use Rattle.schema.proofs.Following.{Seeking, seek_less, seek_on, seek_bucket, pair-first}
use Rattle.schema.proofs.pair_along.Goals as goal

pub loop-j-init : goal.loop-j-init
unfolding head_in
loop-j-init c =
    subst (Seeking _ _ _) (sym c.first_row-j.ensures)
    (seek_bucket _ _ _ _ _ c.requires.chained _ (λ k h. pair-first _ _ _ _ k h))

pub returns-then-pair_at : goal.returns-then-pair_at
returns-then-pair_at c =
    pair_found _ _ _ _ _ _ _ c.loop-j.invariant.left c.loop-j-test.true c.pair_at.ensures c.if-pair_at.true

pub loop-j-smaller : goal.loop-j-smaller
unfolding next_in
loop-j-smaller c =
    omega (arith, seek_less c.loop-j.invariant c.loop-j-test.true, c.next_row-j.ensures, c.loop-j-test.true)

pub loop-j-preserved : goal.loop-j-preserved
unfolding next_in
loop-j-preserved c =
    subst (Seeking _ _ _) (sym c.next_row-j.ensures)
    (seek_on c.loop-j.invariant c.loop-j-test.true (sym c.pair_at.ensures ∙ c.if-pair_at.false))

pub returns : goal.returns
returns c = pair_ended _ _ _ _ _ _ c.loop-j.invariant.left (omega arith)
