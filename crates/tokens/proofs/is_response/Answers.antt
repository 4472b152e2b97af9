-- `tokens::is_response` meets its contract: what one token leads to, and the end. Assumes nothing.
use mathlib.Core.Path.{sym, ap, ◌∙◌}
use borrow.Author.Rules.{rules}
use Rattle.tokens.specs.Check.{accepts}
use Rattle.tokens.proofs.Checked.{tells, accepts-more, accepts_end, accepts_nowhere}
use Rattle.tokens.proofs.is_response.Goals as goal

pub returns-in_default : goal.returns-in_default
returns-in_default c =
    let run = c.loop-token in
    tells _ _ run.invariant.1
    (sym (accepts-more _ run.token-index run.state c.loop-token-test.true ∙ ap (accepts _) (sym c.step.ensures ∙ c.in_default.is) ∙ accepts_nowhere _)
    ∙ run.invariant.2)

pub loop-token-preserved : goal.loop-token-preserved
loop-token-preserved c =
    let run = c.loop-token in (
      search rules,
      search rules,
      ap (accepts _) (sym c.in-Some.is ∙ c.step.ensures) ∙ sym (accepts-more _ run.token-index run.state c.loop-token-test.true) ∙ run.invariant.2,
    )

pub returns : goal.returns
returns c =
    let run = c.loop-token in
    tells _ _ run.invariant.1 (c.finished.ensures ∙ sym (accepts_end _ run.token-index run.state c.loop-token-test.false) ∙ run.invariant.2)
