-- `checks::pass` meets its contract: it answers what is found. Assumes nothing.
use mathlib.Core.Path.{sym, ◌∙◌}
use Rattle.checks.specs.Verdict.{refused_by}
use Rattle.checks.proofs.Judging.{judged-at, judged-past, judged-none}
use Rattle.checks.proofs.pass.Goals as goal

pub returns-in-Some : goal.returns-in-Some
unfolding refused_by
returns-in-Some c = sym (judged-at c.args.number c.args.found _ _ c.in-Some.is)

pub returns-in-None : goal.returns-in-None
returns-in-None c = sym (judged-past c.args.number c.args.found _ c.in-None.is ∙ judged-none)
