-- `query::arg_passes` meets its contract. Assumes nothing.
use mathlib.Core.Path.{◌∙◌}
use Rattle.query.specs.Faults.{arg_passes}
use Rattle.query.proofs.Arguments.{other_taken}
use Rattle.query.proofs.arg_passes.Goals as goal

pub returns-in-Numbers : goal.returns-in-Numbers
unfolding arg_passes
returns-in-Numbers c = rw (c.in-Numbers.is) c.declared_arg.ensures

pub returns-in_default : goal.returns-in_default
returns-in_default c = c.takes_arg.ensures ∙ other_taken _ _ _ _ c.in_default.not-Numbers
