-- `form::schema_fault` meets its contract, letter by letter. Assumes nothing.
use native.Mathlib.Omega.{arith}
use borrow.Author.Rules.{rules}
use Rattle.form.proofs.Letters.{schema_far, schema_near}
use Rattle.form.proofs.schema_fault.Goals.{in-77-1, in_default+else-r-lt70+then-r-lt73}
use Rattle.form.proofs.schema_fault.Goals as goal

pub returns-in-83 : goal.returns-in-83
returns-in-83 c = elim c.in-83-1.branch [
  | in-77-1 w ↦ search (schema_far, rules)
  | in_default+else-r-lt70+then-r-lt73 w ↦ schema_near _ _ _ _ (search rules) (omega arith) (omega arith) c.counted-in-83.ensures
]
