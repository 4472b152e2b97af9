-- `world::shape` meets its contract. Assumes nothing.
use borrow.Author.Rules.{rules}
use Rattle.world.proofs.Reading.{shape-laws}
use Rattle.world.proofs.shape.Goals as goal

pub returns-then-is_scalar : goal.returns-then-is_scalar
returns-then-is_scalar c = search (shape-laws, rules)

pub returns-then-list_mark-eq1 : goal.returns-then-list_mark-eq1
returns-then-list_mark-eq1 c = search (shape-laws, rules)

pub returns : goal.returns
returns c = search (shape-laws, rules)
