-- `query::QueryEntry::has_child` meets its contract. One law for each kind of entry met. Assumes nothing.
use native.Mathlib.Omega.{arith}
use borrow.Author.Rules.{rules}
use Rattle.tables.specs.Read.{cell}
use Rattle.query.proofs.Children.{child_found, child-laws}
use Rattle.query.proofs.held.QueryEntry.has_child.Goals as goal

pub loop-j-init : goal.loop-j-init
unfolding cell
loop-j-init c = search (child-laws, rules)

pub invariant_of-later : goal.invariant_of-later
unfolding cell
invariant_of-later c = record { held = c.args.self.now.held; inside = omega (arith, c.len-j-end.ensures, c.loop-j-test.true) }

pub returns-then-e-d : goal.returns-then-e-d
unfolding cell
returns-then-e-d c = search (child-laws, rules)

pub returns-then-e-d-2 : goal.returns-then-e-d-2
unfolding cell
returns-then-e-d-2 c =
    child_found _ _ _ _ _ _ c.loop-j.invariant.0 (omega (arith, c.len-j-end.ensures)) c.cell-d.ensures
    c.cell-e.ensures c.if-e-d.false (omega arith)

pub loop-j-preserved : goal.loop-j-preserved
unfolding cell
loop-j-preserved c = search (child-laws, rules)

pub returns : goal.returns
unfolding cell
returns c = search (child-laws, rules)
