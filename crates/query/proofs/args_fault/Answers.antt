-- `query::args_fault` meets its contract: the loop over the arguments. Assumes nothing.
use native.Mathlib.Omega.{arith}
use borrow.Author.Rules.{rules}
use Rattle.query.proofs.Arguments.{args-done, arg_laws, args-stop, args-on}
use Rattle.query.proofs.args_fault.Goals as goal

pub loop-i-init : goal.loop-i-init
loop-i-init c = search (arg_laws, rules)

pub returns-then-not-arg_passes : goal.returns-then-not-arg_passes
returns-then-not-arg_passes c =
    args-stop _ _ _ _ _ _ _ _ c.args.q.now.held c.args.q.now.inside c.cell-i-end.ensures c.loop-i-test.true
    c.loop-i.invariant.0 c.cell.ensures c.arg_passes.ensures c.if-not-arg_passes.true

pub loop-i-preserved : goal.loop-i-preserved
loop-i-preserved c =
    let on = args-on _ _ _ _ _ _ _ _ c.args.q.now.held c.args.q.now.inside c.cell-i-end.ensures c.loop-i-test.true
    c.loop-i.invariant.0 c.cell.ensures c.arg_passes.ensures c.if-not-arg_passes.false in
    (on, omega arith)

pub returns : goal.returns
returns c = search args-done
