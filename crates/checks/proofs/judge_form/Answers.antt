-- `checks::judge_form` meets its contract: each return is the first of the two checks that is offended, by the laws of `Opening`.
-- Assumes nothing.
use native.Mathlib.Omega.{arith}
use mathlib.Core.Path.{sym, ap, ◌∙◌}
use lib.ListN.{length}
use Rattle.std.specs.Prelude.{ℕ, ◌≤◌}
use Rattle.std.proofs.lemmas.Result.{err_from_is_err_and}
use Rattle.rules.specs.declared.TextKind.{TextKind}
use Rattle.rules.specs.Text.{lines}
use Rattle.rules.specs.Search.{spot, first_line}
use Rattle.rules.specs.Forms.{breaks}
use Rattle.rules.specs.Kinds.{forms_of}
use Rattle.rules.proofs.Told.{told}
use Rattle.checks.specs.Verdict.{refused_by}
use Rattle.checks.proofs.Opening.{at_length, Forms, at-form, form-plain, at-maxima, maxima-ready, maxima-not_indexed}
use Rattle.checks.proofs.judge_form.Goals as goal
use Rattle.checks.proofs.judge_form.Goals.{After-pass}

-- what is asked of the form comes to what the code passes on. Each answer takes the length from what is known at its goal, so that a slip in
-- the test is refused there
forms : (c : After-pass) → length c.args.s.now ≤ 65535 → Forms c.args.kind c.args.s.now c.pass.result
forms c short =
    record {
      short = short;
      is = c.pass.ensures ∙ rw (c.first_check-number.ensures.value, told (λ (k : TextKind). first_line (breaks (forms_of k)) (lines c.args.s.now)) c.first_broken.ensures);
    }

pub returns-then-s-gt65535 : goal.returns-then-s-gt65535
returns-then-s-gt65535 c =
    c.refuse.ensures
    ∙ ap (λ (n : ℕ). refused_by n (spot 0 0)) c.first_check-number.ensures.value
    ∙ sym (at_length c.args.kind c.args.s.now (omega arith))

pub returns-in_err-pass : goal.returns-in_err-pass
returns-in_err-pass c =
    let p = err_from_is_err_and c.from_residual.result c.from_residual.ensures.1 in
    rw (p.1, p.2) (at-form (forms (goal.at.returns-in_err-pass c).After-pass (omega arith)) c.in_err-pass.was)

pub invariant_of-text : goal.invariant_of-text
invariant_of-text c =
    let kept = forms (goal.at.invariant_of-text c).After-pass (omega arith) in
    record { short = kept.short; plain = form-plain kept c.in_ok-pass.was }

pub first_offence-offence-requires-clause-ready : goal.first_offence-offence-requires-clause-ready
first_offence-offence-requires-clause-ready c = rw c.maxima.ensures (maxima-ready c.args.kind _ _)

pub first_offence-offence-requires-clause-index_ready : goal.first_offence-offence-requires-clause-index_ready
first_offence-offence-requires-clause-index_ready c = rw c.maxima.ensures (maxima-not_indexed c.args.kind _ _ _)

pub returns : goal.returns
returns c =
    let said = rw (c.first_check-number.ensures.value, c.first_offence-offence.ensures, c.maxima.ensures) at c.pass-2.ensures in
    at-maxima (forms (goal.at.returns c).After-pass (omega arith)) c.in_ok-pass.was _ _ said
