-- `search::check_21` meets its contract: one maximum after another, and then that of the values. Assumes nothing.
use native.Mathlib.Omega.{arith}
use borrow.Author.Tests.{eq-eqb, ne_eqb}
use mathlib.Core.Path.{◌≡◌, ◌∙◌}
use Rattle.std.specs.Prelude.{◌||◌}
use Rattle.rules.specs.Text.{P}
use Rattle.search.proofs.Plainly.{passes, passed, not_passed, many_values, by_twenty_one, values-most}
use Rattle.search.proofs.check_21.Goals as goal
use Rattle.search.proofs.check_21.Goals.{then-is_full, else-is_full}
use Rattle.search.proofs.check_21.Goals.{then-is_full-2, else-is_full-2}
use Rattle.search.proofs.check_21.Goals.{then-is_full-3, else-is_full-3+then-letter-eq80, else-is_full-3+else-letter-eq80}

pub overflow_add-full : goal.overflow_add-full
overflow_add-full c =
    let most = values-most c.args.letter c.args.count c.args.n in
    omega (arith, c.values_in.ensures, c.requires.count_bound, c.requires.within.values)

pub returns : goal.returns
returns c =
    let l = c.args.letter in
    let nodes = passes 7 512 c.args.c.nodes l in
    let two = nodes || passes 8 1024 c.args.c.edges l in
    let e2 : c.if-is_full.value ≡ two =
    elim c.if-is_full.branch [
      | then-is_full w ↦ passed c.is_full.ensures _ w.value-is w.if-is_full.true
      | else-is_full w ↦ not_passed c.is_full.ensures (w.value-is ∙ w.is_full-else-is_full.ensures) w.if-is_full.false
    ] in
    let three = two || passes 9 1024 c.args.c.properties l in
    let e3 : c.if-is_full-2.value ≡ three =
    elim c.if-is_full-2.branch [
      | then-is_full-2 w ↦ passed e2 _ w.value-is w.if-is_full-2.true
      | else-is_full-2 w ↦ not_passed e2 (w.value-is ∙ w.is_full-else-is_full-2.ensures) w.if-is_full-2.false
    ] in
    let e4 : c.if-is_full-3.full ≡ (three || many_values c.args.c l c.args.count c.args.n) =
    elim c.if-is_full-3.branch [
      | then-is_full-3 w ↦ passed e3 _ w.full-is w.if-is_full-3.true
      | else-is_full-3+then-letter-eq80 w ↦
          not_passed e3 (w.full-is ∙ rw (eq-eqb l P w.if-letter-eq80.true, w.values_in.ensures)) w.if-is_full-3.false
      | else-is_full-3+else-letter-eq80 w ↦ not_passed e3 (w.full-is ∙ rw (ne_eqb l P w.if-letter-eq80.false)) w.if-is_full-3.false
    ] in
    c.then_some.ensures ∙ by_twenty_one c.args.c l c.args.count c.args.n e4
