-- `search::check_11` meets its contract: one maximum after another. Assumes nothing.
use mathlib.Core.Path.{◌≡◌, ◌∙◌}
use Rattle.std.specs.Prelude.{◌||◌}
use Rattle.search.proofs.Plainly.{passes, passed, not_passed, by_eleven}
use Rattle.search.proofs.check_11.Goals as goal
use Rattle.search.proofs.check_11.Goals.{then-is_full, else-is_full}
use Rattle.search.proofs.check_11.Goals.{then-is_full-2, else-is_full-2}
use Rattle.search.proofs.check_11.Goals.{then-is_full-3, else-is_full-3}
use Rattle.search.proofs.check_11.Goals.{then-is_full-4, else-is_full-4}
use Rattle.search.proofs.check_11.Goals.{then-is_full-5, else-is_full-5}

pub returns : goal.returns
returns c =
    let l = c.args.letter in
    let types = passes 1 64 c.args.c.types l in
    let two = types || passes 2 128 c.args.c.fields l in
    let e2 : c.if-is_full.value ≡ two =
    elim c.if-is_full.branch [
      | then-is_full w ↦ passed c.is_full.ensures _ w.value-is w.if-is_full.true
      | else-is_full w ↦ not_passed c.is_full.ensures (w.value-is ∙ w.is_full-else-is_full.ensures) w.if-is_full.false
    ] in
    let three = two || passes 3 64 c.args.c.args l in
    let e3 : c.if-is_full-2.value ≡ three =
    elim c.if-is_full-2.branch [
      | then-is_full-2 w ↦ passed e2 _ w.value-is w.if-is_full-2.true
      | else-is_full-2 w ↦ not_passed e2 (w.value-is ∙ w.is_full-else-is_full-2.ensures) w.if-is_full-2.false
    ] in
    let four = three || passes 4 1024 c.args.c.has l in
    let e4 : c.if-is_full-3.value ≡ four =
    elim c.if-is_full-3.branch [
      | then-is_full-3 w ↦ passed e3 _ w.value-is w.if-is_full-3.true
      | else-is_full-3 w ↦ not_passed e3 (w.value-is ∙ w.is_full-else-is_full-3.ensures) w.if-is_full-3.false
    ] in
    let five = four || passes 5 1024 c.args.c.takes l in
    let e5 : c.if-is_full-4.value ≡ five =
    elim c.if-is_full-4.branch [
      | then-is_full-4 w ↦ passed e4 _ w.value-is w.if-is_full-4.true
      | else-is_full-4 w ↦ not_passed e4 (w.value-is ∙ w.is_full-else-is_full-4.ensures) w.if-is_full-4.false
    ] in
    let e6 : c.if-is_full-5.full ≡ (five || passes 6 1024 c.args.c.members l) =
    elim c.if-is_full-5.branch [
      | then-is_full-5 w ↦ passed e5 _ w.full-is w.if-is_full-5.true
      | else-is_full-5 w ↦ not_passed e5 (w.full-is ∙ w.is_full-full.ensures) w.if-is_full-5.false
    ] in
    c.then_some.ensures ∙ by_eleven c.args.c l e6
