-- `search::first_offence` meets its contract: what is known in a turn of the outer loop, and then the answers. Assumes nothing.
use Prim.Native.Nat.{◌≤◌}
use mathlib.Core.Path.{◌≡◌, sym, ◌∙◌}
use native.Mathlib.Omega.{arith}
use lib.ListN.{get_or}
use Rattle.std.specs.Prelude.{None}
use Rattle.schema.proofs.Searching.{left_found, left_ended}
use Rattle.search.specs.Given.{areas_in}
use Rattle.search.specs.Search.{areas, row_number, alone, Testable, Stepping}
use Rattle.search.proofs.Looping.{going_ended, found-alone, found-clash, going_on, next-further}
use Rattle.schema.proofs.Following.{seek_on, seek_less}
use Rattle.search.proofs.Walking.{seek_start, earlier-few}
use Rattle.search.proofs.Asking.{testable, stepping}
use Rattle.search.proofs.Numbers.{searched}
use Rattle.search.proofs.Plainly.{values-most}
use Rattle.search.proofs.first_offence.Goals as goal
use Rattle.search.proofs.first_offence.Goals.{After-read_row-r, After-earlier-end, After-values_in-values}

-- ---- what is known in a turn

-- the line can be tested
can_test : (c : After-read_row-r)
    → Testable (row_number c.args.check) (areas_in c.args.x.now) c.lines.c c.read_row-r.result
can_test c =
    testable c.lines.invariant.1 c.lines-test.true c.read_row-r.ensures c.requires.ready c.args.s.now.short

-- it can be held against the earlier ones
can_step : (c : After-read_row-r)
    → Stepping (row_number c.args.check) (areas_in c.args.x.now) c.args.x.now.index.now c.lines.c c.read_row-r.result
unfolding areas
can_step c =
    stepping c.lines.invariant.1 c.lines-test.true c.read_row-r.ensures (searched c.args.check)
    c.requires.ready c.requires.index_ready

-- the line alone is not at fault
alone_fine : (c : After-earlier-end)
    → None ≡ (alone (row_number c.args.check) (areas_in c.args.x.now) c.lines.c c.read_row-r.result)
alone_fine c = sym c.in_default.is ∙ c.line_alone.ensures

-- the values of a line are few
few-values : (c : After-values_in-values)
    → Testable (row_number c.args.check) (areas_in c.args.x.now) c.lines.c c.read_row-r.result
    → c.values_in-values.result ≤ 65535
few-values c test =
    let r = c.read_row-r.result in
    omega (arith, values-most r.letter r.count (get_or r.nums 3 0), c.values_in-values.ensures, test.count)

pub line_alone-requires : goal.line_alone-requires
line_alone-requires c = can_test (goal.at.line_alone-requires c).After-read_row-r

pub overflow_add-found : goal.overflow_add-found
overflow_add-found c = omega (arith, (can_test (goal.at.overflow_add-found c).After-read_row-r).counts.lines)

pub earlier-end-requires : goal.earlier-end-requires
earlier-end-requires c = can_test (goal.at.earlier-end-requires c).After-read_row-r

pub first_earlier-j-requires-clause-pairs_ready : goal.first_earlier-j-requires-clause-pairs_ready
unfolding areas
first_earlier-j-requires-clause-pairs_ready c = (can_step (goal.at.first_earlier-j-requires-clause-pairs_ready c).After-read_row-r).pairs

pub loop-j-init : goal.loop-j-init
unfolding areas
loop-j-init c =
    let begun = seek_start _ _ _ _ (searched c.args.check) (can_step (goal.at.loop-j-init c).After-read_row-r) _ c.earlier-end.ensures in
    (c.lines.invariant.0, rw c.first_earlier-j.ensures begun)

pub clashes-requires : goal.clashes-requires
clashes-requires c = (can_step (goal.at.clashes-requires c).After-read_row-r).clashable _ (omega (arith, c.earlier-end.ensures, c.loop-j-test.true))

pub overflow_add-found-then-clashes : goal.overflow_add-found-then-clashes
overflow_add-found-then-clashes c = omega (arith, (can_test (goal.at.overflow_add-found-then-clashes c).After-read_row-r).counts.lines)

pub next_earlier-j-requires : goal.next_earlier-j-requires
unfolding areas
next_earlier-j-requires c =
    let step = can_step (goal.at.next_earlier-j-requires c).After-read_row-r in
    let clash = step.clashable _ (omega (arith, c.earlier-end.ensures, c.loop-j-test.true)) in
    record { pairs_ready = step.pairs; index_ready = c.requires.index_ready; j_bound = earlier-few _ _ _ _ clash }

pub loop-j-smaller : goal.loop-j-smaller
unfolding areas
loop-j-smaller c =
    omega (arith, c.next_earlier-j.ensures, c.loop-j-test.true, seek_less c.loop-j.invariant.1 c.loop-j-test.true)

pub loop-j-preserved : goal.loop-j-preserved
unfolding areas
loop-j-preserved c =
    let inv = c.loop-j.invariant in
    let on = seek_on inv.1 c.loop-j-test.true (sym c.clashes.ensures ∙ c.if-clashes.false) in
    (inv.0, rw c.next_earlier-j.ensures on)

pub overflow_cast-values : goal.overflow_cast-values
overflow_cast-values c =
    omega (arith, few-values (goal.at.overflow_cast-values c).After-values_in-values (can_test (goal.at.overflow_cast-values c).After-read_row-r))

pub with_row-c-requires : goal.with_row-c-requires
with_row-c-requires c =
    let test = can_test (goal.at.with_row-c-requires c).After-read_row-r in
    record { within = test.counts; values_bound = few-values (goal.at.with_row-c-requires c).After-values_in-values test }

pub lines-smaller : goal.lines-smaller
lines-smaller c =
    omega (arith, next-further c.lines.invariant.1 c.lines-test.true c.read_row-r.ensures)

pub lines-preserved : goal.lines-preserved
lines-preserved c =
    let inv = c.loop-j.invariant in
    let on = going_on c.lines.invariant.1 c.lines-test.true c.read_row-r.ensures (searched c.args.check)
    c.requires.ready c.earlier-end.ensures (alone_fine (goal.at.lines-preserved c).After-earlier-end)
    (left_ended _ _ _ inv.1.left (omega (arith, c.loop-j-test.false))) c.values_in-values.ensures in
    (inv.0, rw c.with_row-c.ensures on)

pub returns-after-lines : goal.returns-after-lines
unfolding areas
returns-after-lines c = let inv = c.lines.invariant in inv.0 ∙ going_ended inv.1 (omega (arith, c.lines-test.false))

pub returns-in-Some : goal.returns-in-Some
unfolding areas
returns-in-Some c =
    found-alone c.lines.invariant.1 c.lines-test.true c.read_row-r.ensures (searched c.args.check)
    c.requires.ready (sym c.in-Some.is ∙ c.line_alone.ensures)

pub returns-then-clashes : goal.returns-then-clashes
unfolding areas
returns-then-clashes c =
    let clash = sym c.clashes.ensures ∙ c.if-clashes.true in
    found-clash c.lines.invariant.1 c.lines-test.true c.read_row-r.ensures (searched c.args.check)
    c.requires.ready c.earlier-end.ensures (alone_fine (goal.at.returns-then-clashes c).After-earlier-end)
    (left_found _ _ _ c.loop-j.invariant.1.left c.loop-j-test.true clash)
