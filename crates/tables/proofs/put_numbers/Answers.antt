use native.Mathlib.Omega.{arith}
use Rattle.tables.proofs.Putting.{none_left, fault_left, next-number, putting_start, putting_room, putting_on, putting_by, putting_count, putting_all}
use Rattle.tables.proofs.put_numbers.Goals as goal
use Rattle.tables.proofs.put_numbers.Goals.{then-skip-k, else-skip-k}

pub loop-i-init : goal.loop-i-init
loop-i-init c = putting_start _ _ _ _ _ c.requires.at_in_bounds c.requires.plain c.requires.at_in_bounds_2

pub returns-in_default : goal.returns-in_default
returns-in_default c =
    let e = fault_left c.byte_at.ensures c.loop-i-test.true c.in_default.ensures in
    record { value = putting_count c.loop-i.invariant e; area_after = putting_all c.loop-i.invariant e }

pub bounds-area-place : goal.bounds-area-place
bounds-area-place c = putting_room c.loop-i.invariant (next-number c.byte_at.ensures c.loop-i-test.true c.in-Ok.ensures) c.if-skip-k.true

pub loop-i-smaller : goal.loop-i-smaller
loop-i-smaller c =
    let next = next-number c.byte_at.ensures c.loop-i-test.true c.in-Ok.ensures in
    omega (arith, next.after, next.inside)

pub loop-i-preserved : goal.loop-i-preserved
loop-i-preserved c =
    let next = next-number c.byte_at.ensures c.loop-i-test.true c.in-Ok.ensures in
    elim c.if-skip-k.branch [
      | then-skip-k w ↦ rw (w.area-is, w.place-is) (putting_on c.loop-i.invariant next w.if-skip-k.true)
      | else-skip-k w ↦ rw (w.area-is, w.place-is) (putting_by c.loop-i.invariant next w.if-skip-k.false)
    ]

pub returns : goal.returns
returns c =
    let e = none_left c.byte_at.ensures c.loop-i-test.false in
    record { value = putting_count c.loop-i.invariant e; area_after = putting_all c.loop-i.invariant e }
