use native.Mathlib.Omega.{arith}
use Rattle.index.proofs.Laying.{keys-start, keys_on, links-done}
use Rattle.index.proofs.Buckets.{bucket_small, buckets_keyed, bucket_read}
use Rattle.index.proofs.lay_buckets.Goals as goal

pub loop-j-init : goal.loop-j-init
loop-j-init c = keys-start _ _ _ _ (buckets_keyed _ _ _ c.requires.few) c.requires.blank

pub row_cell-first-requires : goal.row_cell-first-requires
row_cell-first-requires c =
    omega (arith, c.requires.front, c.requires.blank.long, c.loop-j.invariant.same)

pub overflow_cast-first : goal.overflow_cast-first
overflow_cast-first c = omega arith

pub link_row-requires : goal.link_row-requires
link_row-requires c =
    let l = c.loop-j.invariant in
    record { at_in_bounds = omega (arith, c.requires.blank.long, l.same); at_bound = c.requires.blank.low; j_bound = omega (arith, c.requires.few); key_bound = bucket_small c.row_cell-first.result }

pub loop-j-preserved : goal.loop-j-preserved
loop-j-preserved c =
    let l = c.loop-j.invariant in
    keys_on _ _ _ _ (buckets_keyed _ _ _ c.requires.few) c.requires.blank _ _ _ l (omega arith) _
    (bucket_read _ _ _ _ _ _ _ _ _ c.requires l (omega arith) c.row_cell-first.ensures) _ c.link_row.ensures

pub shape_of-a : goal.shape_of-a
shape_of-a c = c.loop-j.invariant.same

pub returns : goal.returns
returns c = links-done _ _ _ _ _ c.loop-j.invariant (omega arith)
