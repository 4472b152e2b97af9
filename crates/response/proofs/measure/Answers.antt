-- `response::measure` meets its contract: short rows, a refusal of the texts, or the sizing of the tables. Assumes nothing.
use native.Mathlib.Omega.{arith}
use mathlib.Core.Path.{refl}
use lib.Seq.{length-take-le}
use Rattle.judge.specs.Texts.{lent}
use Rattle.response.proofs.Passing.{areas-long}
use Rattle.response.proofs.Ready.{readable}
use Rattle.response.proofs.Telling.{measured-short, measured-refused, measured-told}
use Rattle.response.proofs.measure.Goals as goal

pub returns-then-m-lt8192 : goal.returns-then-m-lt8192
returns-then-m-lt8192 c =
    measured-short _ _ _ c.args.m.now _ (omega (arith, c.if-m-lt8192.true)) c.refuse.ensures

pub returns-in-Err : goal.returns-in-Err
unfolding lent
returns-in-Err c =
    measured-refused _ _ _ c.args.m.now _ c.judge.result c.judge.ensures (omega (arith, c.if-m-lt8192.false)) _ c.in-Err.is c.from.ensures

pub slice_bounds-values-end : goal.slice_bounds-values-end
unfolding lent
slice_bounds-values-end c =
    let long = areas-long _ _ _ _ c.judge.ensures c.in_default.is in
    omega (arith, long.values, c.judge.auto.v)

pub slice_bounds-values-end-2 : goal.slice_bounds-values-end-2
unfolding lent
slice_bounds-values-end-2 c =
    let long = areas-long _ _ _ _ c.judge.ensures c.in_default.is in
    let v = c.judge.new.v in
    simp (length-take-le 8200 v (omega (arith, long.values, c.judge.auto.v)))

pub size_query-t-requires : goal.size_query-t-requires
unfolding lent
size_query-t-requires c =
    let y = readable _ _ _ _ c.judge.ensures c.in_default.is in
    record {
      query_steps = y.steps;
      g_bound = y.root;
      in_bounds = omega (arith, c.if-m-lt8192.false);
    }

pub returns : goal.returns
unfolding lent
returns c =
    let told = measured-told _ _ _ c.args.m.now _ c.judge.result c.judge.ensures (omega (arith, c.if-m-lt8192.false)) c.in_default.is in
    told c.size_query-t.result c.size_query-t.ensures refl

pub invariant_of-world : goal.invariant_of-world
unfolding lent
invariant_of-world c = let y = readable _ _ _ _ c.judge.ensures c.in_default.is in record { held = y.held }

pub invariant_of-size_query : goal.invariant_of-size_query
unfolding lent
invariant_of-size_query c = let y = readable _ _ _ _ c.judge.ensures c.in_default.is in record { held = y.steps.held }
