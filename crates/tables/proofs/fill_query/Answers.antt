use native.Mathlib.Omega.{arith}
use Rattle.rules.specs.Text.{rows}
use Rattle.tables.proofs.Turns.{Turn, turn, turned-few}
use Rattle.tables.proofs.Laying.{counted-most}
use Rattle.tables.proofs.Together.{left_rooms}
use Rattle.tables.proofs.QueryLaying.{query-start, query-on, query_end, query-all}
use Rattle.tables.proofs.fill_query.Goals as goal
use Rattle.tables.proofs.fill_query.Goals.{After-read_row-r}

turned : (c : After-read_row-r) → Turn c.args.s.now.bytes.now c.loop-at.at c.read_row-r.result
turned c = turn _ _ _ c.loop-at.invariant.plain c.loop-at-test.true c.read_row-r.ensures

pub loop-at-init : goal.loop-at-init
loop-at-init c =
    query-start c.args.s.now.plain c.requires.s_len_bound_2 c.requires.in_bounds

pub put_in-place-requires : goal.put_in-place-requires
put_in-place-requires c =
    record { letter_in_bounds = (left_rooms c.loop-at.invariant.left (turned (goal.at.put_in-place-requires c).After-read_row-r)).0; count_bound = omega (arith, turned-few (turned (goal.at.put_in-place-requires c).After-read_row-r), (turned (goal.at.put_in-place-requires c).After-read_row-r).inside, c.args.s.now.short) }

pub loop-at-smaller : goal.loop-at-smaller
loop-at-smaller c = let t = turned (goal.at.loop-at-smaller c).After-read_row-r in omega arith

pub loop-at-preserved : goal.loop-at-preserved
loop-at-preserved c =
    query-on c.loop-at.invariant (turned (goal.at.loop-at-preserved c).After-read_row-r) (c.put_in-place.ensures.value, c.put_in-place.ensures.area_after)

pub overflow_sub-result : goal.overflow_sub-result
overflow_sub-result c = omega (arith, query_end c.loop-at.invariant c.loop-at-test.false)

pub overflow_cast-result : goal.overflow_cast-result
overflow_cast-result c =
    omega (arith, query_end c.loop-at.invariant c.loop-at-test.false, counted-most 10 (rows c.args.s.now.bytes.now), c.requires.s_len_bound_2)

pub shape_of-area : goal.shape_of-area
shape_of-area c = c.loop-at.invariant.left.same

pub returns : goal.returns
returns c =
    let f = c.loop-at.invariant in
    record { value = omega (arith, query_end f c.loop-at-test.false); area_after = query-all f c.loop-at-test.false }
