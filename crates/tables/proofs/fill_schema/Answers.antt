use Prim.Native.Nat.{◌<◌}
use native.Mathlib.Omega.{arith}
use mathlib.Core.Path.{◌≡◌, ◌∙◌}
use lib.ListN.{length}
use Rattle.rules.specs.Text.{rows}
use Rattle.tables.specs.Fill.{SchemaFits}
use Rattle.tables.proofs.Turns.{Turn, turn, turned-few}
use Rattle.tables.proofs.Together.{left_rooms}
use Rattle.tables.proofs.SchemaLaying.{schema-start, schema-on, SchemaEnds, schema-ends, schema-all, schema_counts}
use Rattle.tables.proofs.fill_schema.Goals as goal
use Rattle.tables.proofs.fill_schema.Goals.{After-read_row-r, After-put_in-types, After-put_in-fields, After-put_in-args, After-put_in-has, After-put_in-takes, After-loop-at}

turned : (c : After-read_row-r) → Turn c.args.s.now.bytes.now c.loop-at.at c.read_row-r.result
turned c = turn _ _ _ c.loop-at.invariant.asked.plain c.loop-at-test.true c.read_row-r.ensures

few : (c : After-read_row-r) → c.read_row-r.result.count < 100000
few c = omega (arith, turned-few (turned c), (turned c).inside, c.args.s.now.short)

long-1 : (c : After-put_in-types) → length c.put_in-types.new.area ≡ length c.loop-at.area
long-1 c = c.put_in-types.auto.area

long-2 : (c : After-put_in-fields) → length c.put_in-fields.new.area ≡ length c.loop-at.area
long-2 c = c.put_in-fields.auto.area ∙ c.put_in-types.auto.area

long-3 : (c : After-put_in-args) → length c.put_in-args.new.area ≡ length c.loop-at.area
long-3 c = c.put_in-args.auto.area ∙ c.put_in-fields.auto.area ∙ c.put_in-types.auto.area

long-4 : (c : After-put_in-has) → length c.put_in-has.new.area ≡ length c.loop-at.area
long-4 c = c.put_in-has.auto.area ∙ c.put_in-args.auto.area ∙ c.put_in-fields.auto.area ∙ c.put_in-types.auto.area

long-5 : (c : After-put_in-takes) → length c.put_in-takes.new.area ≡ length c.loop-at.area
long-5 c = c.put_in-takes.auto.area ∙ c.put_in-has.auto.area ∙ c.put_in-args.auto.area ∙ c.put_in-fields.auto.area ∙ c.put_in-types.auto.area

-- the places at the end, and how many rows there are at most
ends : (c : After-loop-at) → let l = c.loop-at in
    SchemaEnds (rows c.args.s.now.bytes.now) l.types l.fields l.args l.has l.takes l.members
ends c = schema-ends c.loop-at.invariant c.loop-at-test.false

fits : (c : After-loop-at) → SchemaFits (rows c.args.s.now.bytes.now)
fits c = c.requires.schema_fits

pub loop-at-init : goal.loop-at-init
loop-at-init c =
    schema-start c.args.s.now.plain c.requires.schema_fits c.requires.in_bounds

pub put_in-types-requires : goal.put_in-types-requires
put_in-types-requires c =
    record { letter_in_bounds = (left_rooms c.loop-at.invariant.left (turned (goal.at.put_in-types-requires c).After-read_row-r)).1.1.1.1.1.0; count_bound = few (goal.at.put_in-types-requires c).After-read_row-r }

pub put_in-fields-requires : goal.put_in-fields-requires
put_in-fields-requires c =
    record { letter_in_bounds = omega (arith, (left_rooms c.loop-at.invariant.left (turned (goal.at.put_in-fields-requires c).After-read_row-r)).1.1.1.1.0, long-1 (goal.at.put_in-fields-requires c).After-put_in-types); count_bound = few (goal.at.put_in-fields-requires c).After-read_row-r }

pub put_in-args-requires : goal.put_in-args-requires
put_in-args-requires c =
    record { letter_in_bounds = omega (arith, (left_rooms c.loop-at.invariant.left (turned (goal.at.put_in-args-requires c).After-read_row-r)).1.1.1.0, long-2 (goal.at.put_in-args-requires c).After-put_in-fields); count_bound = few (goal.at.put_in-args-requires c).After-read_row-r }

pub put_in-has-requires : goal.put_in-has-requires
put_in-has-requires c =
    record { letter_in_bounds = omega (arith, (left_rooms c.loop-at.invariant.left (turned (goal.at.put_in-has-requires c).After-read_row-r)).1.1.0, long-3 (goal.at.put_in-has-requires c).After-put_in-args); count_bound = few (goal.at.put_in-has-requires c).After-read_row-r }

pub put_in-takes-requires : goal.put_in-takes-requires
put_in-takes-requires c =
    record { letter_in_bounds = omega (arith, (left_rooms c.loop-at.invariant.left (turned (goal.at.put_in-takes-requires c).After-read_row-r)).1.0, long-4 (goal.at.put_in-takes-requires c).After-put_in-has); count_bound = few (goal.at.put_in-takes-requires c).After-read_row-r }

pub put_in-members-requires : goal.put_in-members-requires
put_in-members-requires c =
    record { letter_in_bounds = omega (arith, (left_rooms c.loop-at.invariant.left (turned (goal.at.put_in-members-requires c).After-read_row-r)).0, long-5 (goal.at.put_in-members-requires c).After-put_in-takes); count_bound = few (goal.at.put_in-members-requires c).After-read_row-r }

pub ask-queries-requires : goal.ask-queries-requires
ask-queries-requires c =
    let f = c.loop-at.invariant.asked in
    omega (arith, f.few, f.inside, c.args.s.now.short)

pub loop-at-smaller : goal.loop-at-smaller
loop-at-smaller c = let t = turned (goal.at.loop-at-smaller c).After-read_row-r in omega arith

pub loop-at-preserved : goal.loop-at-preserved
loop-at-preserved c =
    schema-on c.loop-at.invariant (turned (goal.at.loop-at-preserved c).After-read_row-r)
    (c.put_in-types.ensures.value, c.put_in-types.ensures.area_after)
    (c.put_in-fields.ensures.value, c.put_in-fields.ensures.area_after)
    (c.put_in-args.ensures.value, c.put_in-args.ensures.area_after)
    (c.put_in-has.ensures.value, c.put_in-has.ensures.area_after)
    (c.put_in-takes.ensures.value, c.put_in-takes.ensures.area_after)
    (c.put_in-members.ensures.value, c.put_in-members.ensures.area_after)
    c.ask-queries.ensures

pub overflow_sub-result : goal.overflow_sub-result
overflow_sub-result c = omega (arith, (ends (goal.at.overflow_sub-result c).After-loop-at).types_end)

pub overflow_cast-result : goal.overflow_cast-result
overflow_cast-result c = omega (arith, (ends (goal.at.overflow_cast-result c).After-loop-at).types_end, (fits (goal.at.overflow_cast-result c).After-loop-at).types)

pub overflow_sub-result-2 : goal.overflow_sub-result-2
overflow_sub-result-2 c = omega (arith, (ends (goal.at.overflow_sub-result-2 c).After-loop-at).fields_end)

pub overflow_cast-result-2 : goal.overflow_cast-result-2
overflow_cast-result-2 c = omega (arith, (ends (goal.at.overflow_cast-result-2 c).After-loop-at).fields_end, (fits (goal.at.overflow_cast-result-2 c).After-loop-at).fields)

pub overflow_sub-result-3 : goal.overflow_sub-result-3
overflow_sub-result-3 c = omega (arith, (ends (goal.at.overflow_sub-result-3 c).After-loop-at).args_end)

pub overflow_cast-result-3 : goal.overflow_cast-result-3
overflow_cast-result-3 c = omega (arith, (ends (goal.at.overflow_cast-result-3 c).After-loop-at).args_end, (fits (goal.at.overflow_cast-result-3 c).After-loop-at).args)

pub overflow_sub-result-4 : goal.overflow_sub-result-4
overflow_sub-result-4 c = omega (arith, (ends (goal.at.overflow_sub-result-4 c).After-loop-at).has_end)

pub overflow_cast-result-4 : goal.overflow_cast-result-4
overflow_cast-result-4 c = omega (arith, (ends (goal.at.overflow_cast-result-4 c).After-loop-at).has_end, (fits (goal.at.overflow_cast-result-4 c).After-loop-at).has)

pub overflow_sub-result-5 : goal.overflow_sub-result-5
overflow_sub-result-5 c = omega (arith, (ends (goal.at.overflow_sub-result-5 c).After-loop-at).takes_end)

pub overflow_cast-result-5 : goal.overflow_cast-result-5
overflow_cast-result-5 c = omega (arith, (ends (goal.at.overflow_cast-result-5 c).After-loop-at).takes_end, (fits (goal.at.overflow_cast-result-5 c).After-loop-at).takes)

pub overflow_sub-result-6 : goal.overflow_sub-result-6
overflow_sub-result-6 c = omega (arith, (ends (goal.at.overflow_sub-result-6 c).After-loop-at).members_end)

pub overflow_cast-result-6 : goal.overflow_cast-result-6
overflow_cast-result-6 c = omega (arith, (ends (goal.at.overflow_cast-result-6 c).After-loop-at).members_end, (fits (goal.at.overflow_cast-result-6 c).After-loop-at).members)

pub shape_of-area : goal.shape_of-area
shape_of-area c = c.loop-at.invariant.left.same

pub returns : goal.returns
returns c =
    let f = c.loop-at.invariant in
    record { value = schema_counts f c.loop-at-test.false; area_after = schema-all f c.loop-at-test.false }
