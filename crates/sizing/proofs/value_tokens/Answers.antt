-- `sizing::value_tokens` meets its contract, by what the lookup finds. Assumes nothing.
use Prim.Native.Nat.{ℕ, ◌+◌, ◌≤◌, ◌<◌}
use mathlib.Core.Path.{sym, ap, ◌∙◌}
use Rattle.tables.specs.Read.{cell}
use native.Mathlib.Omega.{arith}
use Rattle.world.proofs.Targets.{lookup_within}
use Rattle.sizing.proofs.Tallying.{values-few, value_none, value-many, value-one}
use Rattle.sizing.proofs.value_tokens.Goals as goal
use Rattle.sizing.proofs.value_tokens.Goals.{In-Some, After-value_count}

-- the row that was found
within : (c : In-Some) → c.in-Some.j < cell c.args.w.now.properties.now 0
within c = lookup_within _ _ _ _ (sym c.lookup.ensures ∙ c.in-Some.is)

-- they are few
few : (c : After-value_count) → c.value_count.result ≤ 8200
few c =
    let at_most = values-few c.args.w.now.properties.now c.args.w.now.values.now c.in-Some.j in
    omega (arith, c.value_count.ensures, c.args.w.now.held.values)

pub returns-in_default : goal.returns-in_default
returns-in_default c = value_none _ _ _ _ _ c.lookup.ensures c.in_default.is

pub is_sequence-requires-clause-j_bound : goal.is_sequence-requires-clause-j_bound
is_sequence-requires-clause-j_bound c = within (goal.at.is_sequence-requires-clause-j_bound c).In-Some

pub value_count-requires : goal.value_count-requires
value_count-requires c = within (goal.at.value_count-requires c).In-Some

pub overflow_cast-result : goal.overflow_cast-result
overflow_cast-result c = omega (arith, few (goal.at.overflow_cast-result c).After-value_count)

pub overflow_add-result : goal.overflow_add-result
overflow_add-result c = omega (arith, few (goal.at.overflow_add-result c).After-value_count)

pub returns-then-is_sequence : goal.returns-then-is_sequence
returns-then-is_sequence c =
    let found = c.lookup.ensures in
    let many = sym c.is_sequence.ensures ∙ c.if-is_sequence.true in
    ap (λ (n : ℕ). 3 + n) c.value_count.ensures ∙ value-many _ _ _ _ _ found _ c.in-Some.is many

pub returns : goal.returns
returns c =
    let found = c.lookup.ensures in
    value-one _ _ _ _ _ found _ c.in-Some.is (sym c.is_sequence.ensures ∙ c.if-is_sequence.false)
