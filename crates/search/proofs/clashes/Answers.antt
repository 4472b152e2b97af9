-- `search::clashes` meets its contract, by the check and the letter; the earlier line, the two being clashable, stands in the areas.
-- Assumes nothing.
use native.Mathlib.Omega.{arith}
use borrow.Author.Tests.{ne_eqb}
use mathlib.Core.Logic.{inl, inr}
use mathlib.Core.Path.{◌≡◌, ap}
use Rattle.rules.specs.Text.{E}
use Rattle.search.specs.Search.{areas, row_number, clash}
use Rattle.search.proofs.Numbers.{other_number}
use Rattle.search.proofs.clashes.Goals as goal

pub pair_at-requires-clause-j_in_bounds : goal.pair_at-requires-clause-j_in_bounds
unfolding areas
pair_at-requires-clause-j_in_bounds c =
    omega (arith, c.pair_base.ensures.value, (c.requires.pair (ap row_number c.in-PairTwice.is)).0)

pub pair_at-requires-clause-j_bound : goal.pair_at-requires-clause-j_bound
pair_at-requires-clause-j_bound c = omega (arith, (c.requires.pair (ap row_number c.in-PairTwice.is)).1)

pub invariant_of-diverts_at : goal.invariant_of-diverts_at
unfolding areas
invariant_of-diverts_at c = record { held = (c.requires.edge (λ e. omega (arith, e, ap row_number c.in-SecondTarget.is))).0 }

pub diverts_at-requires : goal.diverts_at-requires
unfolding areas
diverts_at-requires c =
    let is25 = ap row_number c.in-SecondTarget.is in
    let not13 : row_number c.args.check ≡ 13 → ⊥ = λ e. omega (arith, is25) in
    record { j_bound = c.requires.inside not13 (inl is25) }

pub invariant_of-twin_edge : goal.invariant_of-twin_edge
unfolding areas
invariant_of-twin_edge c = record { held = (c.requires.edge (other_number c.in_default.not-PairTwice)).0 }

pub invariant_of-twin_edge-in-69 : goal.invariant_of-twin_edge-in-69
invariant_of-twin_edge-in-69 c = record { few = (c.requires.edge (other_number c.in_default.not-PairTwice)).2 }

pub twin_edge-requires : goal.twin_edge-requires
unfolding areas
twin_edge-requires c =
    let not13 = other_number c.in_default.not-PairTwice in
    record { j_bound = c.requires.inside not13 (inr c.in-69.is) }

pub invariant_of-property : goal.invariant_of-property
unfolding areas
invariant_of-property c =
    let not13 = other_number c.in_default.not-PairTwice in
    let not25 = other_number c.in_default.not-SecondTarget in
    record { held = (c.requires.edge not13).1; inside = c.requires.within not13 not25 (λ e. omega (arith, e)) }

pub invariant_of-twin_property : goal.invariant_of-twin_property
invariant_of-twin_property c = record { few = (c.requires.edge (other_number c.in_default.not-PairTwice)).2 }

pub returns-in-PairTwice : goal.returns-in-PairTwice
unfolding clash areas
returns-in-PairTwice c = rw (c.in-PairTwice.is, ← c.pair_base.ensures.value) c.pair_at.ensures

pub returns-in-SecondTarget : goal.returns-in-SecondTarget
unfolding clash areas
returns-in-SecondTarget c = rw c.in-SecondTarget.is c.diverts_at.ensures

pub returns-in-69 : goal.returns-in-69
unfolding clash areas
returns-in-69 c =
    rw (ne_eqb _ 13 (other_number c.in_default.not-PairTwice), ne_eqb _ 25 (other_number c.in_default.not-SecondTarget), c.in-69.is)
    c.twin_edge.ensures

pub returns-in_default-letter : goal.returns-in_default-letter
unfolding clash areas
returns-in_default-letter c =
    rw (
      ne_eqb _ 13 (other_number c.in_default.not-PairTwice),
      ne_eqb _ 25 (other_number c.in_default.not-SecondTarget),
      ne_eqb c.args.r.letter E (λ e. omega (arith, e)),
    )
    c.twin_property.ensures
