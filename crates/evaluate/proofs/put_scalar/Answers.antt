-- `evaluate::put_scalar` meets its contract: null, one value, or values in brackets. Assumes nothing.
use mathlib.Core.Path.{sym, ◌∙◌}
use Rattle.rules.specs.Eval.{value, open_list, close_list}
use Rattle.tables.specs.Read.{values_at}
use Rattle.world.specs.World.{asked_at, lookup_at, found_by}
use Rattle.world.proofs.Targets.{lookup_within}
use Rattle.evaluate.proofs.Write.{Between, wrote_same, between_inside, between_last, between_all}
use Rattle.evaluate.proofs.Values.{shows-null, shows-value, shows_sequence}
use Rattle.evaluate.proofs.put_scalar.Goals as goal
use Rattle.evaluate.proofs.put_scalar.Goals.{Then-is_sequence}

-- the row that was found is a sequence
sequence : (c : Then-is_sequence) → let a = c.args in
    let shown = value (found_by a.p.now.area.now a.p.now.values.now (lookup_at a.p.now.area.now a.u (asked_at a.q.now.area.now a.q.now.place))) in
    Between shown open_list (values_at a.p.now.area.now a.p.now.values.now c.in-Some.j) close_list
sequence c = shows_sequence _ _ _ _ _ (sym c.lookup.ensures ∙ c.in-Some.is) (sym c.is_sequence.ensures ∙ c.if-is_sequence.true)

pub returns-in_default : goal.returns-in_default
returns-in_default c = wrote_same (shows-null _ _ _ _ (sym c.lookup.ensures ∙ c.in_default.is)) c.put.ensures

pub invariant_of-property : goal.invariant_of-property
invariant_of-property c = record { held = c.args.p.now.held; inside = lookup_within _ _ _ _ (sym c.lookup.ensures ∙ c.in-Some.is) }

pub invariant_of-property-2 : goal.invariant_of-property-2
invariant_of-property-2 c = record { held = c.args.p.now.held; inside = lookup_within _ _ _ _ (sym c.lookup.ensures ∙ c.in-Some.is) }

pub is_sequence-requires-clause-j_bound : goal.is_sequence-requires-clause-j_bound
is_sequence-requires-clause-j_bound c = lookup_within _ _ _ _ (sym c.lookup.ensures ∙ c.in-Some.is)

pub put_values-last-requires-clause-room : goal.put_values-last-requires-clause-room
put_values-last-requires-clause-room c =
    let shown = sequence (goal.at.put_values-last-requires-clause-room c).Then-is_sequence in
    between_inside c.requires.room shown c.put-inside.ensures

pub put-requires-then-is_sequence : goal.put-requires-then-is_sequence
put-requires-then-is_sequence c =
    let shown = sequence (goal.at.put-requires-then-is_sequence c).Then-is_sequence in
    between_last c.requires.room shown c.put-inside.ensures c.put_values-last.ensures

pub returns-then-is_sequence : goal.returns-then-is_sequence
returns-then-is_sequence c =
    let shown = sequence (goal.at.returns-then-is_sequence c).Then-is_sequence in
    between_all c.requires.room shown c.put-inside.ensures c.put_values-last.ensures c.put-then-is_sequence.ensures

pub returns : goal.returns
returns c =
    let single = sym c.is_sequence.ensures ∙ c.if-is_sequence.false in
    let shows = shows-value _ _ _ _ _ (sym c.lookup.ensures ∙ c.in-Some.is) single _ c.first_value.ensures in
    wrote_same shows c.put-2.ensures
