-- `search::check_24` meets its contract, by the letter of the line. Assumes nothing.
use native.Mathlib.Omega.{arith}
use borrow.Author.Tests.{ne_eqb}
use Rattle.rules.specs.Text.{E, P}
use Rattle.search.specs.Search.{areas, alone24}
use Rattle.search.proofs.check_24.Goals as goal

pub schema_tables-tables-requires : goal.schema_tables-tables-requires
unfolding areas
schema_tables-tables-requires c = c.requires.schema

pub invariant_of-nodes : goal.invariant_of-nodes
unfolding areas
invariant_of-nodes c = record { held = c.requires.nodes }

pub check_24_edge-requires : goal.check_24_edge-requires
unfolding areas
check_24_edge-requires c = record { masked = rw c.schema_tables-tables.ensures c.requires.masks }

pub invariant_of-nodes-in-80 : goal.invariant_of-nodes-in-80
unfolding areas
invariant_of-nodes-in-80 c = record { held = c.requires.nodes }

pub invariant_of-property : goal.invariant_of-property
unfolding areas
invariant_of-property c = record { held = c.requires.properties; inside = c.requires.place c.in-80.is }

pub invariant_of-row : goal.invariant_of-row
invariant_of-row c = record { few = c.requires.few }

pub check_24_property-requires : goal.check_24_property-requires
unfolding areas
check_24_property-requires c =
    let h = c.requires in
    record {
      v_len_bound = h.most;
    }

pub returns-in-69 : goal.returns-in-69
unfolding alone24 areas
returns-in-69 c = rw c.in-69.is (rw c.schema_tables-tables.ensures at c.check_24_edge.ensures)

pub returns-in-80 : goal.returns-in-80
unfolding alone24 areas
returns-in-80 c = rw c.in-80.is (rw c.schema_tables-tables.ensures at c.check_24_property.ensures)

pub returns-in_default : goal.returns-in_default
unfolding alone24
returns-in_default c = rw (ne_eqb c.args.r.letter E (λ e. omega (arith, e)), ne_eqb c.args.r.letter P (λ e. omega (arith, e)))
