-- `search::line_alone` meets its contract: at each check's arm its number decides, and what the check reads, the line being testable, stands
-- in the areas. Assumes nothing.
use mathlib.Core.Logic.{inl, inr}
use Rattle.search.specs.Search.{areas, plain_check, alone}
use Rattle.search.proofs.line_alone.Goals as goal

pub schema_tables-requires : goal.schema_tables-requires
unfolding areas plain_check
schema_tables-requires c = c.requires.schema (rw c.in-SchemaNumbers.is)

pub schema_tables-requires-in-FieldMissing : goal.schema_tables-requires-in-FieldMissing
unfolding areas plain_check
schema_tables-requires-in-FieldMissing c = c.requires.schema (rw c.in-FieldMissing.is)

pub schema_tables-requires-in-EmptyUnion : goal.schema_tables-requires-in-EmptyUnion
unfolding areas plain_check
schema_tables-requires-in-EmptyUnion c = c.requires.schema (rw c.in-EmptyUnion.is)

pub invariant_of-check_22 : goal.invariant_of-check_22
unfolding areas plain_check
invariant_of-check_22 c = record { held = (c.requires.graph (rw c.in-GraphNumbers.is) (rw c.in-GraphNumbers.is)).nodes }

pub invariant_of-check_22-in-GraphNumbers : goal.invariant_of-check_22-in-GraphNumbers
unfolding areas plain_check
invariant_of-check_22-in-GraphNumbers c = record { few = (c.requires.graph (rw c.in-GraphNumbers.is) (rw c.in-GraphNumbers.is)).few }

pub schema_tables-requires-in-GraphNumbers : goal.schema_tables-requires-in-GraphNumbers
unfolding areas plain_check
schema_tables-requires-in-GraphNumbers c = (c.requires.graph (rw c.in-GraphNumbers.is) (rw c.in-GraphNumbers.is)).schema

pub invariant_of-check_23 : goal.invariant_of-check_23
unfolding areas plain_check
invariant_of-check_23 c = record { held = (c.requires.graph (rw c.in-NotOwned.is) (rw c.in-NotOwned.is)).nodes }

pub invariant_of-check_23-in-NotOwned : goal.invariant_of-check_23-in-NotOwned
unfolding areas plain_check
invariant_of-check_23-in-NotOwned c = record { few = (c.requires.graph (rw c.in-NotOwned.is) (rw c.in-NotOwned.is)).few }

pub schema_tables-requires-in-NotOwned : goal.schema_tables-requires-in-NotOwned
unfolding areas plain_check
schema_tables-requires-in-NotOwned c = (c.requires.graph (rw c.in-NotOwned.is) (rw c.in-NotOwned.is)).schema

pub check_24-requires : goal.check_24-requires
unfolding plain_check
check_24-requires c = c.requires.graph (rw c.in-WrongType.is) (rw c.in-WrongType.is)

pub returns-in-SchemaSize : goal.returns-in-SchemaSize
unfolding alone
returns-in-SchemaSize c = rw c.in-SchemaSize.is c.check_11.ensures

pub returns-in-SchemaNumbers : goal.returns-in-SchemaNumbers
unfolding alone areas
returns-in-SchemaNumbers c = rw c.in-SchemaNumbers.is (rw c.schema_tables.ensures at c.check_12.ensures)

pub returns-in-FieldMissing : goal.returns-in-FieldMissing
unfolding alone areas
returns-in-FieldMissing c = rw c.in-FieldMissing.is (rw c.schema_tables-in-FieldMissing.ensures at c.check_14.ensures)

pub returns-in-EmptyUnion : goal.returns-in-EmptyUnion
unfolding alone areas
returns-in-EmptyUnion c = rw c.in-EmptyUnion.is (rw c.schema_tables-in-EmptyUnion.ensures at c.check_15.ensures)

pub returns-in-GraphSize : goal.returns-in-GraphSize
unfolding alone
returns-in-GraphSize c = rw c.in-GraphSize.is c.check_21.ensures

pub returns-in-GraphNumbers : goal.returns-in-GraphNumbers
unfolding alone areas
returns-in-GraphNumbers c = rw c.in-GraphNumbers.is (rw c.schema_tables-in-GraphNumbers.ensures at c.check_22.ensures)

pub returns-in-NotOwned : goal.returns-in-NotOwned
unfolding alone areas
returns-in-NotOwned c = rw c.in-NotOwned.is (rw c.schema_tables-in-NotOwned.ensures at c.check_23.ensures)

pub returns-in-WrongType : goal.returns-in-WrongType
unfolding alone
returns-in-WrongType c = rw c.in-WrongType.is c.check_24.ensures

pub returns-in-QuerySize : goal.returns-in-QuerySize
unfolding alone
returns-in-QuerySize c = rw c.in-QuerySize.is c.check_31.ensures

pub returns-in-PairTwice : goal.returns-in-PairTwice
unfolding alone
returns-in-PairTwice c = elim c.in-PairTwice.is [ inl e ↦ rw e | inr (inl e) ↦ rw e | inr (inr e) ↦ rw e ]
