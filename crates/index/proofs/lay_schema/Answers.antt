-- `index::lay_schema` meets its contract. Assumes nothing.
use Prim.Native.Nat.{ℕ, ◌≤◌}
use native.Mathlib.Omega.{arith}
use lib.ListN.{length}
use Rattle.tables.specs.Read.{cell}
use Rattle.index.proofs.Buckets.{PairTable, has_pairs, takes-pairs, member_pairs, tables-long, tables-few, has_linkable, takes_linkable, members_linkable, schema-laid}
use Rattle.index.proofs.lay_schema.Goals as goal
use Rattle.index.proofs.lay_schema.Goals.{After-lay_schema}

-- the tables are laid in an area that is as long as it was
long : (c : After-lay_schema) → 9992 ≤ length c.lay_schema.new.area
long c = tables-long _ _ c.requires.links_end_in_bounds c.requires.schema_fits _ c.lay_schema.ensures

-- and their counts are small
few : (c : After-lay_schema) {k head base at letter : ℕ} → PairTable k head base at letter → cell c.lay_schema.new.area head ≤ 1024
few c table = tables-few _ _ c.requires.links_end_in_bounds c.requires.schema_fits _ c.lay_schema.ensures table

pub lay_schema-requires : goal.lay_schema-requires
lay_schema-requires c =
    record { schema_fits = c.requires.schema_fits; in_bounds = omega (arith, c.requires.links_end_in_bounds) }

pub bounds-a-3 : goal.bounds-a-3
bounds-a-3 c = omega (arith, long (goal.at.bounds-a-3 c).After-lay_schema)

pub overflow_cast-has : goal.overflow_cast-has
unfolding cell
overflow_cast-has c = omega (arith, few (goal.at.overflow_cast-has c).After-lay_schema has_pairs)

pub bounds-a-4 : goal.bounds-a-4
bounds-a-4 c = omega (arith, long (goal.at.bounds-a-4 c).After-lay_schema)

pub overflow_cast-takes : goal.overflow_cast-takes
unfolding cell
overflow_cast-takes c = omega (arith, few (goal.at.overflow_cast-takes c).After-lay_schema takes-pairs)

pub bounds-a-5 : goal.bounds-a-5
bounds-a-5 c = omega (arith, long (goal.at.bounds-a-5 c).After-lay_schema)

pub overflow_cast-members : goal.overflow_cast-members
unfolding cell
overflow_cast-members c = omega (arith, few (goal.at.overflow_cast-members c).After-lay_schema member_pairs)

pub lay_buckets-requires : goal.lay_buckets-requires
unfolding cell
lay_buckets-requires c =
    has_linkable _ _ c.requires.links_end_in_bounds c.requires.schema_fits _ c.lay_schema.ensures

pub lay_buckets-requires-2 : goal.lay_buckets-requires-2
unfolding cell
lay_buckets-requires-2 c =
    takes_linkable _ _ c.requires.links_end_in_bounds c.requires.schema_fits _ c.lay_schema.ensures _ c.lay_buckets.ensures

pub lay_buckets-requires-3 : goal.lay_buckets-requires-3
unfolding cell
lay_buckets-requires-3 c =
    members_linkable _ _ c.requires.links_end_in_bounds c.requires.schema_fits _ c.lay_schema.ensures _ c.lay_buckets.ensures _ c.lay_buckets-2.ensures

pub returns : goal.returns
unfolding cell
returns c =
    schema-laid _ _ c.requires.links_end_in_bounds c.requires.schema_fits _ c.lay_schema.ensures _ c.lay_buckets.ensures _ c.lay_buckets-2.ensures _
    c.lay_buckets-3.ensures
