-- `tables::lay_schema` meets its contract. Assumes nothing.
use native.Mathlib.Omega.{arith}
use Rattle.tables.proofs.Laying.{schema-laid}
use Rattle.tables.proofs.lay_schema.Goals as goal

pub fill_schema-c-requires : goal.fill_schema-c-requires
fill_schema-c-requires c =
    record { schema_fits = c.requires.schema_fits; in_bounds = omega (arith, c.requires.in_bounds, c.clear.auto.area) }

pub returns : goal.returns
returns c =
    schema-laid _ _ _ _ _ _ c.clear.ensures c.fill_schema-c.ensures.area_after c.put_head.ensures c.fill_schema-c.ensures.value
