-- The schema that an area's tables state. Assumes nothing.
use Rattle.rules.specs.Schema.{Schema}
use Rattle.tables.specs.Read.{schema_at}
use Rattle.schema.specs.declared.held.SchemaTables.{SchemaTables}

abbrev pub stated : SchemaTables → Schema
stated a = schema_at a.area.now
