-- The front of the schema's area: its tables, and behind them the links of H, G and M, whose rows are looked for by their first numbers.
-- A key is below 512 and a number need not be, so that a row's key is its bucket: the remainder of its first number. Assumes nothing.
use Rattle.std.specs.Prelude.{ℕ, ◌+◌, ◌*◌, ◌%◌, ◌≤◌, ◌<◌, ◌≡◌, List, map, length}
use Rattle.rules.specs.Lists.{those, count_up}
use Rattle.rules.specs.Text.{Row, at}
use Rattle.tables.specs.Layout.{laid, belongs, schema_tables}
use Rattle.tables.specs.Read.{cell}
use Rattle.index.specs.Index.{link_cell, Blank}

-- the first n numbers of the links of rows of these keys
unfoldable pub links : ℕ → List ℕ → List ℕ
links n ss = map (link_cell ss) (count_up 0 n)

-- the buckets of the rows of table k
unfoldable pub buckets : ℕ → List Row → List ℕ
buckets k rs = map (λ r. at r 0 % 512) (those (belongs k) rs)

-- the bucket of row j of a narrow table that stands in an area from `base` on
unfoldable pub bucket_at : List ℕ → ℕ → ℕ → ℕ
bucket_at a base j = cell a (base + 3 * j + 1) % 512

-- where the links of H, of G and of M stand in the schema's area, and where they end
abbrev pub has_from : ℕ
has_from = 9992

abbrev pub takes_from : ℕ
takes_from = 11528

abbrev pub members_from : ℕ
members_from = 13064

abbrev pub links_end : ℕ
links_end = 14600

unfoldable pub schema_linked : ℕ → List Row → List ℕ
schema_linked n rs =
    laid members_from (links 1536 (buckets 6 rs))
    (laid takes_from (links 1536 (buckets 5 rs)) (laid has_from (links 1536 (buckets 4 rs)) (schema_tables n rs)))

-- The tables and the links of the rows stand in an area, whatever stands behind them.
pub record SchemaStands (a : List ℕ) (rs : List Row) : Type 0 where
  pub long : links_end ≤ length a
  pub same : (i : ℕ) → i < links_end → cell a i ≡ cell (schema_linked (length a) rs) i

-- A narrow table of n rows from `base` on, and behind it, from `at` on, room for its links.
pub record Linkable (a : List ℕ) (base n at : ℕ) : Type 0 where
  pub few : n ≤ 1024
  pub front : base + 3 * n ≤ at
  pub blank : Blank a at
