-- The schema's tables stand in its area, each at its place, and zeros behind them. Assumes nothing.
use Prim.Native.Nat.{ℕ, ◌+◌, ◌*◌, ◌≤◌, ◌<◌}
use native.Mathlib.Omega.{arith}
use mathlib.Core.Path.{◌≡◌, refl, ap, ◌∙◌}
use mathlib.Core.List.{List}
use lib.ListN.{length, get_or, replicate, length-replicate, get_or-replicate}
use Rattle.rules.specs.Text.{Row}
use Rattle.tables.specs.Fill.{SchemaFits}
use Rattle.tables.specs.Layout.{laid, table, counted, schema_head, schema_tables}
use Rattle.tables.specs.Read.{cell}
use Rattle.tables.proofs.Laid.{laid-length, laid_in, laid-before, laid-behind}
use Rattle.tables.proofs.Narrow.{Stands, narrow-length}

-- ---- the tables of the area: their numbers, where their counts stand, and where their rows begin

pub data SchemaTable : ℕ → ℕ → ℕ → Type 0 where
  type_table : SchemaTable 1 0 8
  field-table : SchemaTable 2 1 200
  arg_table : SchemaTable 3 2 584
  has_table : SchemaTable 4 3 776
  takes-table : SchemaTable 5 4 3848
  member_table : SchemaTable 6 5 6920

-- the area before each table is laid, and before the head is
abbrev over1 : ℕ → List Row → List ℕ
over1 n rs = laid 8 (table 1 0 rs) (replicate n 0)

abbrev over2 : ℕ → List Row → List ℕ
over2 n rs = laid 200 (table 2 0 rs) (over1 n rs)

abbrev over3 : ℕ → List Row → List ℕ
over3 n rs = laid 584 (table 3 0 rs) (over2 n rs)

abbrev over4 : ℕ → List Row → List ℕ
over4 n rs = laid 776 (table 4 0 rs) (over3 n rs)

abbrev over5 : ℕ → List Row → List ℕ
over5 n rs = laid 3848 (table 5 0 rs) (over4 n rs)

abbrev over6 : ℕ → List Row → List ℕ
over6 n rs = laid 6920 (table 6 0 rs) (over5 n rs)

module _ (n : ℕ) (rs : List Row) (room : 9992 ≤ n) (fits : SchemaFits rs) where
  length0 : length {A = ℕ} (replicate n 0) ≡ n
  length0 = length-replicate n 0

  length1 : length (over1 n rs) ≡ n
  length1 = laid-length 8 (table 1 0 rs) (replicate n 0) (omega (arith, narrow-length 1 rs refl, length0, fits.types)) ∙ length0

  length2 : length (over2 n rs) ≡ n
  length2 = laid-length 200 (table 2 0 rs) (over1 n rs) (omega (arith, narrow-length 2 rs refl, length1, fits.fields)) ∙ length1

  length3 : length (over3 n rs) ≡ n
  length3 = laid-length 584 (table 3 0 rs) (over2 n rs) (omega (arith, narrow-length 3 rs refl, length2, fits.args)) ∙ length2

  length4 : length (over4 n rs) ≡ n
  length4 = laid-length 776 (table 4 0 rs) (over3 n rs) (omega (arith, narrow-length 4 rs refl, length3, fits.has)) ∙ length3

  length5 : length (over5 n rs) ≡ n
  length5 = laid-length 3848 (table 5 0 rs) (over4 n rs) (omega (arith, narrow-length 5 rs refl, length4, fits.takes)) ∙ length4

  length6 : length (over6 n rs) ≡ n
  length6 = laid-length 6920 (table 6 0 rs) (over5 n rs) (omega (arith, narrow-length 6 rs refl, length5, fits.members)) ∙ length5

  pub tables-length : length (schema_tables n rs) ≡ n
  unfolding schema_tables schema_head
  tables-length = laid-length 0 (schema_head rs) (over6 n rs) (omega (arith, length6)) ∙ length6

  -- ---- the head

  pub tables-head : (i : ℕ) → i < 8 → cell (schema_tables n rs) i ≡ get_or (schema_head rs) i 0
  unfolding cell schema_tables schema_head
  tables-head i h = ap (cell (schema_tables n rs)) (omega arith) ∙ laid_in 0 (schema_head rs) (over6 n rs) i (omega arith) h

  -- ---- the tables: what is laid over a table's area does not reach it

  under7 : (i : ℕ) → 8 ≤ i → cell (schema_tables n rs) i ≡ get_or (over6 n rs) i 0
  unfolding cell schema_tables schema_head
  under7 i h = laid-behind 0 (schema_head rs) (over6 n rs) i (omega arith) (omega arith)

  under6 : (i : ℕ) → 8 ≤ i → i < 6920 → cell (schema_tables n rs) i ≡ get_or (over5 n rs) i 0
  under6 i h k = under7 i h ∙ laid-before 6920 (table 6 0 rs) (over5 n rs) i (omega (arith, length5)) k

  under5 : (i : ℕ) → 8 ≤ i → i < 3848 → cell (schema_tables n rs) i ≡ get_or (over4 n rs) i 0
  under5 i h k = under6 i h (omega arith) ∙ laid-before 3848 (table 5 0 rs) (over4 n rs) i (omega (arith, length4)) k

  under4 : (i : ℕ) → 8 ≤ i → i < 776 → cell (schema_tables n rs) i ≡ get_or (over3 n rs) i 0
  under4 i h k = under5 i h (omega arith) ∙ laid-before 776 (table 4 0 rs) (over3 n rs) i (omega (arith, length3)) k

  under3 : (i : ℕ) → 8 ≤ i → i < 584 → cell (schema_tables n rs) i ≡ get_or (over2 n rs) i 0
  under3 i h k = under4 i h (omega arith) ∙ laid-before 584 (table 3 0 rs) (over2 n rs) i (omega (arith, length2)) k

  under2 : (i : ℕ) → 8 ≤ i → i < 200 → cell (schema_tables n rs) i ≡ get_or (over1 n rs) i 0
  under2 i h k = under3 i h (omega arith) ∙ laid-before 200 (table 2 0 rs) (over1 n rs) i (omega (arith, length1)) k

  pub tables-stand : {k head base : ℕ} → SchemaTable k head base → Stands (schema_tables n rs) k base rs
  tables-stand type_table =
      record {
        small = refl;
        same = λ i h. under2 (8 + i) (omega arith) (omega (arith, fits.types))
            ∙ laid_in 8 (table 1 0 rs) (replicate n 0) i (omega (arith, length0)) (omega (arith, narrow-length 1 rs refl));
      }
  tables-stand field-table =
      record {
        small = refl;
        same = λ i h. under3 (200 + i) (omega arith) (omega (arith, fits.fields))
            ∙ laid_in 200 (table 2 0 rs) (over1 n rs) i (omega (arith, length1)) (omega (arith, narrow-length 2 rs refl));
      }
  tables-stand arg_table =
      record {
        small = refl;
        same = λ i h. under4 (584 + i) (omega arith) (omega (arith, fits.args))
            ∙ laid_in 584 (table 3 0 rs) (over2 n rs) i (omega (arith, length2)) (omega (arith, narrow-length 3 rs refl));
      }
  tables-stand has_table =
      record {
        small = refl;
        same = λ i h. under5 (776 + i) (omega arith) (omega (arith, fits.has))
            ∙ laid_in 776 (table 4 0 rs) (over3 n rs) i (omega (arith, length3)) (omega (arith, narrow-length 4 rs refl));
      }
  tables-stand takes-table =
      record {
        small = refl;
        same = λ i h. under6 (3848 + i) (omega arith) (omega (arith, fits.takes))
            ∙ laid_in 3848 (table 5 0 rs) (over4 n rs) i (omega (arith, length4)) (omega (arith, narrow-length 5 rs refl));
      }
  tables-stand member_table =
      record {
        small = refl;
        same = λ i h. under7 (6920 + i) (omega arith)
            ∙ laid_in 6920 (table 6 0 rs) (over5 n rs) i (omega (arith, length5)) (omega (arith, narrow-length 6 rs refl));
      }

  pub tables-count : {k head base : ℕ} → SchemaTable k head base → cell (schema_tables n rs) head ≡ counted k rs
  unfolding schema_head
  tables-count type_table = tables-head 0 (omega arith)
  tables-count field-table = tables-head 1 (omega arith)
  tables-count arg_table = tables-head 2 (omega arith)
  tables-count has_table = tables-head 3 (omega arith)
  tables-count takes-table = tables-head 4 (omega arith)
  tables-count member_table = tables-head 5 (omega arith)

  -- ---- behind the last table

  pub tables-behind : (i : ℕ) → 9992 ≤ i → i < n → cell (schema_tables n rs) i ≡ 0
  tables-behind i h l =
      under7 i (omega arith)
      ∙ laid-behind 6920 (table 6 0 rs) (over5 n rs) i (omega (arith, length5)) (omega (arith, narrow-length 6 rs refl, fits.members))
      ∙ laid-behind 3848 (table 5 0 rs) (over4 n rs) i (omega (arith, length4)) (omega (arith, narrow-length 5 rs refl, fits.takes))
      ∙ laid-behind 776 (table 4 0 rs) (over3 n rs) i (omega (arith, length3)) (omega (arith, narrow-length 4 rs refl, fits.has))
      ∙ laid-behind 584 (table 3 0 rs) (over2 n rs) i (omega (arith, length2)) (omega (arith, narrow-length 3 rs refl, fits.args))
      ∙ laid-behind 200 (table 2 0 rs) (over1 n rs) i (omega (arith, length1)) (omega (arith, narrow-length 2 rs refl, fits.fields))
      ∙ laid-behind 8 (table 1 0 rs) (replicate n 0) i (omega (arith, length0)) (omega (arith, narrow-length 1 rs refl, fits.types))
      ∙ get_or-replicate n i 0 0 l

  -- each table ends there, and its count stands in the head
  pub tables-low : {k head base : ℕ} → SchemaTable k head base → (base + 3 * counted k rs ≤ 9992) × (head < 8)
  tables-low type_table = (omega (arith, fits.types), omega arith)
  tables-low field-table = (omega (arith, fits.fields), omega arith)
  tables-low arg_table = (omega (arith, fits.args), omega arith)
  tables-low has_table = (omega (arith, fits.has), omega arith)
  tables-low takes-table = (omega (arith, fits.takes), omega arith)
  tables-low member_table = (omega (arith, fits.members), omega arith)

  -- so an area whose first numbers are the same has the same tables
  module _ (a : List ℕ) (tables : (i : ℕ) → i < 9992 → cell a i ≡ cell (schema_tables n rs) i) {k head base : ℕ} (t : SchemaTable k head base) where
    pub tabled_stands : Stands a k base rs
    tabled_stands =
        let s = tables-stand t in
        record { small = s.small; same = λ i h. tables (base + i) (omega (arith, (tables-low t).0)) ∙ s.same i h }

    pub tabled-count : cell a head ≡ counted k rs
    tabled-count = tables head (omega (arith, (tables-low t).1)) ∙ tables-count t
