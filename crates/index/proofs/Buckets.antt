-- Laws of the links in the schema's area: a turn of the loop that lays those of one table, and the area with one table's links more.
-- Assumes nothing.
use Prim.Native.Nat.{ℕ, ◌+◌, ◌*◌, ◌-◌, ◌%◌, ◌≤◌, ◌<◌}
use native.Mathlib.Omega.{arith}
use native.Mathlib.Decide.{dec_lt}
use mathlib.Core.Path.{◌≡◌, refl, sym, ap, ◌∙◌, subst}
use mathlib.Core.List.{List}
use lib.ListN.{length, get_or}
use lib.Seq.{ext_get_or}
use Rattle.rules.specs.Text.{Row, at, G, H, M}
use Rattle.tables.specs.Layout.{laid, narrow, counted, schema_tables}
use Rattle.tables.specs.Fill.{SchemaFits}
use Rattle.tables.specs.Read.{cell}
use Rattle.tables.proofs.Laid.{laid-length, laid_in, laid-before, laid-behind}
use Rattle.tables.proofs.Narrow.{Stands, row-cell}
use Rattle.tables.proofs.Schemas.{SchemaTable, has_table, takes-table, member_table, tables-length, tables-behind}
use Rattle.tables.proofs.Schemas.{tables-low, tabled_stands, tabled-count}
use Rattle.index.specs.Index.{link_cell, keys, Keyed, Chained, LinksLaid}
use Rattle.index.specs.Buckets.{links, buckets, bucket_at, has_from, takes_from, members_from, schema_linked, SchemaStands, Linkable}
use Rattle.index.proofs.Links.{tabled-length, tabled-at}
use Rattle.index.proofs.Laying.{Linking}
use Rattle.index.proofs.Areas.{rows-keys, linked-by}

-- ---- buckets are keys

-- A bucket is below 512, whatever the number is.
pub bucket_small : (x : ℕ) → x % 512 < 512
bucket_small x = omega arith

pub buckets_keyed : (a : List ℕ) (base n : ℕ) → n ≤ 1024 → Keyed (bucket_at a base) n
unfolding bucket_at
buckets_keyed a base n few = record { few = few; within = λ j h. bucket_small (cell a (base + 3 * j + 1)) }

-- a table's rows are read from where its links are laid, and stand in front of them
pub bucket_read : (ss a₀ a : List ℕ) (base n at j i v : ℕ) → Linkable a₀ base n at → Linking ss at a₀ a j → i < n → v ≡ cell a (base + 3 * i + 1)
    → v % 512 ≡ bucket_at a₀ base i
unfolding bucket_at
bucket_read ss a₀ a base n at j i v linkable l h e =
    ap (λ (w : ℕ). w % 512) (e ∙ l.below (base + 3 * i + 1) (omega (arith, linkable.front)))

-- the rows of a table that stands in an area have its rows' buckets
pub rows-buckets : (a : List ℕ) (k base n : ℕ) (rs : List Row) → Stands a k base rs → n ≡ counted k rs → keys (bucket_at a base) n ≡ buckets k rs
unfolding buckets bucket_at narrow
rows-buckets a k base n rs s e =
    rows-keys (bucket_at a base) (λ r. at r 0 % 512) k n rs e
    (λ j h. ap (λ (w : ℕ). w % 512) (row-cell a k base rs s j 1 h (omega arith)))

-- ---- links laid are numbers laid

pub links-length : (n : ℕ) (ss : List ℕ) → length (links n ss) ≡ n
unfolding links
links-length n ss = tabled-length (link_cell ss) n 0

links-cell : (n : ℕ) (ss : List ℕ) (i : ℕ) → i < n → get_or (links n ss) i 0 ≡ link_cell ss i
unfolding links
links-cell n ss i h = tabled-at (link_cell ss) 0 n i h

module _ (ss : List ℕ) (at : ℕ) (a : List ℕ) (room : at + 1536 ≤ length a) where
  pub laid-links : LinksLaid ss at a (laid at (links 1536 ss) a)
  unfolding cell
  laid-links =
      let m = links-length 1536 ss in
      record {
        same = laid-length at (links 1536 ss) a (omega arith);
        inside = λ i h. laid_in at (links 1536 ss) a i (omega arith) (omega arith) ∙ links-cell 1536 ss i h;
        below = λ i h. laid-before at (links 1536 ss) a i (omega arith) h;
        above = λ i h. laid-behind at (links 1536 ss) a i (omega arith) (omega arith);
      }

  pub links-laid : (b : List ℕ) → LinksLaid ss at a b → b ≡ laid at (links 1536 ss) a
  unfolding cell
  links-laid b l = ext_get_or 0 b c (l.same ∙ sym laid-links.same) (λ i h. go i (dec_lt i at) (dec_lt i (at + 1536)))
    where
      c : List ℕ
      c = laid at (links 1536 ss) a

      go : (i : ℕ) → Dec (i < at) → Dec (i < at + 1536) → get_or b i 0 ≡ get_or c i 0
      go i (yes d) e = l.below i d ∙ sym (laid-links.below i d)
      go i (no d) (yes e) =
          let f : i ≡ at + (i - at) = omega arith in
          ap (cell b) f
          ∙ l.inside (i - at) (omega arith)
          ∙ sym (laid-links.inside (i - at) (omega arith))
          ∙ ap (cell c) (sym f)
      go i (no d) (no e) = l.above i (omega arith) ∙ sym (laid-links.above i (omega arith))

-- ---- the schema's area while its links are laid

-- An area with the schema's tables, in which links stand up to `at`, and zeros behind.
pub record Tabled (n : ℕ) (rs : List Row) (at : ℕ) (a : List ℕ) : Type 0 where
  pub same : length a ≡ n
  pub tables : (i : ℕ) → i < 9992 → cell a i ≡ cell (schema_tables n rs) i
  pub zeros : (i : ℕ) → at ≤ i → i < n → cell a i ≡ 0

-- the tables of pairs, which are linked: where the count, the rows and the links stand, and the letter
pub data PairTable : ℕ → ℕ → ℕ → ℕ → ℕ → Type 0 where
  has_pairs : PairTable 4 3 776 has_from H
  takes-pairs : PairTable 5 4 3848 takes_from G
  member_pairs : PairTable 6 5 6920 members_from M

pub pair-table : {k head base at letter : ℕ} → PairTable k head base at letter → SchemaTable k head base
pair-table has_pairs = has_table
pair-table takes-pairs = takes-table
pair-table member_pairs = member_table

module _ (n : ℕ) (rs : List Row) (room : 14600 ≤ n) (fits : SchemaFits rs) where
  pub tabled_start : Tabled n rs 9992 (schema_tables n rs)
  tabled_start =
      record { same = tables-length n rs (omega arith) fits; tables = λ i h. refl; zeros = tables-behind n rs (omega arith) fits }

  pub tabled-on : {ss a b : List ℕ} {at : ℕ} → Tabled n rs at a → 9992 ≤ at → LinksLaid ss at a b → Tabled n rs (at + 1536) b
  tabled-on t h l =
      record {
        same = l.same ∙ t.same;
        tables = λ i k. l.below i (omega arith) ∙ t.tables i k;
        zeros = λ i k m. l.above i k ∙ t.zeros i (omega arith) m;
      }

  -- ---- one table

  -- its links stand behind all tables, and before 14600
  placed : {k head base at letter : ℕ} → PairTable k head base at letter → (counted k rs ≤ 1024) × (9992 ≤ at) × (at ≤ 13064)
  placed has_pairs = (fits.has, omega arith, omega arith)
  placed takes-pairs = (fits.takes, omega arith, omega arith)
  placed member_pairs = (fits.members, omega arith, omega arith)

  module _ {k head base at letter : ℕ} (table : PairTable k head base at letter) where
    table_stands : {a : List ℕ} {to : ℕ} → Tabled n rs to a → Stands a k base rs
    table_stands {a} t = tabled_stands n rs (omega arith) fits a t.tables (pair-table table)

    table-count : {a : List ℕ} {to : ℕ} → Tabled n rs to a → cell a head ≡ counted k rs
    table-count {a} t = tabled-count n rs (omega arith) fits a t.tables (pair-table table)

    module _ {a : List ℕ} (t : Tabled n rs at a) (m : ℕ) (is : m ≡ counted k rs) where
      table_linkable : Linkable a base m at
      table_linkable =
          let p = placed table in
          let few = p.0 in
          let low = p.2 in
          let long = t.same in
          record {
            few = omega arith;
            front = omega (arith, p.1, (tables-low n rs (omega arith) fits (pair-table table)).0);
            blank = record {
              long = omega arith;
              low = low;
              zeros = λ i h. t.zeros (at + i) (omega arith) (omega arith);
            };
          }

      table-laid : {b : List ℕ} → LinksLaid (keys (bucket_at a base) m) at a b → b ≡ laid at (links 1536 (buckets k rs)) a
      table-laid {b} l =
          links-laid (buckets k rs) at a (omega (arith, (placed table).2, t.same)) b
          (subst (λ (ss : List ℕ). LinksLaid ss at a b) (rows-buckets a k base m rs (table_stands t) is) l)

  -- ---- all three, one after another: the counts are read before

  module _ (a₀ : List ℕ) (tables : a₀ ≡ schema_tables n rs) where
    start : Tabled n rs 9992 a₀
    start = subst (Tabled n rs 9992) (sym tables) tabled_start

    pub tables-long : 9992 ≤ length a₀
    tables-long = omega (arith, start.same)

    pub tables-few : {k head base at letter : ℕ} → PairTable k head base at letter → cell a₀ head ≤ 1024
    tables-few table = omega (arith, table-count table start, (placed table).0)

    pub has_linkable : Linkable a₀ 776 (cell a₀ 3) 9992
    has_linkable = table_linkable has_pairs start (cell a₀ 3) (table-count has_pairs start)

    module _ (a₁ : List ℕ) (first : LinksLaid (keys (bucket_at a₀ 776) (cell a₀ 3)) 9992 a₀ a₁) where
      second : Tabled n rs 11528 a₁
      second = tabled-on start (omega arith) first

      pub takes_linkable : Linkable a₁ 3848 (cell a₀ 4) 11528
      takes_linkable = table_linkable takes-pairs second (cell a₀ 4) (table-count takes-pairs start)

      module _ (a₂ : List ℕ) (next : LinksLaid (keys (bucket_at a₁ 3848) (cell a₀ 4)) 11528 a₁ a₂) where
        third : Tabled n rs 13064 a₂
        third = tabled-on second (omega arith) next

        pub members_linkable : Linkable a₂ 6920 (cell a₀ 5) 13064
        members_linkable = table_linkable member_pairs third (cell a₀ 5) (table-count member_pairs start)

        pub schema-laid : (a₃ : List ℕ) → LinksLaid (keys (bucket_at a₂ 6920) (cell a₀ 5)) 13064 a₂ a₃ → a₃ ≡ schema_linked n rs
        unfolding schema_linked
        schema-laid a₃ last =
            table-laid member_pairs third (cell a₀ 5) (table-count member_pairs start) last
            ∙ ap (laid 13064 (links 1536 (buckets 6 rs)))
            (table-laid takes-pairs second (cell a₀ 4) (table-count takes-pairs start) next
            ∙ ap (laid 11528 (links 1536 (buckets 5 rs)))
            (table-laid has_pairs start (cell a₀ 3) (table-count has_pairs start) first
            ∙ ap (laid 9992 (links 1536 (buckets 4 rs))) tables))

  -- ---- the area with all links

  abbrev with_has : List ℕ
  with_has = laid 9992 (links 1536 (buckets 4 rs)) (schema_tables n rs)

  abbrev with_takes : List ℕ
  with_takes = laid 11528 (links 1536 (buckets 5 rs)) with_has

  has_laid : LinksLaid (buckets 4 rs) 9992 (schema_tables n rs) with_has
  has_laid = laid-links (buckets 4 rs) 9992 (schema_tables n rs) (omega (arith, tabled_start.same))

  has_tabled : Tabled n rs 11528 with_has
  has_tabled = tabled-on tabled_start (omega arith) has_laid

  takes-laid : LinksLaid (buckets 5 rs) 11528 with_has with_takes
  takes-laid = laid-links (buckets 5 rs) 11528 with_has (omega (arith, has_tabled.same))

  takes-tabled : Tabled n rs 13064 with_takes
  takes-tabled = tabled-on has_tabled (omega arith) takes-laid

  members_laid : LinksLaid (buckets 6 rs) 13064 with_takes (schema_linked n rs)
  unfolding schema_linked
  members_laid = laid-links (buckets 6 rs) 13064 with_takes (omega (arith, takes-tabled.same))

  pub schema-tabled : Tabled n rs 14600 (schema_linked n rs)
  schema-tabled = tabled-on takes-tabled (omega arith) members_laid

  schema-cell : {k head base at letter : ℕ} → PairTable k head base at letter → (i : ℕ) → i < 1536
      → cell (schema_linked n rs) (at + i) ≡ link_cell (buckets k rs) i
  schema-cell has_pairs i h =
      members_laid.below (9992 + i) (omega arith) ∙ takes-laid.below (9992 + i) (omega arith) ∙ has_laid.inside i h
  schema-cell takes-pairs i h = members_laid.below (11528 + i) (omega arith) ∙ takes-laid.inside i h
  schema-cell member_pairs i h = members_laid.inside i h

  -- what is laid stands, and whatever has the same in front of the links' end
  pub linked_stands : SchemaStands (schema_linked n rs) rs
  linked_stands =
      let long = schema-tabled.same in
      record { long = omega arith; same = λ i h. ap (λ (m : ℕ). cell (schema_linked m rs) i) (sym long) }

-- ---- an area in which all stands

module _ (a : List ℕ) (rs : List Row) (stands : SchemaStands a rs) (fits : SchemaFits rs) where
  abbrev n : ℕ
  n = length a

  pub standing_tables : (i : ℕ) → i < has_from → cell a i ≡ cell (schema_tables n rs) i
  standing_tables i h = stands.same i (omega arith) ∙ (schema-tabled n rs stands.long fits).tables i h

  -- A table of the schema is linked by its buckets.
  pub schema-linked : {k head base at letter : ℕ} → PairTable k head base at letter → Chained (bucket_at a base) (cell a head) a at
  schema-linked {k} {head} {base} {at} table =
      let room = stands.long in
      let tables = tabled_stands n rs (omega arith) fits a standing_tables (pair-table table) in
      let count = tabled-count n rs (omega arith) fits a standing_tables (pair-table table) in
      let p = placed n rs room fits table in
      linked-by (bucket_at a base) (cell a head) (buckets_keyed a base (cell a head) (omega (arith, count, p.0))) a at
      (omega (arith, p.2)) p.2
      (λ i h. stands.same (at + i) (omega (arith, p.2))
      ∙ schema-cell n rs room fits table i h
      ∙ ap (λ (ss : List ℕ). link_cell ss i) (sym (rows-buckets a k base (cell a head) rs tables count)))
