-- Whole areas: cleared, then laid row by row, and the head last; each table has room at its place. Assumes nothing.
use Prim.Native.Nat.{ℕ, suc, ◌+◌, ◌*◌, ◌≤◌, ◌<◌}
use native.Mathlib.Omega.{arith}
use mathlib.Core.Path.{◌≡◌, ap, ◌∙◌}
use mathlib.Core.Bool.{Bool, true, false}
use mathlib.Core.List.{List, [], ◌∷◌}
use lib.ListN.{length, set, replicate}
use borrow.Author.Tests.{le-leb, lt-leb}
use Rattle.rules.specs.Lists.{those, keep_if}
use Rattle.rules.specs.Text.{Row}
use Rattle.tables.specs.Layout.{laid, belongs, table, counted, all_values, schema_head, schema_laid, schema_tables, node_area, property_area, value_area, query_area}
use Rattle.tables.specs.Fill.{queries_in, schema_counts_of, head_of, SchemaFits, GraphFits}
use Rattle.tables.specs.declared.SchemaCounts.{SchemaCounts}
use Rattle.tables.proofs.Narrow.{narrow-length}
use Rattle.tables.proofs.Wide.{wide-table_length}
use Rattle.tables.proofs.Stores.{head_stored}

-- ---- how long a table is

module _ (k : ℕ) (rs : List Row) where
  pub narrow-long : k ≤ 7 → length (table k 0 rs) ≡ 3 * counted k rs
  narrow-long h = narrow-length k rs (le-leb k 7 h)

  pub wide-long : 7 < k → length (table k 0 rs) ≡ 14 * counted k rs
  wide-long h = wide-table_length k rs (lt-leb k 7 h)

those-most : (p : Row → Bool) (rs : List Row) → length (those p rs) ≤ length rs
those-most p [] = omega arith
those-most p (r ∷ rs) = go (those-most p rs) (p r)
  where
    go : length (those p rs) ≤ length rs → (b : Bool) → length (keep_if b r (those p rs)) ≤ suc (length rs)
    go ih true = omega arith
    go ih false = omega arith

pub counted-most : (k : ℕ) (rs : List Row) → counted k rs ≤ length rs
unfolding counted
counted-most k rs = those-most (belongs k) rs

-- ---- each table has room at its place

module _ (rs : List Row) (f : GraphFits rs) where
  pub node-room : 8 + length (table 7 0 rs) ≤ 1544
  node-room = let h = f.nodes in omega (arith, narrow-long 7 rs (omega arith))

  pub edge-room : 1544 + length (table 8 0 rs) ≤ 15880
  edge-room = let h = f.edges in omega (arith, wide-long 8 rs (omega arith))

  pub property-room : 8 + length (table 9 0 rs) ≤ 14344
  property-room = let h = f.properties in omega (arith, wide-long 9 rs (omega arith))

  pub value_room : 8 + length (all_values rs) ≤ 8200
  value_room = let h = f.values in omega arith

pub query-room : (rs : List Row) → length rs ≤ 256 → 8 + length (table 10 0 rs) ≤ 3592
query-room rs h = omega (arith, wide-long 10 rs (omega arith), counted-most 10 rs)

-- ---- cleared, the tables, and the head

module _ (rs : List Row) (n : ℕ) (a₀ a₁ : List ℕ) (e₀ : a₀ ≡ replicate n 0) where
  pub node-laid : (v w : ℕ) → 2 ≤ length a₁ → a₁ ≡ laid 1544 (table 8 0 rs) (laid 8 (table 7 0 rs) a₀) → v ≡ counted 7 rs → w ≡ counted 8 rs
      → set (set a₁ 0 v) 1 w ≡ node_area n rs
  unfolding node_area
  node-laid v w h e₁ p q = head_stored (v ∷ w ∷ []) a₁ h ∙ cc

  module _ (v : ℕ) (h : 1 ≤ length a₁) where
    pub property-laid : a₁ ≡ laid 8 (table 9 0 rs) a₀ → v ≡ counted 9 rs → set a₁ 0 v ≡ property_area n rs
    unfolding property_area
    property-laid e₁ e = head_stored (v ∷ []) a₁ h ∙ cc

    pub value-laid : a₁ ≡ laid 8 (all_values rs) a₀ → v ≡ length (all_values rs) → set a₁ 0 v ≡ value_area n rs
    unfolding value_area
    value-laid e₁ e = head_stored (v ∷ []) a₁ h ∙ cc

    pub query-laid : a₁ ≡ laid 8 (table 10 0 rs) a₀ → v ≡ counted 10 rs → set a₁ 0 v ≡ query_area n rs
    unfolding query_area
    query-laid e₁ e = head_stored (v ∷ []) a₁ h ∙ cc

-- ---- the schema

-- each table has room before the next, and the last in the area
module _ (rs : List Row) (f : SchemaFits rs) where
  pub type_room : 8 + length (table 1 0 rs) ≤ 200
  type_room = let h = f.types in omega (arith, narrow-long 1 rs (omega arith))

  pub field_room : 200 + length (table 2 0 rs) ≤ 584
  field_room = let h = f.fields in omega (arith, narrow-long 2 rs (omega arith))

  pub arg_room : 584 + length (table 3 0 rs) ≤ 776
  arg_room = let h = f.args in omega (arith, narrow-long 3 rs (omega arith))

  pub has_room : 776 + length (table 4 0 rs) ≤ 3848
  has_room = let h = f.has in omega (arith, narrow-long 4 rs (omega arith))

  pub takes-room : 3848 + length (table 5 0 rs) ≤ 6920
  takes-room = let h = f.takes in omega (arith, narrow-long 5 rs (omega arith))

  pub member_room : 6920 + length (table 6 0 rs) ≤ 9992
  member_room = let h = f.members in omega (arith, narrow-long 6 rs (omega arith))

-- cleared, the tables, and the head
pub schema-laid : (rs : List Row) (n : ℕ) (a₀ a₁ a₂ : List ℕ) (c : SchemaCounts) → a₀ ≡ replicate n 0 → a₁ ≡ schema_laid rs a₀
    → a₂ ≡ laid 0 (head_of c) a₁ → c ≡ schema_counts_of rs → a₂ ≡ schema_tables n rs
unfolding schema_tables schema_head head_of schema_counts_of queries_in
schema-laid rs n a₀ a₁ a₂ c e₀ e₁ e₂ e = e₂ ∙ ap (λ (x : SchemaCounts). laid 0 (head_of x) a₁) e ∙ cc
