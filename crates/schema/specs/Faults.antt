-- What checks 12, 14 and 15 say of one row, by the schema that an area holds. Assumes nothing.
use Rattle.std.specs.Prelude.{ℕ, List, [], ◌∷◌, Bool, not, cond, eqb, Option, None}
use Rattle.rules.specs.Lists.{any}
use Rattle.rules.specs.Text.{Row, U, type_no}
use Rattle.rules.specs.Search.{fault, fault_if}
use Rattle.rules.specs.Schema.{check12, check14, has_field}
use Rattle.rules.specs.declared.TypeNo.{TypeNo}
use Rattle.tables.specs.Read.{schema_at}

-- a row by its letter and its first two numbers, which are all that these checks look at
unfoldable pub row_for : ℕ → ℕ → ℕ → Row
row_for l x y = record { letter = l; numbers = x ∷ y ∷ [] }

unfoldable pub fault12 : List ℕ → ℕ → ℕ → ℕ → Option ℕ
fault12 a l x y = fault (check12 (schema_at a) [] (row_for l x y) [])

unfoldable pub fault14 : List ℕ → ℕ → ℕ → ℕ → Option ℕ
fault14 a l x y = fault (check14 (schema_at a) [] (row_for l x y) [])

-- of a union, n types stand before it, so that n is its number
unfoldable pub fault15 : List ℕ → ℕ → ℕ → Option ℕ
fault15 a l n = cond (eqb l U) (fault_if (not ((schema_at a).some_member (type_no n))) 0) None

-- a field of t is missing from o
unfoldable pub lacks : List ℕ → TypeNo → TypeNo → Bool
lacks a t o = any (λ f. not (has_field (schema_at a) o f)) ((schema_at a).fields_of t)
