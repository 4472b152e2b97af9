-- Type membership as one number: "With at most 64 types, the object types compatible with a type fit the bits of one 64-bit number" (ix).
-- The rule is `compatible` in `rules`; here is where its answers are kept, behind the links in the schema's area. Assumes nothing.
use Rattle.std.specs.Prelude.{ℕ, ◌+◌, ◌*◌, ◌/◌, ◌%◌, ◌≤◌, ◌<◌, ◌≡◌, List, map, Bool, true, cond, ◌&&◌, eqb, ltb, length}
use Rattle.rules.specs.Lists.{count_up}
use Rattle.rules.specs.Text.{Row, type_no}
use Rattle.rules.specs.Schema.{Schema, schema_of, kind, is_object, has_members, compatible}
use Rattle.rules.specs.declared.TypeNo.{TypeNo}
use Rattle.bits.specs.Bits.{bits_of}
use Rattle.tables.specs.Layout.{laid}
use Rattle.tables.specs.Read.{cell, schema_at}
use Rattle.index.specs.Buckets.{links_end, schema_linked}

-- ---- the members of a type

-- o is an object type that is compatible with t
unfoldable pub member_of : Schema → ℕ → ℕ → Bool
member_of s t o = is_object s (type_no o) && compatible s (type_no o) (type_no t)

-- all of them, as the bits of one number
unfoldable pub members_of : Schema → TypeNo → ℕ
members_of s t = bits_of (member_of s t.0) 64

-- What 11 and 12 leave: "at most 64 types", so that no declared number is 64 or more; and an `M` record gives a union or an interface an
-- object type.
pub record MembersSound (s : Schema) : Type 0 where
  pub below : (t : TypeNo) → (kind s t ≡ 0 → ⊥) → t.0 < 64
  pub given : (t o : TypeNo) → s.has_member t o ≡ true → (has_members s t ≡ true) × (is_object s o ≡ true)

-- ---- where they stand: 64 numbers of 64 bits, each in two cells, the low half first

abbrev pub masks_from : ℕ
masks_from = links_end

-- the needed length of the schema's area
abbrev pub schema_needed : ℕ
schema_needed = 14728

-- how many numbers a cell can hold
abbrev pub cell_size : ℕ
cell_size = 4294967296

-- n numbers, each by its place
unfoldable pub filled : ℕ → (ℕ → ℕ) → List ℕ
filled n f = map f (count_up 0 n)

-- the low half of a number, at 0, or the high
unfoldable pub half_of : ℕ → ℕ → ℕ
half_of h m = cond (eqb h 0) (m % cell_size) (m / cell_size)

-- bit o of mask t is what p says of t and o
unfoldable pub mask_cells : (ℕ → ℕ → Bool) → List ℕ
mask_cells p = filled 128 (λ i. half_of (i % 2) (bits_of (p (i / 2)) 64))

unfoldable pub masked : (ℕ → ℕ → Bool) → List ℕ → List ℕ
masked p a = laid masks_from (mask_cells p) a

-- "Build such a table once from the accepted schema": its tables and their links, and behind them the members of each type
unfoldable pub schema_area : ℕ → List Row → List ℕ
schema_area n rs = masked (member_of (schema_of rs)) (schema_linked n rs)

-- ---- reading them

-- the mask of type t as one number, 0 where t cannot be a type's number
unfoldable pub mask_at : List ℕ → ℕ → ℕ
mask_at a t = cond (ltb t 64) (cell a (masks_from + 2 * t) + cell_size * cell a (masks_from + 2 * t + 1)) 0

-- An area whose masks are the members of the types that it holds, whatever numbers are asked.
pub record MasksHeld (a : List ℕ) : Type 0 where
  pub long : schema_needed ≤ length a
  pub sound : MembersSound (schema_at a)
  pub agree : (t : TypeNo) → mask_at a t.0 ≡ members_of (schema_at a) t

-- A sealed name, so that a search through what is known of an area does not enter the masks.
unfoldable pub Masked : List ℕ → Type 0
Masked a = MasksHeld a
