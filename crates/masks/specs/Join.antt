-- One member more in the masks of an area, and those of all object types and `M` records. Assumes nothing.
use Rattle.std.specs.Prelude.{ℕ, zero, suc, ◌+◌, ◌*◌, ◌/◌, ◌%◌, ◌^◌, ◌≤◌, ◌<◌, ◌≡◌, cond, List, length, set, eqb}
use Rattle.std.specs.Int.Bits.{bit_or}
use Rattle.rules.specs.Text.{O}
use Rattle.tables.specs.Read.{cell, schema_at}
use Rattle.masks.specs.Masks.{masks_from, schema_needed, cell_size, mask_at, MembersSound}

-- m as the mask of type t
unfoldable pub with_mask : List ℕ → ℕ → ℕ → List ℕ
with_mask a t m = set (set a (masks_from + 2 * t) (m % cell_size)) (masks_from + 2 * t + 1) (m / cell_size)

-- bit o of the mask of type t set
unfoldable pub joined : List ℕ → ℕ → ℕ → List ℕ
joined a t o = with_mask a t (bit_or (mask_at a t) (2 ^ o))

-- ---- what the tables ask for

-- where the count of the types and that of the `M` records stand in the area, and where their rows begin
abbrev pub type_count : ℕ
type_count = 0

abbrev pub member_count : ℕ
member_count = 5

abbrev pub type_rows : ℕ
type_rows = 8

abbrev pub member_rows : ℕ
member_rows = 6920

-- the letter of type t, and the two numbers of `M` record j
abbrev pub letter_at : List ℕ → ℕ → ℕ
letter_at a t = cell a (type_rows + 3 * t + 0)

abbrev pub type_at : List ℕ → ℕ → ℕ
type_at a j = cell a (member_rows + 3 * j + 1)

abbrev pub object_at : List ℕ → ℕ → ℕ
object_at a j = cell a (member_rows + 3 * j + 2)

-- an object type joins itself; any other does not
unfoldable pub object_joined : List ℕ → ℕ → List ℕ
object_joined a t = cond (eqb (letter_at a t) O) (joined a t t) a

-- the object of an `M` record joins its type
unfoldable pub member_joined : List ℕ → ℕ → List ℕ
member_joined a j = joined a (type_at a j) (object_at a j)

-- one after another, the first n
unfoldable pub joined_by : (List ℕ → ℕ → List ℕ) → List ℕ → ℕ → List ℕ
joined_by step a zero = a
joined_by step a (suc n) = step (joined_by step a n) n

-- of the types, and of the `M` records
abbrev pub objects_joined : List ℕ → ℕ → List ℕ
objects_joined a n = joined_by object_joined a n

abbrev pub members_joined : List ℕ → ℕ → List ℕ
members_joined a n = joined_by member_joined a n

-- ---- areas that they can be laid in

-- the numbers of each `M` record can be types'
pub record Joinable (a : List ℕ) : Type 0 where
  pub long : schema_needed ≤ length a
  pub few : cell a member_count ≤ 1024
  pub small : (j : ℕ) → j < cell a member_count → (type_at a j < 64) × (object_at a j < 64)

-- A schema that passed 12 stands in the area, and zeros where the masks will.
pub record Maskable (a : List ℕ) : Type 0 where
  pub long : schema_needed ≤ length a
  pub types : cell a type_count ≤ 64
  pub members : cell a member_count ≤ 1024
  pub sound : MembersSound (schema_at a)
  pub blank : (i : ℕ) → masks_from ≤ i → i < schema_needed → cell a i ≡ 0
