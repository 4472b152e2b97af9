-- The area of an accepted schema: its tables and links stand in it, and its masks are the members of its types. Assumes nothing.
use Prim.Native.Nat.{ℕ, ◌≤◌, ◌<◌}
use native.Mathlib.Omega.{arith}
use native.Mathlib.Decide.{dec_lt}
use mathlib.Core.Path.{◌≡◌, sym, ap, ◌∙◌, subst}
use mathlib.Core.Bool.{Bool}
use mathlib.Core.List.{List}
use lib.ListN.{length}
use Rattle.rules.specs.Text.{Row}
use Rattle.rules.specs.Schema.{Schema, schema_of}
use Rattle.rules.specs.declared.TypeNo.{TypeNo}
use Rattle.tables.specs.Fill.{SchemaFits}
use Rattle.tables.specs.Read.{cell, schema_at}
use Rattle.tables.proofs.Schemas.{type_table, member_table}
use Rattle.index.specs.Buckets.{schema_linked, SchemaStands}
use Rattle.index.proofs.Buckets.{schema-tabled, linked_stands}
use Rattle.index.proofs.Views.{schema-count, schema-view}
use Rattle.masks.specs.Masks.{member_of, members_of, MembersSound, schema_needed, masked, schema_area, mask_at, Masked}
use Rattle.masks.specs.Join.{Maskable}
use Rattle.masks.proofs.Masks.{masked-length, masked-front, masked_mask}
use Rattle.masks.proofs.Membership.{none_far}
use Rattle.masks.proofs.Reading.{mask_none}

module _ (n : ℕ) (rs : List Row) (room : schema_needed ≤ n) (fits : SchemaFits rs) where
  -- ---- before the masks are laid

  pub linked-length : length (schema_linked n rs) ≡ n
  linked-length = (schema-tabled n rs (omega arith) fits).same

  pub linked-here : SchemaStands (schema_linked n rs) rs
  linked-here = linked_stands n rs (omega arith) fits

  linked-view : schema_at (schema_linked n rs) ≡ schema_of rs
  linked-view = schema-view (schema_linked n rs) rs linked-here fits

  pub linked_maskable : MembersSound (schema_of rs) → Maskable (schema_linked n rs)
  linked_maskable sound =
      let a = schema_linked n rs in
      record {
        long = omega (arith, linked-length);
        types = omega (arith, schema-count a rs linked-here fits type_table, fits.types);
        members = omega (arith, schema-count a rs linked-here fits member_table, fits.members);
        sound = subst MembersSound (sym linked-view) sound;
        blank = λ i h l. (schema-tabled n rs (omega arith) fits).zeros i h (omega arith);
      }

  -- ---- and behind

  pub masks_laid : (a : List ℕ) → a ≡ masked (member_of (schema_at (schema_linked n rs))) (schema_linked n rs) → a ≡ schema_area n rs
  unfolding schema_area
  masks_laid a e = e ∙ ap (λ (s : Schema). masked (member_of s) (schema_linked n rs)) linked-view

  abbrev said : ℕ → ℕ → Bool
  said = member_of (schema_of rs)

  linked_long : schema_needed ≤ length (schema_linked n rs)
  linked_long = omega (arith, linked-length)

  pub area_length : length (schema_area n rs) ≡ n
  unfolding schema_area
  area_length = masked-length said (schema_linked n rs) linked_long ∙ linked-length

  pub area_stands : SchemaStands (schema_area n rs) rs
  unfolding schema_area
  area_stands =
      record {
        long = omega (arith, area_length);
        same = λ i h. masked-front said (schema_linked n rs) linked_long i h ∙ ap (λ (m : ℕ). cell (schema_linked m rs) i) (sym area_length);
      }

  -- The area read as a schema is the schema of the rows.
  pub area_view : schema_at (schema_area n rs) ≡ schema_of rs
  area_view = schema-view (schema_area n rs) rs area_stands fits

  module _ (sound : MembersSound (schema_of rs)) where
    -- the masks of the area are the members by the rows
    pub area_members : (t : TypeNo) → mask_at (schema_area n rs) t.0 ≡ members_of (schema_of rs) t
    unfolding schema_area members_of
    area_members t = go (dec_lt t.0 64)
      where
        go : Dec (t.0 < 64) → mask_at (schema_area n rs) t.0 ≡ members_of (schema_of rs) t
        go (yes h) = masked_mask said (schema_linked n rs) linked_long t.0 h
        go (no h) = sym (mask_none (schema_area n rs) t.0 (omega arith)) ∙ sym (none_far (schema_of rs) sound t (omega arith))

    pub area_masked : Masked (schema_area n rs)
    unfolding Masked
    area_masked =
        record {
          long = omega (arith, area_length);
          sound = subst MembersSound (sym area_view) sound;
          agree = λ t. area_members t ∙ ap (λ (s : Schema). members_of s t) (sym area_view);
        }
