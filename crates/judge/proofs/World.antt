-- The World read from the tables is the World of the texts: after an accepted verdict nothing of bytes is needed. And the masks that are
-- left agree with the rule. Assumes nothing.
use Prim.Native.Nat.{ℕ, ◌≤◌}
use mathlib.Core.Path.{◌≡◌, refl, ap, ◌∙◌}
use mathlib.Core.Bool.{Bool, true, false, ◌&&◌}
use mathlib.Core.Logic.{◌⊎◌}
use mathlib.Core.List.{List}
use Rattle.std.specs.Prelude.{None}
use native.Mathlib.Omega.{arith}
use lib.ListN.{length, take}
use Rattle.rules.specs.Text.{rows, type_no}
use Rattle.rules.specs.Search.{whole}
use Rattle.rules.specs.Schema.{Schema, kind, is_object, compatible}
use Rattle.rules.specs.Graph.{Graph}
use Rattle.rules.specs.World.{world}
use Rattle.rules.specs.Answer.{Texts, schema_in, graph_in, world_of}
use Rattle.rules.proofs.Bools.{some-none}
use Rattle.tables.specs.Layout.{node_area, property_area}
use Rattle.tables.specs.Fill.{SchemaFits}
use Rattle.tables.specs.Read.{schema_at, graph_at}
use Rattle.bits.specs.Bits.{bit}
use Rattle.masks.specs.Masks.{members_of, mask_at, MembersSound}
use Rattle.masks.proofs.Membership.{bit_member, bit-undeclared, bit_far}
use Rattle.masks.proofs.Agreeing.{area_view, area_members}
use Rattle.tables.proofs.Graphs.{graph-view, graph-formed}
use Rattle.checks.specs.Verdict.{Verdict, accepted, text_checks}
use Rattle.checks.proofs.Fitting.{schema-fits, members_sound, graph-fits}
use Rattle.judge.specs.Texts.{Lent, too_short_of, Judged}
use Rattle.judge.proofs.Texts.{Long, long-areas, accepted-passes}

not_offended : (b : Bool) → whole b ≡ None → b ≡ false
not_offended true h = absurd (some-none h)
not_offended false h = refl

module _ (x : Texts) (before after : Lent) (v : Verdict) (j : Judged x before after v) (z : v ≡ accepted) where
  long : Long before
  unfolding text_checks
  long = long-areas before (not_offended (too_short_of before) (accepted-passes x before after v j z).0)

  fits : SchemaFits (rows x.schema)
  unfolding text_checks
  fits = schema-fits (rows x.schema) (accepted-passes x before after v j z).1.1.0

  sound : MembersSound (schema_in x)
  unfolding text_checks
  sound = members_sound (rows x.schema) fits (accepted-passes x before after v j z).1.1.1.0

  pub schema-read : schema_at after.schema ≡ schema_in x
  schema-read = ap schema_at (j.held z).schema ∙ area_view (length before.schema) (rows x.schema) long.schema fits

  -- ---- "Every bit is proved to agree with the old rule, bits of undeclared numbers being zero", whatever two numbers t and o are

  -- The mask of type t in the area that is left is the members of t by the schema's text.
  pub mask_read : (t : ℕ) → mask_at after.schema t ≡ members_of (schema_in x) (type_no t)
  mask_read t =
      ap (λ (a : List ℕ). mask_at a t) (j.held z).schema
      ∙ area_members (length before.schema) (rows x.schema) long.schema fits sound (type_no t)

  abbrev bit_of : ℕ → ℕ → Bool
  bit_of t o = bit (mask_at after.schema t) o

  bit-read : (t o : ℕ) → bit_of t o ≡ bit (members_of (schema_in x) (type_no t)) o
  bit-read t o = ap (λ (m : ℕ). bit m o) (mask_read t)

  -- Bit o of the mask of type t is set exactly where o is an object type that is compatible with t.
  pub mask_agrees : (t o : ℕ) → bit_of t o ≡ (is_object (schema_in x) (type_no o) && compatible (schema_in x) (type_no o) (type_no t))
  mask_agrees t o = bit-read t o ∙ bit_member (schema_in x) sound (type_no t) o

  -- It is zero where one of the two is not declared.
  pub mask_undeclared : (t o : ℕ) → (kind (schema_in x) (type_no t) ≡ 0) ⊎ (kind (schema_in x) (type_no o) ≡ 0) → bit_of t o ≡ false
  mask_undeclared t o u = bit-read t o ∙ bit-undeclared (schema_in x) sound (type_no t) o u

  -- A number of 64 or more has no bit.
  pub mask_far : (t o : ℕ) → (64 ≤ t) ⊎ (64 ≤ o) → bit_of t o ≡ false
  mask_far t o h = bit-read t o ∙ bit_far (schema_in x) sound (type_no t) o h

  pub graph-read : graph_at after.nodes after.properties (take 8200 after.values) ≡ graph_in x
  unfolding text_checks
  graph-read =
      let passes = (accepted-passes x before after v j z).1.1.1.1.1.1.1.1 in
      let rs = rows x.graph in
      let ns = node_area (length before.nodes) rs in
      let ps = property_area (length before.properties) rs in
      ap (λ (l : List ℕ). graph_at l after.properties (take 8200 after.values)) (j.held z).nodes
      ∙ ap (λ (l : List ℕ). graph_at ns l (take 8200 after.values)) (j.held z).properties
      ∙ ap (λ (l : List ℕ). graph_at ns ps l) (j.held z).values
      ∙ graph-view (length before.nodes) (length before.properties) 8200 (rows x.graph) long.nodes long.properties (omega arith)
      (graph-fits (rows x.graph) passes.1.0) (graph-formed x.graph passes.0)

  pub world-read : world (schema_at after.schema) (graph_at after.nodes after.properties (take 8200 after.values)) ≡ world_of x
  world-read =
      ap (λ (s : Schema). world s (graph_at after.nodes after.properties (take 8200 after.values))) schema-read
      ∙ ap (λ (g : Graph). world (schema_in x) g) graph-read
