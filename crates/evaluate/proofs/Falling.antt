-- From an entry to its children both the remaining entries and the remaining depth fall; from a selection to an entry of it neither grows.
-- Assumes nothing.
use Prim.Native.Nat.{ℕ, ◌+◌, ◌≤◌, ◌<◌}
use native.Mathlib.Omega.{arith}
use mathlib.Core.Path.{◌≡◌, sym, ap, ◌∙◌}
use mathlib.Core.List.{List}
use Rattle.tables.specs.Read.{cell, wide_at}
use Rattle.query.specs.Entries.{QueryHeld}
use Rattle.evaluate.specs.Remaining.{entries_left, depth_left, remaining}

-- the children of entry k stand behind it
pub entries_fall : (q : List ℕ) (k : ℕ) → k < cell q 0 → entries_left q (k + 1) < entries_left q k
unfolding entries_left
entries_fall q k h = omega (arith, h)

-- and one deeper than it
pub depth_falls : (d : ℕ) → d ≤ 15 → depth_left (d + 1) < depth_left d
unfolding depth_left
depth_falls d h = omega (arith, h)

-- a later entry leaves no more entries
entries-later : (q : List ℕ) {i k : ℕ} → i ≤ k → entries_left q k ≤ entries_left q i
unfolding entries_left
entries-later q h = omega (arith, h)

-- ---- of both together; the code holds e for the depth of entry k

module _ (q : List ℕ) (k : ℕ) {e : ℕ} (is : e ≡ wide_at q 8 k 2) where
  -- from entry k to the selection of its children: two less, one for the entries and one for the depth
  pub children_fall : QueryHeld q → k < cell q 0 → remaining q (k + 1) (e + 1) + 2 ≤ remaining q k (wide_at q 8 k 2)
  unfolding remaining
  children_fall held h =
      let depth : depth_left (wide_at q 8 k 2 + 1) < depth_left (wide_at q 8 k 2) = depth_falls _ (held.depths k h) in
      rw is (omega (arith, entries_fall q k h, depth))

  -- from a selection at depth d, from entry i on, to an entry k of it
  pub selected_keeps : {i d : ℕ} → i ≤ k → e ≡ d → remaining q k (wide_at q 8 k 2) ≤ remaining q i d
  unfolding remaining
  selected_keeps {i} {d} h z =
      let depth : depth_left (wide_at q 8 k 2) ≡ depth_left d = ap depth_left (sym is ∙ z) in
      omega (arith, entries-later q h, depth)
