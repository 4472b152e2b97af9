-- A line of another node does not clash in 25 and 26, so that it may be passed over. Assumes nothing.
use Prim.Native.Nat.{ℕ}
use mathlib.Core.Path.{◌≡◌}
use mathlib.Core.Bool.{false}
use mathlib.Core.List.{List}
use lib.Dec.{eqb}
use lib.ListN.{get_or}
use Rattle.tables.specs.Read.{wide_at, starts_at}
use Rattle.graph.specs.Faults.{diverts_at, twin_edge, twin_property}

module _ (nums : List ℕ) (j : ℕ) where
  pub diverts_other : (g : List ℕ) → eqb (wide_at g 1544 j 2) (get_or nums 0 0) ≡ false → diverts_at g nums j ≡ false
  unfolding diverts_at
  diverts_other g h = rw h

  pub edge_other : (g : List ℕ) → eqb (wide_at g 1544 j 2) (get_or nums 0 0) ≡ false → twin_edge g nums j ≡ false
  unfolding twin_edge starts_at
  edge_other g h = rw h

  pub property_other : (p : List ℕ) → eqb (wide_at p 8 j 2) (get_or nums 0 0) ≡ false → twin_property p nums j ≡ false
  unfolding twin_property starts_at
  property_other p h = rw h
