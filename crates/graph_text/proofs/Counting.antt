-- The nodes of a type, counted one by one. Assumes nothing.
use Prim.Native.Nat.{ℕ, suc, ◌+◌, ◌-◌, ◌≤◌, ◌<◌}
use native.Mathlib.Omega.{arith}
use native.Mathlib.Numerals.{add-one}
use mathlib.Core.Path.{◌≡◌, sym, ap, ◌∙◌}
use mathlib.Core.Bool.{Bool, true, false}
use mathlib.Core.List.{List, ◌∷◌}
use lib.Dec.{eqb}
use lib.ListN.{length}
use Rattle.rules.specs.Lists.{those, keep_if, count_up}
use Rattle.rules.specs.Graph.{nodes_of}
use Rattle.rules.specs.declared.TypeNo.{TypeNo}
use Rattle.tables.specs.Read.{cell}
use Rattle.graph.specs.Faults.{nodes_at}

-- whether node u is of type t
unfoldable pub of_type : List ℕ → TypeNo → ℕ → Bool
of_type g t u = eqb ((nodes_at g).type_of u).0 t.0

-- The nodes of type t are the `found` before u and those from u on.
unfoldable pub Passed : List ℕ → TypeNo → ℕ → ℕ → Type 0
Passed g t found u =
    length (those (of_type g t) (count_up 0 (cell g 0))) ≡ found + length (those (of_type g t) (count_up u (cell g 0 - u)))

from-here : (u n : ℕ) → u < n → count_up u (n - u) ≡ u ∷ count_up (suc u) (n - suc u)
from-here u n h = let e : n - u ≡ suc (n - suc u) = omega arith in ap (count_up u) e

module _ (g : List ℕ) (t : TypeNo) where
  pub passed_none : Passed g t 0 0
  unfolding Passed
  passed_none =
      let e : cell g 0 ≡ cell g 0 - 0 = omega arith in
      omega (arith, ap (λ (i : ℕ). length (those (of_type g t) (count_up 0 i))) e)

  module _ (found u : ℕ) (k : TypeNo) (past : Passed g t found u) where
    module _ (h : u < cell g 0) (e : k ≡ (nodes_at g).type_of u) where
      abbrev rest : List ℕ
      rest = those (of_type g t) (count_up (suc u) (cell g 0 - suc u))

      one_more : (b : Bool) → of_type g t u ≡ b
          → length (those (of_type g t) (count_up 0 (cell g 0))) ≡ found + length (keep_if b u rest)
      unfolding Passed
      one_more b q =
          past
          ∙ ap (λ (l : List ℕ). found + length (those (of_type g t) l)) (from-here u (cell g 0) h)
          ∙ ap (λ (x : Bool). found + length (keep_if x u rest)) q

      pub passed_hit : eqb k.0 t.0 ≡ true → Passed g t (found + 1) (u + 1)
      unfolding Passed of_type
      passed_hit q =
          let s : of_type g t u ≡ true = ap (λ (x : TypeNo). eqb x.0 t.0) (sym e) ∙ q in
          rw (add-one u) (omega (arith, one_more true s))

      pub passed_miss : eqb k.0 t.0 ≡ false → Passed g t found (u + 1)
      unfolding Passed of_type
      passed_miss q =
          let s : of_type g t u ≡ false = ap (λ (x : TypeNo). eqb x.0 t.0) (sym e) ∙ q in
          rw (add-one u) (one_more false s)

  pub passed-all : (found u : ℕ) → Passed g t found u → cell g 0 ≤ u → found ≡ length (nodes_of (nodes_at g) t)
  unfolding Passed of_type nodes_at
  passed-all found u past h =
      let z : cell g 0 - u ≡ 0 = omega arith in
      let l : length (those (of_type g t) (count_up u (cell g 0 - u))) ≡ 0 = ap (λ (i : ℕ). length (those (of_type g t) (count_up u i))) z in
      omega (arith, past)
