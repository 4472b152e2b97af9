-- Writing a property's values one after another, and what a lookup shows. Assumes nothing.
use Rattle.std.specs.Prelude.{Option, None, Some}
use Prim.Native.Nat.{ℕ, ◌+◌, ◌<◌}
use native.Mathlib.Numerals.{add-one}
use mathlib.Core.Path.{◌≡◌, refl, ap, ◌∙◌}
use mathlib.Core.Bool.{true, false, cond}
use mathlib.Core.List.{List, [], ◌∷◌}
use lib.Dec.{eqb}
use lib.ListN.{length, get_or, drop}
use lib.Seq.{drop-cons}
use Rattle.rules.specs.Graph.{Label, one, many}
use Rattle.rules.specs.Eval.{value, null, open_list, close_list}
use Rattle.tables.specs.Read.{wide_at, values_at}
use Rattle.world.specs.World.{lookup_at, found_by}
use Rattle.evaluate.proofs.Write.{Then, Between}

-- ---- values, one after another: n is how many there are

module _ (values : List ℕ) (n : ℕ) (all : n ≡ length values) where
  -- behind i values: value i, then those behind it
  pub values-next : (i x : ℕ) → i < n → x ≡ get_or values i 0 → Then (drop i values) (x ∷ []) (drop (i + 1) values)
  values-next i x h e = record { eq = drop-cons values i 0 (rw all at h) ∙ rw (e, add-one i) refl }

-- ---- what a lookup shows

module _ (p v : List ℕ) (u : ℕ) (l : Label) where
  -- no property: null
  pub shows-null : lookup_at p u l ≡ None → value (found_by p v (lookup_at p u l)) ≡ null ∷ []
  unfolding found_by
  shows-null e = ap (λ (r : Option ℕ). value (found_by p v r)) e

  module _ (j : ℕ) (row : lookup_at p u l ≡ Some j) where
    -- what row j says
    found-row : found_by p v (lookup_at p u l)
        ≡ cond (eqb (wide_at p 8 j 4) 1) (many (values_at p v j)) (one (get_or (values_at p v j) 0 0))
    unfolding found_by
    found-row = ap (found_by p v) row

    -- one value
    pub shows-value : eqb (wide_at p 8 j 4) 1 ≡ false → (x : ℕ) → x ≡ get_or (values_at p v j) 0 0
        → value (found_by p v (lookup_at p u l)) ≡ x ∷ []
    shows-value s x e = ap value found-row ∙ rw (s, e) refl

    -- a sequence
    pub shows_sequence : eqb (wide_at p 8 j 4) 1 ≡ true
        → Between (value (found_by p v (lookup_at p u l))) open_list (values_at p v j) close_list
    shows_sequence s = record { eq = ap value found-row ∙ rw s refl }
