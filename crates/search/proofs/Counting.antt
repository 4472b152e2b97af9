-- The counts of the lines: one more, and no more than there are bytes. Assumes nothing.
use Prim.Native.Nat.{ℕ, suc, ◌+◌, ◌*◌, ◌≤◌}
use native.Mathlib.Omega.{arith}
use mathlib.Core.Path.{◌≡◌, refl, ap, ◌∙◌}
use mathlib.Core.Bool.{Bool, true, false, cond}
use mathlib.Core.List.{List, [], ◌∷◌, ◌++◌}
use lib.ListN.{length, length-append, length-drop}
use Rattle.rules.specs.Lists.{those, keep_if, one_if, sum_of}
use Rattle.rules.specs.Text.{Row, rows, at, values_of, P}
use Rattle.rules.specs.Schema.{is}
use Rattle.tables.specs.Layout.{belongs, counted, valued}
use Rattle.tables.specs.Fill.{lettered, values_in}
use Rattle.tables.proofs.Cells.{counted-append}
use Rattle.search.specs.Count.{counts_of, counts_with, Within}
use Rattle.search.proofs.Sizes.{rows_numbers, rows-length}

-- ---- one more

-- one row more of a table, where it belongs there
counted-more : (k : ℕ) (ps : List Row) (r : Row) → counted k (ps ++ (r ∷ [])) ≡ counted k ps + one_if (belongs k (lettered r.letter))
unfolding counted belongs lettered
counted-more k ps r = counted-append k ps (r ∷ []) ∙ ap (λ (n : ℕ). counted k ps + n) (go (belongs k r))
  where
    go : (b : Bool) → length (keep_if b r []) ≡ one_if b
    go true = refl
    go false = refl

sum_append : (g : Row → ℕ) (ps rs : List Row) → sum_of g (ps ++ rs) ≡ sum_of g ps + sum_of g rs
sum_append g [] rs = omega arith
sum_append g (p ∷ ps) rs = omega (arith, sum_append g ps rs)

values-more : (ps : List Row) (r : Row) → sum_of valued (ps ++ (r ∷ [])) ≡ sum_of valued ps + valued r
values-more ps r = omega (arith, sum_append valued ps (r ∷ []))

pub counts_more : (ps : List Row) (r : Row) → counts_of (ps ++ (r ∷ [])) ≡ counts_with (counts_of ps) r.letter (valued r)
unfolding counts_of counts_with
counts_more ps r =
    λ i. record {
      types = counted-more 1 ps r i;
      fields = counted-more 2 ps r i;
      args = counted-more 3 ps r i;
      has = counted-more 4 ps r i;
      takes = counted-more 5 ps r i;
      members = counted-more 6 ps r i;
      nodes = counted-more 7 ps r i;
      edges = counted-more 8 ps r i;
      properties = counted-more 9 ps r i;
      values = values-more ps r i;
      lines = length-append ps (r ∷ []) i;
    }

-- the values of a row from what is read of it
pub valued_read : (r : Row) → valued r ≡ values_in r.letter (length r.numbers) (at r 3)
unfolding valued values_in
valued_read r = ap (λ (n : ℕ). cond (is P r) n 0) (length-drop (4 + 2 * at r 3) r.numbers)

-- ---- no more than there are bytes

those-length : (p : Row → Bool) (rs : List Row) → length (those p rs) ≤ length rs
those-length p [] = omega arith
those-length p (r ∷ rs) = go (those-length p rs) (p r)
  where
    go : length (those p rs) ≤ length rs → (b : Bool) → length (keep_if b r (those p rs)) ≤ suc (length rs)
    go ih true = omega arith
    go ih false = omega arith

valued_numbers : (r : Row) → valued r ≤ length r.numbers
unfolding valued
valued_numbers r = go (is P r)
  where
    go : (b : Bool) → cond b (length (values_of r)) 0 ≤ length r.numbers
    go true = omega (arith, length-drop (4 + 2 * at r 3) r.numbers)
    go false = omega arith

values_numbers : (rs : List Row) → sum_of valued rs ≤ sum_of (λ r. length r.numbers) rs
values_numbers [] = omega arith
values_numbers (r ∷ rs) = omega (arith, valued_numbers r, values_numbers rs)

pub counts_within : (s : List ℕ) (ps rs : List Row) → rows s ≡ ps ++ rs → Within (length s) (counts_of ps)
unfolding counts_of counted
counts_within s ps rs e =
    let most : length ps ≤ length s = omega (arith, rows-length s, ap length e, length-append ps rs) in
    let few : (k : ℕ) → length (those (belongs k) ps) ≤ length s = λ k. omega (arith, those-length (belongs k) ps) in
    let all : sum_of valued ps ≤ length s =
    omega (arith, sum_append valued ps rs, ap (sum_of valued) e, values_numbers (rows s), rows_numbers s) in
    record {
      types = few 1;
      fields = few 2;
      args = few 3;
      has = few 4;
      takes = few 5;
      members = few 6;
      nodes = few 7;
      edges = few 8;
      properties = few 9;
      values = all;
      lines = most;
    }
