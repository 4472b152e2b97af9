-- What is read from a narrow table that stands in an area, row by row. Assumes nothing.
use Prim.Native.Nat.{ℕ, zero, suc, ◌+◌, ◌*◌, ◌≤◌, ◌<◌}
use native.Mathlib.Omega.{arith}
use mathlib.Core.Path.{◌≡◌, refl, sym, ap, ap₂, ◌∙◌}
use mathlib.Core.Bool.{Bool, true, false, cond, ◌&&◌}
use mathlib.Core.List.{List, ◌++◌, map}
use lib.Dec.{eqb, ltb, leb}
use lib.ListN.{length, get_or, get_or-eq_default}
use borrow.Author.Tests.{ltb-true, ltb-false}
use Rattle.rules.specs.Lists.{those, any}
use Rattle.rules.specs.Text.{Row, no_row, at}
use Rattle.rules.specs.Schema.{nth}
use Rattle.tables.specs.Layout.{narrow, belongs, cells, table, counted}
use Rattle.tables.specs.Read.{cell, narrow_at, pair_at, first_at, pair_in, first_in, seconds_in}
use Rattle.tables.proofs.Those.{those-front, any-passing, kept-passing}
use Rattle.tables.proofs.Cells.{narrow-width, table-length, table-cell, counted-append, values_before}

-- ---- narrow rows

pub narrow-cells : (k start : ℕ) (r : Row) → leb k 7 ≡ true → cells k start r ≡ narrow r
unfolding cells
narrow-cells k start r h = rw h

pub narrow-length : (k : ℕ) (rs : List Row) → leb k 7 ≡ true → length (table k 0 rs) ≡ 3 * counted k rs
narrow-length k rs h = table-length k 0 rs ∙ ap (λ (w : ℕ). w * counted k rs) (narrow-width k h)

-- cell i of row j of a narrow table
pub narrow-cell : (k : ℕ) (rs : List Row) → leb k 7 ≡ true → (j i : ℕ) → j < counted k rs → i < 3
    → get_or (table k 0 rs) (3 * j + i) 0 ≡ get_or (narrow (nth (belongs k) rs j)) i 0
narrow-cell k rs h j i l b =
    let w = narrow-width k h in
    ap (λ (n : ℕ). get_or (table k 0 rs) (n * j + i) 0) (sym w)
    ∙ table-cell k 0 rs j l i (omega arith)
    ∙ ap (λ (c : List ℕ). get_or c i 0) (narrow-cells k (0 + values_before k rs j) (nth (belongs k) rs j) h)

-- a row that is not there has only zeros
nothing-there : (i : ℕ) → get_or (narrow no_row) i 0 ≡ 0
unfolding narrow
nothing-there zero = refl
nothing-there (suc zero) = refl
nothing-there (suc (suc zero)) = refl
nothing-there (suc (suc (suc i))) = refl

-- ---- a narrow table in an area

-- Table k, which is narrow, stands in the area a from `base` on, with the rows rs.
pub record Stands (a : List ℕ) (k base : ℕ) (rs : List Row) : Type 0 where
  pub small : leb k 7 ≡ true
  pub same : (i : ℕ) → i < 3 * counted k rs → cell a (base + i) ≡ get_or (table k 0 rs) i 0

module _ (a : List ℕ) (k base : ℕ) where
  -- cell i of row j
  pub row-cell : (rs : List Row) → Stands a k base rs → (j i : ℕ) → j < counted k rs → i < 3
      → cell a (base + 3 * j + i) ≡ get_or (narrow (nth (belongs k) rs j)) i 0
  row-cell rs s j i h b =
      ap (cell a) (omega arith) ∙ s.same (3 * j + i) (omega arith) ∙ narrow-cell k rs s.small j i h b

  -- the same where the count is read too: behind the last row all is 0
  pub narrow_at_lem : (rs : List Row) → Stands a k base rs → (head j i : ℕ) → cell a head ≡ counted k rs → i < 3
      → narrow_at a head base j i ≡ get_or (narrow (nth (belongs k) rs j)) i 0
  unfolding narrow_at counted
  narrow_at_lem rs s head j i e b = go (ltb j (cell a head)) refl
    where
      go : (t : Bool) → ltb j (cell a head) ≡ t → cond t (cell a (base + 3 * j + i)) 0 ≡ get_or (narrow (nth (belongs k) rs j)) i 0
      go true t = row-cell rs s j i (omega (arith, ltb-true j (cell a head) t)) b
      go false t =
          let far : length (those (belongs k) rs) ≤ j = omega (arith, ltb-false j (cell a head) t, e) in
          sym (ap (λ (r : Row). get_or (narrow r) i 0) (get_or-eq_default (those (belongs k) rs) no_row far) ∙ nothing-there i)

  -- ---- the rows of the first lines, where more lines follow

  module _ (ps rs : List Row) (s : Stands a k base (ps ++ rs)) where
    pub front-cell : (j i : ℕ) → j < counted k ps → i < 3 → cell a (base + 3 * j + i) ≡ get_or (narrow (nth (belongs k) ps j)) i 0
    unfolding counted
    front-cell j i h b =
        row-cell (ps ++ rs) s j i (omega (arith, counted-append k ps rs)) b
        ∙ ap (λ (r : Row). get_or (narrow r) i 0) (those-front (belongs k) ps rs no_row j h)

    front-first : (x j : ℕ) → j < counted k ps → first_at a base x j ≡ eqb (at (nth (belongs k) ps j) 0) x
    unfolding first_at narrow
    front-first x j h = ap (λ (n : ℕ). eqb n x) (front-cell j 1 h (omega arith))

    front-pair : (x y j : ℕ) → j < counted k ps → pair_at a base x y j ≡ (eqb (at (nth (belongs k) ps j) 0) x && eqb (at (nth (belongs k) ps j) 1) y)
    unfolding pair_at narrow
    front-pair x y j h =
        ap₂ (λ (m n : ℕ). eqb m x && eqb n y) (front-cell j 1 h (omega arith)) (front-cell j 2 h (omega arith))

    pub pairs_in : (x y : ℕ) → pair_in a base (counted k ps) x y ≡ any (λ r. belongs k r && (eqb (at r 0) x && eqb (at r 1) y)) ps
    unfolding pair_in counted
    pairs_in x y =
        any-passing no_row (belongs k) ps (pair_at a base x y) (λ r. eqb (at r 0) x && eqb (at r 1) y) (front-pair x y)

    pub firsts_in : (x : ℕ) → first_in a base (counted k ps) x ≡ any (λ r. belongs k r && eqb (at r 0) x) ps
    unfolding first_in counted
    firsts_in x = any-passing no_row (belongs k) ps (first_at a base x) (λ r. eqb (at r 0) x) (front-first x)

    pub seconds_in_lem : (x : ℕ) → seconds_in a base (counted k ps) x ≡ map (λ r. at r 1) (those (λ r. belongs k r && eqb (at r 0) x) ps)
    unfolding seconds_in counted narrow
    seconds_in_lem x =
        kept-passing no_row (belongs k) ps (first_at a base x) (λ r. eqb (at r 0) x) (front-first x)
        (λ j. cell a (base + 3 * j + 2)) (λ r. at r 1) (λ j h. front-cell j 2 h (omega arith))
