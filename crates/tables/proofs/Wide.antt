-- What is read from a wide table that stands in an area, row by row. Assumes nothing.
use Prim.Native.Nat.{ℕ, zero, suc, ◌+◌, ◌*◌, ◌≤◌, ◌<◌}
use native.Mathlib.Omega.{arith}
use mathlib.Core.Path.{◌≡◌, refl, sym, ap, ◌∙◌}
use mathlib.Core.Bool.{Bool, true, false, cond}
use mathlib.Core.List.{List, [], ◌∷◌}
use lib.Dec.{eqb, leb}
use lib.ListN.{length, get_or, take, drop, length-drop}
use lib.Seq.{get_or-take, get_or-drop, take_all, drop-nil}
use Rattle.rules.specs.Text.{Row, at, Pair, arg_no, field_no, pairs}
use Rattle.rules.specs.Schema.{nth}
use Rattle.rules.specs.Graph.{label_of}
use Rattle.text.specs.Line.{padded}
use Rattle.tables.specs.Layout.{wide, belongs, cells, table, counted}
use Rattle.tables.specs.Read.{cell, wide_at, numbers_at, named_at, label_at}
use Rattle.text.proofs.Rows.{padded-length}
pub use Rattle.text.proofs.Rows.{padded-at}
use Rattle.tables.proofs.Cells.{wide-width, table-length, table_part, values_before}

-- ---- the first numbers of a row, zeros after them

-- pairs that are all there are the same among the first numbers
pub padded-pairs : (m k : ℕ) (ns : List ℕ) → 2 * m ≤ k → 2 * m ≤ length ns → pairs m (padded k ns) ≡ pairs m ns
unfolding padded
padded-pairs zero k ns h l = refl
padded-pairs (suc m) zero ns h l = absurd (omega arith)
padded-pairs (suc m) (suc zero) ns h l = absurd (omega arith)
padded-pairs (suc m) (suc (suc k)) [] h l = absurd (omega arith)
padded-pairs (suc m) (suc (suc k)) (a ∷ []) h l = absurd (omega arith)
padded-pairs (suc m) (suc (suc k)) (a ∷ v ∷ ns) h l =
    ap (λ (ps : List Pair). record { arg = arg_no a; value = v } ∷ ps) (padded-pairs m k ns (omega arith) (omega arith))

-- a part of the first numbers
pub padded-drop : (j k : ℕ) (ns : List ℕ) → drop j (padded (j + k) ns) ≡ padded k (drop j ns)
unfolding padded
padded-drop zero k ns =
    let e : 0 + k ≡ k = omega arith in
    ap (λ (n : ℕ). padded n ns) e
padded-drop (suc j) k [] =
    let e : suc j + k ≡ suc (j + k) = omega arith in
    rw e (padded-drop j k [] ∙ ap (padded k) (drop-nil j))
padded-drop (suc j) k (n ∷ ns) =
    let e : suc j + k ≡ suc (j + k) = omega arith in
    rw e (padded-drop j k ns)

-- ---- wide rows

-- the tag of a row of a table, where `start` values stand before it
abbrev pub tag_of : ℕ → ℕ → Row → ℕ
tag_of k start r = cond (eqb k 9) start r.letter

wide-cells : (k start : ℕ) (r : Row) → leb k 7 ≡ false → cells k start r ≡ wide (tag_of k start r) r
unfolding cells
wide-cells k start r h = rw h (go (eqb k 9))
  where
    go : (b : Bool) → cond b (wide start r) (wide r.letter r) ≡ wide (cond b start r.letter) r
    go true = refl
    go false = refl

pub wide-table_length : (k : ℕ) (rs : List Row) → leb k 7 ≡ false → length (table k 0 rs) ≡ 14 * counted k rs
wide-table_length k rs h = table-length k 0 rs ∙ ap (λ (w : ℕ). w * counted k rs) (wide-width k h)

-- one number is a part of length 1
first_of : (l : List ℕ) (i : ℕ) → get_or l i 0 ≡ get_or (take 1 (drop i l)) 0 0
first_of l i =
    ap (λ (n : ℕ). get_or l n 0) (omega arith) ∙ sym (get_or-drop i l 0 0) ∙ sym (get_or-take 1 (drop i l) 0 0 (omega arith))

-- ---- a wide table in an area

-- Table k, which is wide, stands in the area a from `base` on, with the rows rs.
pub record StandsWide (a : List ℕ) (k base : ℕ) (rs : List Row) : Type 0 where
  pub large : leb k 7 ≡ false
  pub same : (i n : ℕ) → i + n ≤ 14 * counted k rs → take n (drop (base + i) a) ≡ take n (drop i (table k 0 rs))

module _ (a : List ℕ) (k base : ℕ) (rs : List Row) (s : StandsWide a k base rs) (j : ℕ) (h : j < counted k rs) where
  row : Row
  row = nth (belongs k) rs j

  tag : ℕ
  tag = tag_of k (0 + values_before k rs j) row

  -- n cells of row j, from cell i on
  row_part : (i n : ℕ) → i + n ≤ 14 → take n (drop (base + 14 * j + i) a) ≡ take n (drop i (wide tag row))
  unfolding row tag
  row_part i n b =
      let w = wide-width k s.large in
      let e : base + 14 * j + i ≡ base + (14 * j + i) = omega arith in
      ap (λ (m : ℕ). take n (drop m a)) e
      ∙ s.same (14 * j + i) n (omega arith)
      ∙ ap (λ (m : ℕ). take n (drop (m * j + i) (table k 0 rs))) (sym w)
      ∙ table_part k 0 rs j h i n (omega arith)
      ∙ ap (λ (c : List ℕ). take n (drop i c)) (wide-cells k (0 + values_before k rs j) (nth (belongs k) rs j) s.large)

  row-wide : (i : ℕ) → i < 14 → wide_at a base j i ≡ get_or (wide tag row) i 0
  unfolding wide_at cell
  row-wide i b =
      first_of a (base + 14 * j + i) ∙ ap (λ (l : List ℕ). get_or l 0 0) (row_part i 1 (omega arith)) ∙ sym (first_of (wide tag row) i)

  -- the tag, the count of the numbers, and the first twelve numbers
  pub wide_tag : wide_at a base j 0 ≡ tag_of k (0 + values_before k rs j) (nth (belongs k) rs j)
  unfolding wide row tag
  wide_tag = row-wide 0 (omega arith)

  pub wide-count : wide_at a base j 1 ≡ length (nth (belongs k) rs j).numbers
  unfolding wide row
  wide-count = row-wide 1 (omega arith)

  pub wide-number : (i : ℕ) → i < 12 → wide_at a base j (suc (suc i)) ≡ at (nth (belongs k) rs j) i
  unfolding wide row
  wide-number i b = row-wide (suc (suc i)) (omega arith) ∙ padded-at 12 row.numbers i b

  pub wide_numbers : numbers_at a base j ≡ padded 12 (nth (belongs k) rs j).numbers
  unfolding numbers_at wide row
  wide_numbers = row_part 2 12 (omega arith) ∙ take_all 12 (padded 12 row.numbers) (omega (arith, padded-length 12 row.numbers))

  -- the label, where all pairs are there
  pub wide-label : at (nth (belongs k) rs j) 3 ≤ 4 → 4 + 2 * at (nth (belongs k) rs j) 3 ≤ length (nth (belongs k) rs j).numbers
      → label_at a base j ≡ label_of (nth (belongs k) rs j)
  unfolding label_at named_at row
  wide-label few long = λ i. record { field = field_no (wide-number 1 (omega arith) i); args = same_args i }
    where
      ns : List ℕ
      ns = (nth (belongs k) rs j).numbers

      room : 2 * at row 3 ≤ length (drop 4 ns)
      room = simp length-drop (omega arith)

      same_args : pairs (wide_at a base j 5) (drop 4 (numbers_at a base j)) ≡ pairs (at row 3) (drop 4 ns)
      same_args =
          ap (λ (m : ℕ). pairs m (drop 4 (numbers_at a base j))) (wide-number 3 (omega arith))
          ∙ ap (λ (l : List ℕ). pairs (at row 3) (drop 4 l)) wide_numbers
          ∙ ap (pairs (at row 3)) (padded-drop 4 8 ns)
          ∙ padded-pairs (at row 3) 8 (drop 4 ns) (omega arith) room
