-- Laws of `table`: its length, its rows one after another, and the cells of a row by its number. Assumes nothing.
use Prim.Native.Nat.{ℕ, zero, suc, ◌+◌, ◌*◌, ◌≤◌, ◌<◌}
use native.Mathlib.Nat.{mul-zero, mul-suc}
use native.Mathlib.Omega.{arith}
use mathlib.Core.Path.{◌≡◌, refl, sym, ap, ◌∙◌}
use mathlib.Core.Bool.{Bool, true, false, cond}
use mathlib.Core.List.{List, [], ◌∷◌, ◌++◌, append_assoc}
use lib.Dec.{eqb, leb}
use lib.ListN.{length, get_or, take, drop, length-append, length-drop, get_or-append}
use lib.Seq.{drop-append-le, drop-append-add, take-append-le, get_or-drop}
use Rattle.rules.specs.Lists.{those, keep_if, each, sum_of}
use Rattle.rules.specs.Text.{Row, no_row}
use Rattle.rules.specs.Schema.{nth}
use Rattle.rules.proofs.Clean.{Each}
use Rattle.text.proofs.Rows.{padded-length}
use Rattle.tables.specs.Layout.{narrow, wide, belongs, cells, width, valued, table, counted}
use Rattle.tables.proofs.Those.{those-append}

-- ---- lists of one length, one after another

-- from place i of list j on
module _ (w : ℕ) where
  abbrev pub Alike : List (List ℕ) → Type 0
  Alike xss = Each (λ (xs : List ℕ). length xs ≡ w) xss

  pub joined-drop : (xss : List (List ℕ)) → Alike xss → (j i : ℕ) → j < length xss → i ≤ w
      → drop (w * j + i) (each (λ (xs : List ℕ). xs) xss) ≡ drop i (get_or xss j []) ++ each (λ (xs : List ℕ). xs) (drop (suc j) xss)
  joined-drop [] a j i h k = absurd (omega arith)
  joined-drop (xs ∷ xss) a zero i h k =
      let rest = each (λ (ys : List ℕ). ys) xss in
      let e : w * 0 + i ≡ i = omega (arith, mul-zero w) in
      ap (λ (n : ℕ). drop n (xs ++ rest)) e ∙ drop-append-le i xs rest (omega (arith, a.0))
  joined-drop (xs ∷ xss) a (suc j) i h k =
      let rest = each (λ (ys : List ℕ). ys) xss in
      let e : w * suc j + i ≡ length xs + (w * j + i) = omega (arith, mul-suc w j, a.0) in
      ap (λ (n : ℕ). drop n (xs ++ rest)) e ∙ drop-append-add xs rest (w * j + i) ∙ joined-drop xss a.1 j i (omega arith) k

  pub joined_length : (xss : List (List ℕ)) → Alike xss → length (each (λ (xs : List ℕ). xs) xss) ≡ w * length xss
  joined_length [] a = sym (mul-zero w)
  joined_length (xs ∷ xss) a =
      let rest = each (λ (ys : List ℕ). ys) xss in
      omega (arith, length-append xs rest, joined_length xss a.1, mul-suc w (length xss), a.0)

  alike_length : (xss : List (List ℕ)) → Alike xss → (j : ℕ) → j < length xss → length (get_or xss j []) ≡ w
  alike_length [] a j h = absurd (omega arith)
  alike_length (xs ∷ xss) a zero h = a.0
  alike_length (xs ∷ xss) a (suc j) h = alike_length xss a.1 j (omega arith)

  -- a part of list j
  pub joined_part : (xss : List (List ℕ)) → Alike xss → (j i n : ℕ) → j < length xss → i + n ≤ w
      → take n (drop (w * j + i) (each (λ (xs : List ℕ). xs) xss)) ≡ take n (drop i (get_or xss j []))
  joined_part xss a j i n h k =
      let b : n ≤ length (drop i (get_or xss j [])) = simp length-drop (omega (arith, alike_length xss a j h)) in
      ap (take n) (joined-drop xss a j i h (omega arith))
      ∙ take-append-le n (drop i (get_or xss j [])) (each (λ (xs : List ℕ). xs) (drop (suc j) xss)) b

  -- place i of list j
  pub joined-cell : (xss : List (List ℕ)) → Alike xss → (j i : ℕ) → j < length xss → i < w
      → get_or (each (λ (xs : List ℕ). xs) xss) (w * j + i) 0 ≡ get_or (get_or xss j []) i 0
  joined-cell xss a j i h k =
      let all = each (λ (xs : List ℕ). xs) xss in
      let one = get_or xss j [] in
      let b : 0 < length (drop i one) = simp length-drop (omega (arith, alike_length xss a j h)) in
      ap (λ (n : ℕ). get_or all n 0) (omega arith)
      ∙ sym (get_or-drop (w * j + i) all 0 0)
      ∙ ap (λ (l : List ℕ). get_or l 0 0) (joined-drop xss a j i h (omega arith))
      ∙ get_or-append (drop i one) (each (λ (xs : List ℕ). xs) (drop (suc j) xss)) 0 0 b
      ∙ get_or-drop i one 0 0
      ∙ ap (λ (n : ℕ). get_or one n 0) (omega arith)

-- ---- the cells of a row

pub wide-length : (tag : ℕ) (r : Row) → length (wide tag r) ≡ 14
unfolding wide
wide-length tag r = omega (arith, padded-length 12 r.numbers)

pub narrow-width : (k : ℕ) → leb k 7 ≡ true → width k ≡ 3
unfolding width
narrow-width k h = rw h

pub wide-width : (k : ℕ) → leb k 7 ≡ false → width k ≡ 14
unfolding width
wide-width k h = rw h

pub cells-length : (k start : ℕ) (r : Row) → length (cells k start r) ≡ width k
unfolding cells width narrow
cells-length k start r = go (leb k 7) (eqb k 9)
  where
    go : (b c : Bool) → length (cond b (narrow r) (cond c (wide start r) (wide r.letter r))) ≡ cond b 3 14
    go true c = refl
    go false true = wide-length start r
    go false false = wide-length r.letter r

-- ---- the rows of a table, each as its cells

-- the cells of the rows of a table, where `start` values stand before the rows
pub row_cells : ℕ → ℕ → List Row → List (List ℕ)
row_cells k start [] = []
row_cells k start (r ∷ rs) = cond (belongs k r) (cells k start r ∷ row_cells k (start + valued r) rs) (row_cells k (start + valued r) rs)

table-rows : (k start : ℕ) (rs : List Row) → table k start rs ≡ each (λ (xs : List ℕ). xs) (row_cells k start rs)
unfolding table row_cells
table-rows k start [] = refl
table-rows k start (r ∷ rs) = go (table-rows k (start + valued r) rs) (belongs k r)
  where
    go : table k (start + valued r) rs ≡ each (λ (xs : List ℕ). xs) (row_cells k (start + valued r) rs) → (b : Bool)
        → cond b (cells k start r ++ table k (start + valued r) rs) (table k (start + valued r) rs)
        ≡ each (λ (xs : List ℕ). xs) (cond b (cells k start r ∷ row_cells k (start + valued r) rs) (row_cells k (start + valued r) rs))
    go ih true = ap (λ (l : List ℕ). cells k start r ++ l) ih
    go ih false = ih

rows_alike : (k start : ℕ) (rs : List Row) → Alike (width k) (row_cells k start rs)
unfolding row_cells
rows_alike k start [] = tt
rows_alike k start (r ∷ rs) = go (rows_alike k (start + valued r) rs) (belongs k r)
  where
    go : Alike (width k) (row_cells k (start + valued r) rs) → (b : Bool)
        → Alike (width k) (cond b (cells k start r ∷ row_cells k (start + valued r) rs) (row_cells k (start + valued r) rs))
    go ih true = (cells-length k start r, ih)
    go ih false = ih

rows-counted : (k start : ℕ) (rs : List Row) → length (row_cells k start rs) ≡ counted k rs
unfolding row_cells counted
rows-counted k start [] = refl
rows-counted k start (r ∷ rs) = go (rows-counted k (start + valued r) rs) (belongs k r)
  where
    go : length (row_cells k (start + valued r) rs) ≡ counted k rs → (b : Bool)
        → length (cond b (cells k start r ∷ row_cells k (start + valued r) rs) (row_cells k (start + valued r) rs))
        ≡ length (keep_if b r (those (belongs k) rs))
    go ih true = ap suc ih
    go ih false = ih

-- how many values stand before row j of a table
unfoldable pub values_before : ℕ → List Row → ℕ → ℕ
values_before k [] j = 0
values_before k (r ∷ rs) zero = cond (belongs k r) 0 (valued r + values_before k rs 0)
values_before k (r ∷ rs) (suc j) = valued r + values_before k rs (cond (belongs k r) j (suc j))

row-cells : (k start : ℕ) (rs : List Row) (j : ℕ) → j < counted k rs
    → get_or (row_cells k start rs) j [] ≡ cells k (start + values_before k rs j) (nth (belongs k) rs j)
unfolding row_cells counted values_before
row-cells k start [] j h = absurd (omega arith)
row-cells k start (r ∷ rs) j h = go (λ i l. row-cells k (start + valued r) rs i l) (belongs k r) refl j h
  where
    more : List (List ℕ)
    more = row_cells k (start + valued r) rs

    Below : Type 0
    Below = (i : ℕ) → i < counted k rs → get_or more i [] ≡ cells k (start + valued r + values_before k rs i) (nth (belongs k) rs i)

    moved : (i : ℕ) (x : Row) → cells k (start + valued r + values_before k rs i) x ≡ cells k (start + (valued r + values_before k rs i)) x
    moved i x = ap (λ (n : ℕ). cells k n x) (omega arith)

    go : Below → (b : Bool) → belongs k r ≡ b → (i : ℕ) → i < length (keep_if b r (those (belongs k) rs))
        → get_or (cond b (cells k start r ∷ more) more) i []
        ≡ cells k (start + values_before k (r ∷ rs) i) (get_or (keep_if b r (those (belongs k) rs)) i no_row)
    go ih true e zero l = rw (e, values_before) (ap (λ (n : ℕ). cells k n r) (omega arith))
    go ih true e (suc i) l = rw (e, values_before) (ih i (omega arith) ∙ moved i (nth (belongs k) rs i))
    go ih false e zero l = rw (e, values_before) (ih 0 l ∙ moved 0 (nth (belongs k) rs 0))
    go ih false e (suc i) l = rw (e, values_before) (ih (suc i) l ∙ moved (suc i) (nth (belongs k) rs (suc i)))

-- ---- tables

pub table-length : (k start : ℕ) (rs : List Row) → length (table k start rs) ≡ width k * counted k rs
table-length k start rs =
    ap length (table-rows k start rs)
    ∙ joined_length (width k) (row_cells k start rs) (rows_alike k start rs)
    ∙ ap (λ (n : ℕ). width k * n) (rows-counted k start rs)

pub table-append : (k start : ℕ) (ps rs : List Row) → table k start (ps ++ rs) ≡ table k start ps ++ table k (start + sum_of valued ps) rs
unfolding table
table-append k start [] rs = ap (λ (n : ℕ). table k n rs) (omega arith)
table-append k start (p ∷ ps) rs = go (table-append k (start + valued p) ps rs) (belongs k p)
  where
    whole : List ℕ
    whole = table k (start + valued p) (ps ++ rs)

    front : List ℕ
    front = table k (start + valued p) ps

    back : ℕ → List ℕ
    back n = table k n rs

    go : whole ≡ front ++ back (start + valued p + sum_of valued ps) → (b : Bool)
        → cond b (cells k start p ++ whole) whole ≡ cond b (cells k start p ++ front) front ++ back (start + (valued p + sum_of valued ps))
    go ih true =
        ap (λ (l : List ℕ). cells k start p ++ l) (ih ∙ ap (λ (n : ℕ). front ++ back n) (omega arith))
        ∙ sym (append_assoc (cells k start p) front (back (start + (valued p + sum_of valued ps))))
    go ih false = ih ∙ ap (λ (n : ℕ). front ++ back n) (omega arith)

pub counted-append : (k : ℕ) (ps rs : List Row) → counted k (ps ++ rs) ≡ counted k ps + counted k rs
unfolding counted
counted-append k ps rs = ap length (those-append (belongs k) ps rs) ∙ length-append (those (belongs k) ps) (those (belongs k) rs)

-- the cells of row j of a table; of a narrow one START does not matter, as `cells` then leaves it out
module _ (k start : ℕ) (rs : List Row) (j : ℕ) (h : j < counted k rs) where
  inside : j < length (row_cells k start rs)
  inside = omega (arith, rows-counted k start rs)

  pub table-cell : (i : ℕ) → i < width k
      → get_or (table k start rs) (width k * j + i) 0 ≡ get_or (cells k (start + values_before k rs j) (nth (belongs k) rs j)) i 0
  table-cell i b =
      ap (λ (l : List ℕ). get_or l (width k * j + i) 0) (table-rows k start rs)
      ∙ joined-cell (width k) (row_cells k start rs) (rows_alike k start rs) j i inside b
      ∙ ap (λ (l : List ℕ). get_or l i 0) (row-cells k start rs j h)

  -- n cells of row j, from cell i on
  pub table_part : (i n : ℕ) → i + n ≤ width k
      → take n (drop (width k * j + i) (table k start rs)) ≡ take n (drop i (cells k (start + values_before k rs j) (nth (belongs k) rs j)))
  table_part i n b =
      ap (λ (l : List ℕ). take n (drop (width k * j + i) l)) (table-rows k start rs)
      ∙ joined_part (width k) (row_cells k start rs) (rows_alike k start rs) j i n inside b
      ∙ ap (λ (l : List ℕ). take n (drop i l)) (row-cells k start rs j h)
