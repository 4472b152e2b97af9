-- One line of a text after another, as the loops take them: what the reader hands on of a line, in terms of its row. Assumes nothing.
use Prim.Native.Nat.{ℕ, suc, ◌+◌, ◌*◌, ◌-◌, ◌≤◌, ◌<◌}
use native.Mathlib.Omega.{arith}
use mathlib.Core.Path.{◌≡◌, refl, sym, ap, ◌∙◌}
use mathlib.Core.List.{List, [], ◌∷◌, map}
use lib.Dec.{eqb}
use lib.ListN.{length, get_or, drop}
use borrow.Author.Tests.{eq-eqb, ne_eqb, le-leb, lt-leb}
use Rattle.rules.specs.Text.{Line, lines, fields, on_first_field, tab, is_number, leading, Row, row_of, row, rows, at}
use Rattle.rules.proofs.Clean.{Each}
use Rattle.text.specs.declared.Row.{Row as Read}
use Rattle.text.specs.Line.{line_at, next_at, row_at}
use Rattle.text.proofs.Tools.{by_test}
use Rattle.text.proofs.Lines.{lines-here, next-inside, lines_end}
use Rattle.text.proofs.Rows.{padded-at}
use Rattle.tables.specs.Layout.{laid, narrow, wide, belongs, cells, width}
use Rattle.tables.specs.Fill.{whole, Plain, lettered, cells_of, values_in}
use Rattle.tables.proofs.Cells.{narrow-width, wide-width}

-- ---- a line has at most as many numbers as bytes

first-length : (b : ℕ) (fs : List (List ℕ)) → length (on_first_field b fs) ≤ suc (length fs)
first-length b [] = omega arith
first-length b (f ∷ fs) = omega arith

fields-length : (bs : List ℕ) → length (fields bs) ≤ suc (length bs)
fields-length [] = omega arith
fields-length (b ∷ bs) =
    by_test (eqb b tab)
    (λ e. rw (e, fields) (omega (arith, fields-length bs)))
    (λ e. rw (e, fields) (omega (arith, fields-length bs, first-length b (fields bs))))

leading_length : (fs : List (List ℕ)) → length (leading fs) ≤ length fs
leading_length [] = omega arith
leading_length (f ∷ fs) =
    by_test (is_number f) (λ e. rw (e, leading) (omega (arith, leading_length fs))) (λ e. rw (e, leading) (omega arith))

row-length : (fs : List (List ℕ)) → length (row_of fs).numbers ≤ length fs - 1
row-length [] = omega arith
row-length ([] ∷ fs) = omega arith
row-length ((b ∷ []) ∷ fs) = omega (arith, leading_length fs)
row-length ((b ∷ c ∷ s) ∷ fs) = omega arith

numbers_length : (l : Line) → length (row l).numbers ≤ length l.bytes
numbers_length l = omega (arith, row-length (fields l.bytes), fields-length l.bytes)

-- ---- a line that is read to its end

pub plain-read : (s : List ℕ) (at : ℕ) (r : Read) → Plain (line_at s at) → r ≡ row_at s at → r ≡ whole (row (line_at s at)) (next_at s at)
unfolding row_at
plain-read s at r p e = e ∙ p.read (next_at s at)

-- ---- a turn: the line at a position, and the lines behind it

pub record Turn (s : List ℕ) (at : ℕ) (r : Read) : Type 0 where
  pub after : at < r.next
  pub inside : r.next ≤ length s
  pub rest : rows (drop at s) ≡ row (line_at s at) ∷ rows (drop r.next s)
  pub here : Plain (line_at s at)
  pub plain : Each Plain (lines (drop r.next s))
  pub read : r ≡ whole (row (line_at s at)) r.next
  pub few : at + length (row (line_at s at)).numbers ≤ r.next

module _ (s : List ℕ) (at : ℕ) (r : Read) (p : Each Plain (lines (drop at s))) (h : at < length s) (e : r ≡ row_at s at) where
  split : Plain (line_at s at) × Each Plain (lines (drop (next_at s at) s))
  split = rw (lines-here s at h) at p

  read_here : r ≡ whole (row (line_at s at)) (next_at s at)
  read_here = plain-read s at r split.0 e

  next_here : r.next ≡ next_at s at
  unfolding whole
  next_here = ap (λ (x : Read). x.next) read_here

  few-here : at + length (row (line_at s at)).numbers ≤ next_at s at
  unfolding next_at
  few-here = omega (arith, numbers_length (line_at s at))

  pub turn : Turn s at r
  turn =
      let n = next_here in
      let i = next-inside s at h in
      record {
        after = omega arith;
        inside = omega arith;
        rest = ap (map row) (lines-here s at h) ∙ ap (λ (j : ℕ). row (line_at s at) ∷ rows (drop j s)) (sym n);
        here = split.0;
        plain = rw n split.1;
        read = read_here ∙ ap (whole (row (line_at s at))) (sym n);
        few = omega (arith, few-here);
      }

pub rows_end : (s : List ℕ) (at : ℕ) → length s ≤ at → rows (drop at s) ≡ []
rows_end s at h = ap (map row) (lines_end s at h)

-- ---- a row as it was read

lettered-belongs : (k : ℕ) (x : Row) → belongs k (lettered x.letter) ≡ belongs k x
unfolding belongs lettered
lettered-belongs k x = refl

whole_cells : (k start : ℕ) (x : Row) (n : ℕ) → cells_of k start (whole x n) ≡ cells k start x
unfolding cells_of cells whole narrow wide
whole_cells k start x n = simp (padded-at 12 x.numbers 0 (omega arith), padded-at 12 x.numbers 1 (omega arith))

module _ (x : Row) (n : ℕ) (r : Read) (e : r ≡ whole x n) where
  pub letter_read : r.letter ≡ x.letter
  unfolding whole
  letter_read = ap (λ (y : Read). y.letter) e

  count-read : r.count ≡ length x.numbers
  unfolding whole
  count-read = ap (λ (y : Read). y.count) e

  pub number_read : (i : ℕ) → i < 12 → get_or r.nums i 0 ≡ at x i
  unfolding whole
  number_read i h = ap (λ (y : Read). get_or y.nums i 0) e ∙ padded-at 12 x.numbers i h

  pub belongs-read : (k : ℕ) → belongs k (lettered r.letter) ≡ belongs k x
  belongs-read k = ap (λ (l : ℕ). belongs k (lettered l)) letter_read ∙ lettered-belongs k x

  pub cells-read : (k start : ℕ) → cells_of k start r ≡ cells k start x
  cells-read k start = ap (cells_of k start) e ∙ whole_cells k start x n

-- no more numbers than the text has bytes
pub turned-few : {s : List ℕ} {here : ℕ} {r : Read} → Turn s here r → r.count ≤ length s
turned-few {s} {here} {r} t =
    let i = t.inside in
    let m = t.few in
    omega (arith, count-read (row (line_at s here)) r.next r t.read)
