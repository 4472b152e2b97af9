-- Several tables laid in one area, row by row: what is left to lay, at a position of the text. Assumes nothing.
use Prim.Native.Nat.{ℕ, ◌+◌, ◌≤◌}
use native.Mathlib.Omega.{arith}
use mathlib.Core.Path.{◌≡◌, refl, sym, ap, ◌∙◌, subst}
use mathlib.Core.Bool.{Bool, true, false, cond}
use mathlib.Core.List.{List, [], ◌∷◌, ◌++◌}
use lib.ListN.{length, drop, length-append}
use borrow.Author.Tests.{ne_eqb}
use Rattle.rules.specs.Text.{Row, row, rows}
use Rattle.rules.proofs.Clean.{Each}
use Rattle.text.specs.declared.Row.{Row as Read}
use Rattle.text.specs.Line.{line_at}
use Rattle.text.proofs.Tools.{by_test}
use Rattle.tables.specs.Layout.{laid, belongs, cells, width, valued, table}
use Rattle.tables.specs.Fill.{whole, lettered, cells_of, row_in, space}
use Rattle.tables.proofs.Laid.{laid_nil, laid-length, laid-append, laid-apart}
use Rattle.tables.proofs.Cells.{cells-length}
use Rattle.tables.proofs.Turns.{Turn, rows_end, belongs-read, cells-read}

-- ---- a row and a table: the cells that it adds

unfoldable pub own : ℕ → ℕ → Row → List ℕ
own k start x = cond (belongs k x) (cells k start x) []

table-own : (k start : ℕ) (x : Row) (rs : List Row) → table k start (x ∷ rs) ≡ own k start x ++ table k (start + valued x) rs
unfolding own table
table-own k start x rs = by_test (belongs k x) (λ e. simp e) (λ e. simp e)

-- only a property says how many values stand before it
own-before : (k a b : ℕ) (x : Row) → (k ≡ 9 → ⊥) → own k a x ≡ own k b x
unfolding own cells
own-before k a b x h = simp (ne_eqb k 9 h)

module _ (x : Row) (n : ℕ) (r : Read) (e : r ≡ whole x n) (k start : ℕ) where
  pub own_read : row_in k start r ≡ own k start x
  unfolding own row_in
  own_read = cc (belongs-read x n r e k, cells-read x n r e k start)

  pub own-read_else : (k ≡ 9 → ⊥) → (before : ℕ) → row_in k start r ≡ own k before x
  own-read_else h before = own_read ∙ own-before k start before x h

  pub own-space : space k r.letter ≡ length (own k start x)
  unfolding own space
  own-space =
      rw (belongs-read x n r e k)
      (by_test (belongs k x) (λ b. simp b (sym (cells-length k start x))) (λ b. simp b))

-- ---- laying a row where it belongs

module _ (k start : ℕ) (r : Read) {b : Bool} (e : b ≡ belongs k (lettered r.letter)) where
  module _ (y : b ≡ true) where
    space_with : space k r.letter ≡ width k
    unfolding space
    space_with = simp (sym e ∙ y)

    pub room_with : (p n : ℕ) → p + space k r.letter ≤ n → p + width k ≤ n
    room_with p n h = omega (arith, space_with)

    pub next_with : (p n : ℕ) → n ≡ p + width k → n ≡ p + space k r.letter
    next_with p n h = omega (arith, space_with)

    pub laid_with : (p : ℕ) (l a : List ℕ) → a ≡ laid p (cells_of k start r) l → a ≡ laid p (row_in k start r) l
    unfolding row_in
    laid_with p l a h = simp (sym e ∙ y) h

  module _ (y : b ≡ false) where
    pub next-without : (p : ℕ) → p ≡ p + space k r.letter
    unfolding space
    next-without p = simp (sym e ∙ y) (omega arith)

    pub laid-without : (p : ℕ) (l : List ℕ) → l ≡ laid p (row_in k start r) l
    unfolding row_in
    laid-without p l = simp (sym e ∙ y) (sym (laid_nil p l))

-- ---- some tables, each by its number and the place where its next row goes, the last in the area first

-- what is left of them, laid
unfoldable pub todo : List (ℕ × ℕ) → ℕ → List Row → List ℕ → List ℕ
todo [] start rs area = area
todo ((k, place) ∷ ts) start rs area = laid place (table k start rs) (todo ts start rs area)

-- where each will end
unfoldable pub ends : List (ℕ × ℕ) → ℕ → List Row → List ℕ
ends [] start rs = []
ends ((k, place) ∷ ts) start rs = (place + length (table k start rs)) ∷ ends ts start rs

-- each ends before the one that stands behind it, and the last before `top`
abbrev pub Order : ℕ → List (ℕ × ℕ) → ℕ → List Row → Type 0
Order top [] start rs = Unit {0}
Order top ((k, place) ∷ ts) start rs = (place + length (table k start rs) ≤ top) × Order place ts start rs

-- one row laid in each, and the places behind it
unfoldable pub puts : List (ℕ × ℕ) → ℕ → Row → List ℕ → List ℕ
puts [] start x area = area
puts ((k, place) ∷ ts) start x area = laid place (own k start x) (puts ts start x area)

unfoldable pub moved : List (ℕ × ℕ) → ℕ → Row → List (ℕ × ℕ)
moved [] start x = []
moved ((k, place) ∷ ts) start x = (k, place + length (own k start x)) ∷ moved ts start x

module _ (start : ℕ) (rs : List Row) where
  order_up : (ts : List (ℕ × ℕ)) (p q : ℕ) → p ≤ q → Order p ts start rs → Order q ts start rs
  order_up [] p q h o = tt
  order_up ((k, place) ∷ ts) p q h o = (omega (arith, o.0), o.1)

  todo-length : (ts : List (ℕ × ℕ)) (p : ℕ) (area : List ℕ) → Order p ts start rs → p ≤ length area
      → length (todo ts start rs area) ≡ length area
  unfolding todo
  todo-length [] p area o h = refl
  todo-length ((k, place) ∷ ts) p area o h =
      let m = todo-length ts place area o.1 (omega (arith, o.0)) in
      laid-length place (table k start rs) (todo ts start rs area) (omega (arith, o.0)) ∙ m

  -- numbers laid behind them all
  todo-apart : (ts : List (ℕ × ℕ)) (p : ℕ) (xs area : List ℕ) → Order p ts start rs → p + length xs ≤ length area
      → laid p xs (todo ts start rs area) ≡ todo ts start rs (laid p xs area)
  unfolding todo
  todo-apart [] p xs area o h = refl
  todo-apart ((k, place) ∷ ts) p xs area o h =
      let m = todo-length ts place area o.1 (omega (arith, o.0)) in
      laid-apart p place xs (table k start rs) (todo ts start rs area) o.0 (omega arith)
      ∙ ap (laid place (table k start rs)) (todo-apart ts p xs area (order_up ts place p (omega (arith, o.0)) o.1) h)

-- one row
module _ (start : ℕ) (x : Row) (rs : List Row) where
  abbrev after : ℕ
  after = start + valued x

  table-long : (k : ℕ) → length (table k start (x ∷ rs)) ≡ length (own k start x) + length (table k after rs)
  table-long k = ap length (table-own k start x rs) ∙ length-append (own k start x) (table k after rs)

  ends_on : (ts : List (ℕ × ℕ)) → ends ts start (x ∷ rs) ≡ ends (moved ts start x) after rs
  unfolding ends moved
  ends_on [] = refl
  ends_on ((k, place) ∷ ts) =
      let e : place + length (table k start (x ∷ rs)) ≡ place + length (own k start x) + length (table k after rs) = omega (arith, table-long k) in
      ap (λ (n : ℕ). n ∷ ends ts start (x ∷ rs)) e
      ∙ ap (λ (l : List ℕ). (place + length (own k start x) + length (table k after rs)) ∷ l) (ends_on ts)

  order_on : (ts : List (ℕ × ℕ)) (p : ℕ) → Order p ts start (x ∷ rs) → Order p (moved ts start x) after rs
  unfolding moved
  order_on [] p o = tt
  order_on ((k, place) ∷ ts) p o = (
    omega (arith, o.0, table-long k),
    order_up after rs (moved ts start x) place (place + length (own k start x)) (omega arith) (order_on ts place o.1),
  )

  puts-length : (ts : List (ℕ × ℕ)) (p : ℕ) (area : List ℕ) → Order p ts start (x ∷ rs) → p ≤ length area
      → length (puts ts start x area) ≡ length area
  unfolding puts
  puts-length [] p area o h = refl
  puts-length ((k, place) ∷ ts) p area o h =
      let m = puts-length ts place area o.1 (omega (arith, o.0)) in
      laid-length place (own k start x) (puts ts start x area) (omega (arith, o.0, table-long k)) ∙ m

  todo-on : (ts : List (ℕ × ℕ)) (p : ℕ) (area : List ℕ) → Order p ts start (x ∷ rs) → p ≤ length area
      → todo ts start (x ∷ rs) area ≡ todo (moved ts start x) after rs (puts ts start x area)
  unfolding todo puts moved
  todo-on [] p area o h = refl
  todo-on ((k, place) ∷ ts) p area o h =
      let put = puts ts start x area in
      let rest = todo (moved ts start x) after rs put in
      let b : place ≤ length area = omega (arith, o.0) in
      let order : Order place (moved ts start x) after rs = order_on ts place o.1 in
      let m : length put ≡ length area = puts-length ts place area o.1 b in
      let n : length rest ≡ length put = todo-length after rs (moved ts start x) place put order (omega arith) in
      let l = table-long k in
      let i = o.0 in
      ap (laid place (table k start (x ∷ rs))) (todo-on ts place area o.1 b)
      ∙ ap (λ (ys : List ℕ). laid place ys rest) (table-own k start x rs)
      ∙ laid-append place (own k start x) (table k after rs) rest (omega arith)
      ∙ ap (laid (place + length (own k start x)) (table k after rs))
      (todo-apart after rs (moved ts start x) place (own k start x) put order (omega arith))

-- ---- along a text

-- up to `here` the rows of the tables `from` are laid, up to the places in `ts`, and `start` values stand before the rows behind
pub record Left (s : List ℕ) (from : List (ℕ × ℕ)) (area₀ : List ℕ) (ts : List (ℕ × ℕ)) (area : List ℕ) (start here : ℕ) : Type 0 where
  pub done : todo from 0 (rows s) area₀ ≡ todo ts start (rows (drop here s)) area
  pub stops : ends from 0 (rows s) ≡ ends ts start (rows (drop here s))
  pub order : Order (length area) ts start (rows (drop here s))
  pub same : length area ≡ length area₀

pub left_start : {s : List ℕ} {ts : List (ℕ × ℕ)} {area : List ℕ} → Order (length area) ts 0 (rows s) → Left s ts area ts area 0 0
left_start o = record { done = refl; stops = refl; order = o; same = refl }

-- one turn
module _ {s : List ℕ} {from : List (ℕ × ℕ)} {area₀ : List ℕ} {ts : List (ℕ × ℕ)} {area : List ℕ} {start here : ℕ}
    (f : Left s from area₀ ts area start here) {r : Read} (t : Turn s here r) where
  abbrev x : Row
  x = row (line_at s here)

  abbrev behind : List Row
  behind = rows (drop r.next s)

  order_here : Order (length area) ts start (x ∷ behind)
  order_here = subst (Order (length area) ts start) t.rest f.order

  rooms : (us : List (ℕ × ℕ)) (p n : ℕ) → p ≤ n → Order p us start (x ∷ behind)
      → Each (λ (u : ℕ × ℕ). u.1 + space u.0 r.letter ≤ n) us
  rooms [] p n h o = tt
  rooms ((k, place) ∷ us) p n h o = (
    omega (arith, o.0, own-space x r.next r t.read k start, table-long start x behind k),
    rooms us place n (omega (arith, o.0)) o.1,
  )

  -- each table has room for the row
  pub left_rooms : Each (λ (u : ℕ × ℕ). u.1 + space u.0 r.letter ≤ length area) ts
  left_rooms = rooms ts (length area) (length area) (omega arith) order_here

  pub left_on : {ts' : List (ℕ × ℕ)} {area' : List ℕ} {start' : ℕ} → ts' ≡ moved ts start x → area' ≡ puts ts start x area
      → start' ≡ start + valued x → Left s from area₀ ts' area' start' r.next
  left_on et ea es =
      let m = puts-length start x behind ts (length area) area order_here (omega arith) in
      let e = f.same in
      rw (et, ea, es)
      (record {
        done = f.done ∙ ap (λ (rs : List Row). todo ts start rs area) t.rest ∙ todo-on start x behind ts (length area) area order_here (omega arith);
        stops = f.stops ∙ ap (ends ts start) t.rest ∙ ends_on start x behind ts;
        order = order_up (start + valued x) behind (moved ts start x) (length area) (length (puts ts start x area)) (omega arith) (order_on start x behind ts (length area) order_here);
        same = m ∙ e;
      })

-- the end of the text
unfoldable pub places : List (ℕ × ℕ) → List ℕ
places [] = []
places ((k, place) ∷ ts) = place ∷ places ts

module _ (start : ℕ) where
  none-ends : (ts : List (ℕ × ℕ)) → ends ts start [] ≡ places ts
  unfolding ends places table
  none-ends [] = refl
  none-ends ((k, place) ∷ ts) =
      let e : place + 0 ≡ place = omega arith in
      ap (λ (n : ℕ). n ∷ ends ts start []) e ∙ ap (λ (l : List ℕ). place ∷ l) (none-ends ts)

  none-todo : (ts : List (ℕ × ℕ)) (area : List ℕ) → todo ts start [] area ≡ area
  unfolding todo table
  none-todo [] area = refl
  none-todo ((k, place) ∷ ts) area = laid_nil place (todo ts start [] area) ∙ none-todo ts area

module _ {s : List ℕ} {from : List (ℕ × ℕ)} {area₀ : List ℕ} {ts : List (ℕ × ℕ)} {area : List ℕ} {start here : ℕ}
    (f : Left s from area₀ ts area start here) (h : length s ≤ here) where
  pub left_all : area ≡ todo from 0 (rows s) area₀
  left_all = sym (f.done ∙ ap (λ (rs : List Row). todo ts start rs area) (rows_end s here h) ∙ none-todo start ts area)

  pub left_ends : places ts ≡ ends from 0 (rows s)
  left_ends = sym (f.stops ∙ ap (ends ts start) (rows_end s here h) ∙ none-ends start ts)
