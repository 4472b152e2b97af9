-- A query laid out row by row: what is left to lay, at a position of the text. Assumes nothing.
use Prim.Native.Nat.{ℕ, ◌+◌, ◌*◌, ◌≤◌}
use native.Mathlib.Omega.{arith}
use mathlib.Core.Path.{◌≡◌, refl, ap, ◌∙◌}
use mathlib.Core.List.{List, [], ◌∷◌}
use lib.ListN.{length, get_or, drop}
use Rattle.rules.specs.Text.{lines, row, rows}
use Rattle.rules.proofs.Clean.{Each}
use Rattle.text.specs.declared.Row.{Row as Read}
use Rattle.text.specs.Line.{line_at}
use Rattle.tables.specs.Layout.{laid, valued, table, counted}
use Rattle.tables.specs.Fill.{Plain, row_in, space}
use Rattle.tables.proofs.Turns.{Turn}
use Rattle.tables.proofs.Laying.{wide-long, query-room}
use Rattle.tables.proofs.Together.{own-read_else, own-space, places, ends, puts, moved, todo}
use Rattle.tables.proofs.Together.{Left, left_start, left_on, left_all, left_ends}

-- `before` values stand before the rows from `here` on: no entry of a query asks for them
pub record QueryLeft (s area₀ area : List ℕ) (place here : ℕ) : Type 0 where
  pub before : ℕ
  pub left : Left s ((10, 8) ∷ []) area₀ ((10, place) ∷ []) area before here
  pub plain : Each Plain (lines (drop here s))

pub query-start : {s area : List ℕ} → Each Plain (lines s) → length (rows s) ≤ 256 → 3592 ≤ length area → QueryLeft s area area 8 0
query-start {s} plain few h = record { before = 0; left = left_start (omega (arith, query-room (rows s) few), tt); plain = plain }

-- one turn
pub query-on : {s area₀ area area' : List ℕ} {place place' here : ℕ} (f : QueryLeft s area₀ area place here) {r : Read} → Turn s here r
    → (place' ≡ place + space 10 r.letter) × (area' ≡ laid place (row_in 10 0 r) area) → QueryLeft s area₀ area' place' r.next
unfolding moved puts
query-on {s} {here = here} f {r} t e =
    let x = row (line_at s here) in
    let put = own-read_else x r.next r t.read 10 0 (λ n. absurd (omega arith)) f.before in
    let wide = own-space x r.next r t.read 10 f.before in
    record {
      before = f.before + valued x;
      left = left_on f.left t (cc (e.0, wide)) (cc (e.1, put)) refl;
      plain = t.plain;
    }

-- the end of the text
module _ {s area₀ area : List ℕ} {place here : ℕ} (f : QueryLeft s area₀ area place here) (h : length s ≤ here) where
  pub query_end : place ≡ 8 + 14 * counted 10 (rows s)
  unfolding places ends
  query_end = ap (λ (l : List ℕ). get_or l 0 0) (left_ends f.left h) ∙ ap (λ (n : ℕ). 8 + n) (wide-long 10 (rows s) (omega arith))

  pub query-all : area ≡ laid 8 (table 10 0 (rows s)) area₀
  unfolding todo
  query-all = left_all f.left h
