-- The values of the properties, laid property by property: what is left to lay, at a position of the text. Assumes nothing.
use Prim.Native.Nat.{ℕ, ◌+◌, ◌*◌, ◌≤◌}
use native.Mathlib.Omega.{arith}
use mathlib.Core.Path.{◌≡◌, refl, sym, ap, ◌∙◌}
use mathlib.Core.Bool.{true}
use mathlib.Core.List.{List, [], ◌∷◌, ◌++◌}
use lib.ListN.{length, get_or, drop, length-append, length-drop}
use borrow.Author.Tests.{eq-eqb, ne_eqb}
use Rattle.rules.specs.Text.{lines, Row, row, rows, at, P}
use Rattle.rules.specs.Schema.{is}
use Rattle.rules.proofs.Clean.{Each}
use Rattle.text.specs.declared.Row.{Row as Read}
use Rattle.text.specs.Line.{line_at}
use Rattle.text.proofs.Tools.{by_test}
use Rattle.tables.specs.Layout.{laid, valued, all_values}
use Rattle.tables.specs.Fill.{whole, Plain, own_values}
use Rattle.tables.proofs.Laid.{laid_nil, laid-length, laid-append}
use Rattle.tables.proofs.Turns.{Turn, rows_end, letter_read, number_read}

-- the values up to `here` are laid, up to `place`
pub record Valued (s : List ℕ) (base : ℕ) (area₀ area : List ℕ) (place here : ℕ) : Type 0 where
  pub done : laid base (all_values (rows s)) area₀ ≡ laid place (all_values (rows (drop here s))) area
  pub count : base + length (all_values (rows s)) ≡ place + length (all_values (rows (drop here s)))
  pub room : place + length (all_values (rows (drop here s))) ≤ length area
  pub same : length area ≡ length area₀
  pub plain : Each Plain (lines (drop here s))
  pub after : base ≤ place
  pub under : place ≤ base + here
  pub inside : here ≤ length s

pub valued-start : {s : List ℕ} {base : ℕ} {area : List ℕ} → Each Plain (lines s) → base + length (all_values (rows s)) ≤ length area
    → Valued s base area area base 0
valued-start p h =
    record {
      done = refl;
      count = refl;
      room = h;
      same = refl;
      plain = p;
      after = omega arith;
      under = omega arith;
      inside = omega arith;
    }

own-values : (x : Row) (rs : List Row) → all_values (x ∷ rs) ≡ own_values x ++ all_values rs
unfolding all_values own_values
own-values x rs = by_test (is P x) (λ e. simp e) (λ e. simp e)

-- as many as are counted before the row behind it
pub own-valued : (x : Row) → length (own_values x) ≡ valued x
unfolding own_values valued
own-valued x = by_test (is P x) (λ e. simp e) (λ e. simp e)

-- no more than it has numbers
valued-most : (x : Row) → valued x ≤ length x.numbers
unfolding valued
valued-most x =
    by_test (is P x)
    (λ e. simp e (omega (arith, length-drop (4 + 2 * at x 3) x.numbers)))
    (λ e. simp e (omega arith))

-- ---- the values of a row that was read

module _ (x : Row) (n : ℕ) (r : Read) (e : r ≡ whole x n) where
  pub own-here : r.letter ≡ 80 → drop (4 + 2 * get_or r.nums 3 0) x.numbers ≡ own_values x
  unfolding own_values
  own-here l =
      let is-p : is P x ≡ true = eq-eqb x.letter 80 (sym (letter_read x n r e) ∙ l) in
      simp is-p (ap (λ (m : ℕ). drop (4 + 2 * m) x.numbers) (number_read x n r e 3 (omega arith)))

  pub own-none : (r.letter ≡ 80 → ⊥) → own_values x ≡ []
  unfolding own_values
  own-none l = simp (ne_eqb x.letter 80 (λ y. l (letter_read x n r e ∙ y)))

-- one turn
module _ {s : List ℕ} {base : ℕ} {area₀ area : List ℕ} {place here : ℕ} (f : Valued s base area₀ area place here) {r : Read} (t : Turn s here r) where
  abbrev x : Row
  x = row (line_at s here)

  abbrev behind : List Row
  behind = rows (drop r.next s)

  values_are : all_values (rows (drop here s)) ≡ own_values x ++ all_values behind
  values_are = ap all_values t.rest ∙ own-values x behind

  values-long : length (all_values (rows (drop here s))) ≡ length (own_values x) + length (all_values behind)
  values-long = ap length values_are ∙ length-append (own_values x) (all_values behind)

  pub valued-room : place + length (own_values x) ≤ length area
  valued-room = let h = f.room in omega (arith, values-long)

  pub valued-on : {area' : List ℕ} {place' : ℕ} → place' ≡ place + length (own_values x) → area' ≡ laid place (own_values x) area
      → Valued s base area₀ area' place' r.next
  valued-on {area'} {place'} ep ea =
      let h = f.room in
      let n = values-long in
      let m : length area' ≡ length area = ap length ea ∙ laid-length place (own_values x) area (omega arith) in
      let u = f.same in
      let v = f.after in
      let w = f.under in
      let c = f.count in
      let o = t.few in
      record {
        done =
            f.done
            ∙ ap (λ (l : List ℕ). laid place l area) values_are
            ∙ laid-append place (own_values x) (all_values behind) area (omega arith)
            ∙ ap (λ (i : ℕ). laid i (all_values behind) (laid place (own_values x) area)) (sym ep)
            ∙ ap (laid place' (all_values behind)) (sym ea);
        count = omega arith;
        room = omega arith;
        same = omega arith;
        plain = t.plain;
        after = omega arith;
        under = omega (arith, own-valued x, valued-most x);
        inside = t.inside;
      }

-- the end of the text
module _ {s : List ℕ} {base : ℕ} {area₀ area : List ℕ} {place here : ℕ} (f : Valued s base area₀ area place here) (h : length s ≤ here) where
  over : all_values (rows (drop here s)) ≡ []
  unfolding all_values
  over = ap all_values (rows_end s here h)

  pub valued-count : place ≡ base + length (all_values (rows s))
  valued-count = let c = f.count in omega (arith, ap length over)

  pub valued-all : area ≡ laid base (all_values (rows s)) area₀
  valued-all = sym (f.done ∙ ap (λ (l : List ℕ). laid place l area) over ∙ laid_nil place area)
