-- The Q records, counted line by line: what is left to count, at a position of the text. Assumes nothing.
use Prim.Native.Nat.{ℕ, ◌+◌, ◌≤◌}
use native.Mathlib.Omega.{arith}
use mathlib.Core.Path.{◌≡◌, refl, sym, ap, ◌∙◌}
use mathlib.Core.Bool.{true, false, cond}
use mathlib.Core.List.{List, ◌∷◌}
use lib.Dec.{eqb}
use lib.ListN.{length, get_or, drop}
use borrow.Author.Tests.{eq-eqb, ne_eqb, eqb-true, eqb-false}
use Rattle.rules.specs.Lists.{those}
use Rattle.rules.specs.Text.{lines, Row, row, rows, at, type_no, Q}
use Rattle.rules.specs.Schema.{is, nth}
use Rattle.rules.proofs.Clean.{Each}
use Rattle.text.specs.declared.Row.{Row as Read}
use Rattle.text.specs.Line.{line_at}
use Rattle.text.proofs.Tools.{by_test}
use Rattle.tables.specs.Fill.{Plain, queries_in, asked_with}
use Rattle.tables.specs.declared.Queries.{Queries}
use Rattle.tables.proofs.Turns.{Turn, rows_end, letter_read, number_read}

abbrev queries : ℕ → ℕ → Queries
queries n f = record { count = n; first = type_no f }

-- where `count` were found and the first names `first`, with those of some further rows
pub asked : ℕ → ℕ → List Row → Queries
asked count first rs = queries (count + length (those (is Q) rs)) (cond (eqb count 0) (at (nth (is Q) rs 0) 0) first)

pub record Asked (s : List ℕ) (count first here : ℕ) : Type 0 where
  pub done : queries_in (rows s) ≡ asked count first (rows (drop here s))
  pub none : count ≡ 0 → first ≡ 0
  pub plain : Each Plain (lines (drop here s))
  pub few : count ≤ here
  pub inside : here ≤ length s

pub asked-start : {s : List ℕ} → Each Plain (lines s) → Asked s 0 0 0
unfolding queries_in asked
asked-start {s} p =
    record {
      done = ap (λ (n : ℕ). queries n (at (nth (is Q) (rows s) 0) 0)) (omega arith);
      none = λ e. refl;
      plain = p;
      few = omega arith;
      inside = omega arith;
    }

module _ (x : Row) (rs : List Row) where
  with_first : (first : ℕ) → is Q x ≡ true → asked 0 first (x ∷ rs) ≡ asked 1 (at x 0) rs
  unfolding asked
  with_first first e = simp e (ap (λ (n : ℕ). queries n (at x 0)) (omega arith))

  with_more : (count first : ℕ) → is Q x ≡ true → (count ≡ 0 → ⊥) → asked count first (x ∷ rs) ≡ asked (count + 1) first rs
  unfolding asked
  with_more count first e z =
      simp (e, ne_eqb count 0 z, ne_eqb (count + 1) 0 (λ y. omega arith)) (ap (λ (n : ℕ). queries n first) (omega arith))

  without : (count first : ℕ) → is Q x ≡ false → asked count first (x ∷ rs) ≡ asked count first rs
  unfolding asked
  without count first e = simp e

module _ {s : List ℕ} {count first here : ℕ} (f : Asked s count first here) {r : Read} (t : Turn s here r) where
  abbrev x : Row
  x = row (line_at s here)

  here-is : (n m : ℕ) → n ≡ count → m ≡ first → queries_in (rows s) ≡ asked n m (x ∷ rows (drop r.next s))
  here-is n m e g = f.done ∙ ap (asked count first) t.rest ∙ cc

  asks : r.letter ≡ 81 → is Q x ≡ true
  asks e = eq-eqb x.letter 81 (sym (letter_read x r.next r t.read) ∙ e)

  asked-first : r.letter ≡ 81 → count ≡ 0 → Asked s 1 (get_or r.nums 0 0) r.next
  asked-first e z =
      let a = t.after in
      record {
        done =
            here-is 0 first (sym z) refl
            ∙ with_first x (rows (drop r.next s)) first (asks e)
            ∙ ap (λ (n : ℕ). asked 1 n (rows (drop r.next s))) (sym (number_read x r.next r t.read 0 (omega arith)));
        none = λ y. absurd (omega arith);
        plain = t.plain;
        few = omega arith;
        inside = t.inside;
      }

  asked-more : r.letter ≡ 81 → (count ≡ 0 → ⊥) → Asked s (count + 1) first r.next
  asked-more e z =
      let a = t.after in
      let m = f.few in
      record {
        done = here-is count first refl refl ∙ with_more x (rows (drop r.next s)) count first (asks e) z;
        none = λ y. absurd (omega arith);
        plain = t.plain;
        few = omega arith;
        inside = t.inside;
      }

  asked_by : (r.letter ≡ 81 → ⊥) → Asked s count first r.next
  asked_by e =
      let a = t.after in
      let m = f.few in
      let q : is Q x ≡ false = ne_eqb x.letter 81 (λ y. e (letter_read x r.next r t.read ∙ y)) in
      record {
        done = here-is count first refl refl ∙ without x (rows (drop r.next s)) count first q;
        none = f.none;
        plain = t.plain;
        few = omega arith;
        inside = t.inside;
      }

  -- with the row, whatever its letter
  pub asked-on : {q : Queries} → q ≡ asked_with (queries count first) r.letter (type_no (get_or r.nums 0 0)) → Asked s q.count q.first.0 r.next
  unfolding asked_with
  asked-on {q} e =
      by_test (eqb r.letter Q)
      (λ l. by_test (eqb count 0)
      (λ z. let same : q ≡ queries 1 (get_or r.nums 0 0) = simp (l, z) at e in
      rw same (asked-first (eqb-true r.letter Q l) (eqb-true count 0 z)))
      (λ z. let same : q ≡ queries (count + 1) first = simp (l, z) at e in
      rw same (asked-more (eqb-true r.letter Q l) (eqb-false count 0 z))))
      (λ l. let same : q ≡ queries count first = simp l at e in
      rw same (asked_by (eqb-false r.letter Q l)))

pub asked-all : {s : List ℕ} {count first here : ℕ} → Asked s count first here → length s ≤ here
    → queries count first ≡ queries_in (rows s)
unfolding asked
asked-all {s} {count} {first} {here} f h =
    sym (f.done ∙ ap (asked count first) (rows_end s here h) ∙ ap (λ (n : ℕ). queries n (cond (eqb count 0) 0 first)) (omega arith)
    ∙ ap (queries count) (by_test (eqb count 0) (λ e. simp e (sym (f.none (eqb-true count 0 e)))) (λ e. simp e)))
