-- Edges and properties with all their pairs, as the text form gives them. Assumes nothing.
use Prim.Native.Nat.{ℕ, zero, suc, ◌+◌, ◌*◌, ◌≤◌, ◌<◌}
use native.Mathlib.Omega.{arith}
use mathlib.Core.Path.{◌≡◌, subst}
use mathlib.Core.Bool.{true}
use mathlib.Core.List.{List, [], ◌∷◌}
use Rattle.std.specs.Prelude.{None}
use lib.Dec.{eqb}
use lib.ListN.{length, get_or}
use borrow.Author.Tests.{ltb-false, eqb-true, not-false}
use Rattle.rules.specs.Lists.{those}
use Rattle.rules.specs.Text.{Line, Row, row, rows, no_row, at, E, P}
use Rattle.rules.specs.Schema.{is, nth}
use Rattle.rules.specs.Forms.{graph_forms, form_tests, text_form}
use Rattle.rules.proofs.Clean.{Each, each-those, Silent}
use Rattle.rules.proofs.Sound.{rows-each, Sound}
use Rattle.tables.proofs.Those.{those-pass}

-- A row with pairs has at most four, and it has them all.
pub record Labelled (r : Row) : Type 0 where
  pub few : at r 3 ≤ 4
  pub long : 4 + 2 * at r 3 ≤ length r.numbers

-- Edges and properties are so.
abbrev pub Formed : Row → Type 0
Formed r = (is E r ≡ true → Labelled r) × (is P r ≡ true → Labelled r)

-- ---- the text form gives it

graph_line : (l : Line) → Sound graph_forms l → Formed (row l)
graph_line l s = (edge, property)
  where
    -- the tests of a row with the letter n in place of its own
    Tested : ℕ → Type 0
    Tested n = Silent (form_tests graph_forms (record { letter = n; numbers = (row l).numbers }))

    edge : is E (row l) ≡ true → Labelled (row l)
    edge e =
        let t = subst Tested (eqb-true (row l).letter E e) s.formed in
        let n : length (row l).numbers ≡ 4 + 2 * at (row l) 3 =
        eqb-true (length (row l).numbers) (4 + 2 * at (row l) 3) (not-false (eqb (length (row l).numbers) (4 + 2 * at (row l) 3)) t.0) in
        record { few = ltb-false 4 (at (row l) 3) t.1.0; long = omega arith }

    property : is P (row l) ≡ true → Labelled (row l)
    property e =
        let t = subst Tested (eqb-true (row l).letter P e) s.formed in
        record {
          few = ltb-false 4 (at (row l) 3) t.1.1.1.0;
          long = ltb-false (length (row l).numbers) (4 + 2 * at (row l) 3) t.1.1.0;
        }

pub graph-formed : (s : List ℕ) → text_form graph_forms s ≡ None → Each Formed (rows s)
graph-formed s h = rows-each graph_forms Formed graph_line s h

-- of the rows of a kind, by number
pub each_at : {A : Type 0} (T : A → Type 0) (xs : List A) (d : A) → Each T xs → (j : ℕ) → j < length xs → T (get_or xs j d)
each_at T [] d e j h = absurd (omega arith)
each_at T (x ∷ xs) d e zero h = e.0
each_at T (x ∷ xs) d e (suc j) h = each_at T xs d e.1 j (omega arith)

pub edge-labelled : (rs : List Row) → Each Formed rs → (j : ℕ) → j < length (those (is E) rs) → Labelled (nth (is E) rs j)
edge-labelled rs f j h =
    (each_at Formed (those (is E) rs) no_row (each-those Formed (is E) rs f) j h).0 (those-pass (is E) rs no_row j h)

pub property-labelled : (rs : List Row) → Each Formed rs → (j : ℕ) → j < length (those (is P) rs) → Labelled (nth (is P) rs j)
property-labelled rs f j h =
    (each_at Formed (those (is P) rs) no_row (each-those Formed (is P) rs f) j h).1 (those-pass (is P) rs no_row j h)
