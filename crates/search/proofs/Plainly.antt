-- The checks of a line and the counts alone: 11, 21 and 31. Assumes nothing.
use Prim.Native.Nat.{ℕ, ◌+◌, ◌*◌, ◌-◌, ◌≤◌, ◌<◌}
use native.Mathlib.Omega.{arith}
use mathlib.Core.Path.{◌≡◌, refl, sym, ap, ◌∙◌}
use mathlib.Core.Bool.{Bool, true, false, ◌&&◌, ◌||◌, cond}
use Rattle.std.specs.Prelude.{Option, None, Some}
use Rattle.std.specs.Bool.{then_some}
use lib.Dec.{leb, ltb, eqb}
use borrow.Author.Tests.{lt-ltb, le-ltb, le-leb, lt-leb}
use Rattle.rules.specs.Text.{P}
use Rattle.rules.specs.Search.{worse, fault_if}
use Rattle.tables.specs.Layout.{belongs}
use Rattle.tables.specs.Fill.{lettered, values_in}
use Rattle.search.specs.declared.Counts.{Counts}
use Rattle.search.specs.Search.{full, alone11, alone21, alone31}

-- ---- tests of the whole line: any of them

whole-line : (a b : Bool) → worse (fault_if a 0) (fault_if b 0) ≡ fault_if (a || b) 0
whole-line true true = refl
whole-line true false = refl
whole-line false b = refl

-- the first two as one
first-two : (a b : Bool) (o : Option ℕ) → worse (fault_if a 0) (worse (fault_if b 0) o) ≡ worse (fault_if (a || b) 0) o
first-two true true None = refl
first-two true true (Some f) = refl
first-two true false o = refl
first-two false b o = refl

-- The code asks the tests one after another, up to one that is passed.
module _ {answer asked first : Bool} (is : asked ≡ first) where
  pub passed : (later : Bool) → answer ≡ asked → asked ≡ true → answer ≡ (first || later)
  passed later e t = e ∙ rw (← is, t)

  pub not_passed : {later : Bool} → answer ≡ later → asked ≡ false → answer ≡ (first || later)
  not_passed e f = e ∙ rw (← is, f)

flagged : (b : Bool) → then_some b 0 ≡ fault_if b 0
flagged true = refl
flagged false = refl

-- whether a maximum is passed
abbrev pub passes : ℕ → ℕ → ℕ → ℕ → Bool
passes k most count l = belongs k (lettered l) && leb most count

-- of 11: whether any of the six is
abbrev pub eleven : Counts → ℕ → Bool
eleven c l =
    ((((passes 1 64 c.types l || passes 2 128 c.fields l) || passes 3 64 c.args l) || passes 4 1024 c.has l)
    || passes 5 1024 c.takes l)
    || passes 6 1024 c.members l

pub by_eleven : (c : Counts) (l : ℕ) {b : Bool} → b ≡ eleven c l → then_some b 0 ≡ alone11 c l
unfolding alone11 full
by_eleven c l {b} e =
    flagged b
    ∙ ap (λ (t : Bool). fault_if t 0) e
    ∙ sym (first-two (passes 1 64 c.types l) (passes 2 128 c.fields l) _
    ∙ first-two _ (passes 3 64 c.args l) _
    ∙ first-two _ (passes 4 1024 c.has l) _
    ∙ first-two _ (passes 5 1024 c.takes l) _
    ∙ whole-line _ (passes 6 1024 c.members l))

-- of 21: whether a maximum of a table is, or that of the values
abbrev pub many_values : Counts → ℕ → ℕ → ℕ → Bool
many_values c l count n = eqb l P && ltb 8192 (values_in l count n + c.values)

abbrev pub twenty_one : Counts → ℕ → ℕ → ℕ → Bool
twenty_one c l count n =
    ((passes 7 512 c.nodes l || passes 8 1024 c.edges l) || passes 9 1024 c.properties l) || many_values c l count n

pub by_twenty_one : (c : Counts) (l count n : ℕ) {b : Bool} → b ≡ twenty_one c l count n → then_some b 0 ≡ alone21 c l count n
unfolding alone21 full
by_twenty_one c l count n {b} e =
    flagged b
    ∙ ap (λ (t : Bool). fault_if t 0) e
    ∙ sym (first-two (passes 7 512 c.nodes l) (passes 8 1024 c.edges l) _
    ∙ first-two _ (passes 9 1024 c.properties l) _
    ∙ whole-line _ (many_values c l count n))

pub values-most : (l count n : ℕ) → values_in l count n ≤ count
unfolding values_in
values-most l count n = go (eqb l P)
  where
    go : (b : Bool) → cond b (count - (4 + 2 * n)) 0 ≤ count
    go true = omega arith
    go false = omega arith

-- ---- 31

pub deep : (c : Counts) (d : ℕ) → 15 < d → Some 2 ≡ alone31 c d
unfolding alone31
deep c d h = go (leb 256 c.lines)
  where
    go : (b : Bool) → Some 2 ≡ (worse (fault_if b 0) (fault_if (ltb 15 d) 2))
    go true = rw (lt-ltb 15 d h)
    go false = rw (lt-ltb 15 d h)

pub many : (c : Counts) (d : ℕ) → d ≤ 15 → 256 ≤ c.lines → Some 0 ≡ alone31 c d
unfolding alone31
many c d h k = rw (le-ltb 15 d h, le-leb 256 c.lines k)

pub few : (c : Counts) (d : ℕ) → d ≤ 15 → c.lines < 256 → None ≡ alone31 c d
unfolding alone31
few c d h k = rw (le-ltb 15 d h, lt-leb 256 c.lines k)
