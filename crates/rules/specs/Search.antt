-- "the place is the first line that offends against that check": tests, and the one search that serves every check. Assumes nothing.
use Rattle.std.specs.Prelude.{ℕ, zero, suc, ◌+◌, min, Bool, true, false, List, [], ◌∷◌, Option, None, Some}
use Rattle.rules.specs.declared.Spot.{Spot}

-- A test of a line: the field that it is about, the letter being 1, or 0 where it is about the whole line, another line or
-- something missing; and whether the line breaks it.
pub record Test : Type 0 where
  pub field : ℕ
  pub broken : Bool

infix 20 ◌#◌
abbrev pub ◌#◌ : ℕ → Bool → Test
f # b = record { field = f; broken = b }

-- A test of each of some things, the first in field f, each of the others `step` fields behind the one before.
abbrev pub test_each : {A : Type 0} → (A → Bool) → ℕ → ℕ → List A → List Test
test_each bad step f [] = []
test_each bad step f (x ∷ xs) = (f # bad x) ∷ test_each bad step (step + f) xs

-- The tests of the lines of one kind: whether a line is of that kind, and the tests.
pub record Tests : Type 0 where
  pub applies : Bool
  pub tests : List Test

abbrev pub given : Bool → List Test → Tests
given b ts = record { applies = b; tests = ts }

-- A fault is the field at fault. Of two the smaller field counts; 0 is no field of the line and gives way to one.
abbrev pub earlier : ℕ → ℕ → ℕ
earlier zero g = g
earlier (suc f) zero = suc f
earlier (suc f) (suc g) = suc (min f g)

abbrev pub worse : Option ℕ → Option ℕ → Option ℕ
worse None b = b
worse (Some f) None = Some f
worse (Some f) (Some g) = Some (earlier f g)

-- The fault of a line under some tests, none where it breaks no test.
abbrev pub fault_if : Bool → ℕ → Option ℕ
fault_if true f = Some f
fault_if false f = None

abbrev pub fault_of : List Test → Option ℕ
fault_of [] = None
fault_of (t ∷ ts) = worse (fault_if t.broken t.field) (fault_of ts)

abbrev pub fault : List Tests → Option ℕ
fault [] = None
fault (g ∷ gs) = worse (elim g.applies [ true ↦ fault_of g.tests | false ↦ None ]) (fault gs)

-- A check: the tests of a line, given the earlier lines, the latest first, and the later ones.
abbrev pub Check : Type 0 → Type 0
Check A = List A → A → List A → List Tests

abbrev pub spot : ℕ → ℕ → Spot
spot l f = record { line = l; field = f }

module _ {A : Type 0} where
  -- The first line that offends, the first of these lines being line n, where `before` stand in front of them.
  abbrev pub first_from : Check A → List A → ℕ → List A → Option Spot
  first_from check before n [] = None
  first_from check before n (r ∷ rs) =
      elim (fault (check before r rs)) [ None ↦ first_from check (r ∷ before) (suc n) rs | Some f ↦ Some (spot n f) ]

  -- "Lines are counted from 1."
  abbrev pub first_line : Check A → List A → Option Spot
  first_line check rs = first_from check [] 1 rs

-- Place 0, where a whole text offends.
abbrev pub whole : Bool → Option Spot
whole true = Some (spot 0 0)
whole false = None

-- A whole text is tested before its lines.
abbrev pub or_else : Option Spot → Option Spot → Option Spot
or_else None q = q
or_else (Some p) q = Some p
