-- The fault of a line, one group of tests after another. Assumes nothing.
use Prim.Native.Nat.{ℕ}
use mathlib.Core.Path.{◌≡◌, refl, ap, ◌∙◌}
use mathlib.Core.Bool.{Bool, true, false, ◌&&◌}
use mathlib.Core.List.{List, [], ◌∷◌}
use Rattle.std.specs.Prelude.{Option, None, Some}
use Rattle.rules.specs.Search.{Test, ◌#◌, worse, fault_if, fault_of}

-- no fault beside a fault
pub worse-none : (o : Option ℕ) → worse o None ≡ o
worse-none None = refl
worse-none (Some f) = refl

-- the fault of one group: whether it applies, and its tests
abbrev pub grouped : Bool → List Test → Option ℕ
grouped b ts = elim b [ true ↦ fault_of ts | false ↦ None ]

-- a group of one test
pub one_test : (b t : Bool) (f : ℕ) → grouped b ((f # t) ∷ []) ≡ fault_if (b && t) f
one_test true true f = refl
one_test true false f = refl
one_test false t f = refl

-- a group that is alone
pub one_group : (b t : Bool) (f : ℕ) → worse (grouped b ((f # t) ∷ [])) None ≡ fault_if (b && t) f
one_group b t f = worse-none (grouped b ((f # t) ∷ [])) ∙ one_test b t f

-- two lists of tests that are the same wherever their group applies
pub same_group : (b : Bool) (ts us : List Test) → (b ≡ true → ts ≡ us) → grouped b ts ≡ grouped b us
same_group true ts us e = ap fault_of (e refl)
same_group false ts us e = refl
