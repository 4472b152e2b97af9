-- Faults: of two the worse, of some tests the worst, and from which field on a fault can be. Assumes nothing.
use Prim.Native.Nat.{ℕ, zero, suc, min, ◌+◌, ◌≤◌, ◌<◌}
use mathlib.Core.Path.{◌≡◌, refl, sym, ap, ◌∙◌}
use mathlib.Core.Bool.{Bool, true, false, not}
use mathlib.Core.List.{List, [], ◌∷◌, ◌++◌}
use Rattle.std.specs.Prelude.{Option, None, Some, max}
use Rattle.std.specs.Bool.{then_some}
use native.Mathlib.Omega.{arith}
use lib.Dec.{ltb, eqb}
use borrow.Author.Tests.{eq-eqb, ne_eqb}
use mathlib.Core.Logic.{◌⊎◌, ⊎_elim}
use Rattle.rules.specs.Text.{Pair}
use Rattle.rules.specs.Search.{Test, test_each, earlier, worse, fault_if, fault_of}
use Rattle.rules.specs.Forms.{rising, rising_pairs}
use Rattle.rules.specs.declared.TextKind.{TextKind}
use Rattle.text.specs.declared.Row.{Row}
use Rattle.form.specs.Form.{form_fault, line_fault}

-- ---- the algebra

pub worse-none : (a : Option ℕ) → worse a None ≡ a
worse-none None = refl
worse-none (Some f) = refl

earlier_assoc : (f g h : ℕ) → earlier (earlier f g) h ≡ earlier f (earlier g h)
earlier_assoc zero g h = refl
earlier_assoc (suc f) zero h = refl
earlier_assoc (suc f) (suc g) zero = refl
earlier_assoc (suc f) (suc g) (suc h) = omega arith

earlier_comm : (f g : ℕ) → earlier f g ≡ earlier g f
earlier_comm zero zero = refl
earlier_comm zero (suc g) = refl
earlier_comm (suc f) zero = refl
earlier_comm (suc f) (suc g) = omega arith

pub worse_assoc : (a b c : Option ℕ) → worse (worse a b) c ≡ worse a (worse b c)
worse_assoc None b c = refl
worse_assoc (Some f) None c = refl
worse_assoc (Some f) (Some g) None = refl
worse_assoc (Some f) (Some g) (Some h) = ap Some (earlier_assoc f g h)

pub worse_comm : (a b : Option ℕ) → worse a b ≡ worse b a
worse_comm None b = sym (worse-none b)
worse_comm (Some f) None = refl
worse_comm (Some f) (Some g) = ap Some (earlier_comm f g)

pub fault-append : (ts us : List Test) → fault_of (ts ++ us) ≡ worse (fault_of ts) (fault_of us)
fault-append [] us = refl
fault-append (t ∷ ts) us =
    ap (worse (fault_if t.broken t.field)) (fault-append ts us)
    ∙ sym (worse_assoc (fault_if t.broken t.field) (fault_of ts) (fault_of us))

-- ---- the whole line's fault gives way to a field's

pub gives_way : (w : Bool) (k : ℕ) → worse (fault_if w 0) (Some (suc k)) ≡ Some (suc k)
gives_way true k = refl
gives_way false k = refl

pub stays : (w : Bool) (k : ℕ) → worse (Some (suc k)) (fault_if w 0) ≡ Some (suc k)
stays true k = refl
stays false k = refl

pub gives_way_to : (w : Bool) (k : ℕ) (x : Option ℕ) → worse (fault_if w 0) (worse (Some (suc k)) x) ≡ worse (Some (suc k)) x
gives_way_to w k x = sym (worse_assoc (fault_if w 0) (Some (suc k)) x) ∙ ap (λ (o : Option ℕ). worse o x) (gives_way w k)

pub same-twice : (w : Bool) → worse (fault_if w 0) (Some 0) ≡ Some 0
same-twice true = refl
same-twice false = refl

-- ---- a fault from field k on

abbrev pub From : ℕ → Option ℕ → Type 0
From k None = Unit {0}
From k (Some f) = k ≤ f

pub from_less : (j k : ℕ) (o : Option ℕ) → j ≤ k → From k o → From j o
from_less j k None h w = tt
from_less j k (Some f) h w = omega arith

pub worse-from : (k : ℕ) (a b : Option ℕ) → From k a → From k b → From k (worse a b)
worse-from k None b v w = w
worse-from k (Some f) None v w = v
worse-from k (Some zero) (Some g) v w = w
worse-from k (Some (suc f)) (Some zero) v w = v
worse-from k (Some (suc f)) (Some (suc g)) v w = omega arith

pub if-from : (k : ℕ) (b : Bool) (f : ℕ) → k ≤ f → From k (fault_if b f)
if-from k true f h = h
if-from k false f h = tt

-- field k is worse than what comes from there on
pub wins : (k : ℕ) (o : Option ℕ) → 0 < k → From k o → worse (Some k) o ≡ Some k
wins k None h w = refl
wins zero (Some g) h w = absurd (omega arith)
wins (suc f) (Some zero) h w = refl
wins (suc f) (Some (suc g)) h w = ap Some (omega arith)

pub each_from : {X : Type 0} (bad : X → Bool) (f : ℕ) (xs : List X) → From f (fault_of (test_each bad 1 f xs))
each_from bad f [] = tt
each_from bad f (x ∷ xs) =
    worse-from f (fault_if (bad x) f) (fault_of (test_each bad 1 (1 + f) xs)) (if-from f (bad x) f (omega arith))
    (from_less f (1 + f) (fault_of (test_each bad 1 (1 + f) xs)) (omega arith) (each_from bad (1 + f) xs))

pub rising-from : (f a : ℕ) (ps : List Pair) → From f (fault_of (rising f a ps))
rising-from f a [] = tt
rising-from f a (p ∷ ps) =
    worse-from f (fault_if (not (ltb a p.arg.0)) f) (fault_of (rising (2 + f) p.arg.0 ps)) (if-from f (not (ltb a p.arg.0)) f (omega arith))
    (from_less f (2 + f) (fault_of (rising (2 + f) p.arg.0 ps)) (omega arith) (rising-from (2 + f) p.arg.0 ps))

pub pairs-from : (ps : List Pair) → From 8 (fault_of (rising_pairs ps))
pairs-from [] = tt
pairs-from (p ∷ ps) = rising-from 8 p.arg.0 ps

-- ---- the same as the code computes it

pub flagged : (r : Option ℕ) (b : Bool) (f : ℕ) → r ≡ then_some b f → r ≡ fault_if b f
flagged r true f e = e
flagged r false f e = e

pub worse-no : (a : Option ℕ) → a ≡ worse a None
worse-no a = sym (worse-none a)

pub worse_zero : (f g : ℕ) → (f ≡ 0) ⊎ ((f ≡ 0 → ⊥) × (g ≡ 0)) → Some (max f g) ≡ worse (Some f) (Some g)
worse_zero zero g o = ap Some (omega arith)
worse_zero (suc f) zero o = ap Some (omega arith)
worse_zero (suc f) (suc g) o = absurd (⊎_elim (λ e. omega arith) (λ e. omega (arith, e.1)) o)

pub worse_least : (f g : ℕ) → (f ≡ 0 → ⊥) → (g ≡ 0 → ⊥) → Some (min f g) ≡ worse (Some f) (Some g)
worse_least zero g h k = absurd (h refl)
worse_least (suc f) zero h k = absurd (k refl)
worse_least (suc f) (suc g) h k = ap Some (omega arith)

pub ruleset worse_laws = (worse-no, worse_zero, worse_least)

-- of a line with a letter
pub line_lettered : (kind : TextKind) (w : Row) (u b x y r : Option ℕ) → (w.letter ≡ 0 → ⊥)
    → u ≡ then_some (not w.ended) 0 → b ≡ then_some (not (eqb w.bad 0)) w.bad → x ≡ form_fault kind w.letter w.count w.nums
    → y ≡ worse b x → r ≡ worse u y → r ≡ line_fault kind w
unfolding line_fault
line_lettered kind w u b x y r z i j k l m =
    simp (ne_eqb w.letter 0 z) (cc (flagged u (not w.ended) 0 i, flagged b (not (eqb w.bad 0)) w.bad j))

pub line_unread : (kind : TextKind) (w : Row) → w.letter ≡ 0 → Some w.bad ≡ line_fault kind w
unfolding line_fault
line_unread kind w z = simp (eq-eqb w.letter 0 z)

pub ruleset line_laws = (line_lettered, line_unread)
