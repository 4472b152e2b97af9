-- A search that finds nothing: no test of any line is broken, and the other way round. Assumes nothing.
use Prim.Native.Nat.{ℕ, zero, suc, ◌+◌}
use mathlib.Core.Path.{◌≡◌, refl}
use mathlib.Core.Bool.{Bool, true, false, false≢true}
use mathlib.Core.List.{List, [], ◌∷◌, ◌++◌}
use Rattle.std.specs.Prelude.{Option, None, Some}
use lib.ListN.{drop}
use Rattle.rules.specs.Lists.{those, keep_if}
pub use Rattle.rules.specs.Lists.{Each}
use Rattle.rules.specs.Search.{Test, test_each, Tests, worse, fault_if, fault_of, fault, Check, first_from, whole, or_else}
use Rattle.rules.specs.declared.Spot.{Spot}
use Rattle.rules.proofs.Bools.{some-none}

-- ---- the tests of one line

pub worse_left : (a b : Option ℕ) → worse a b ≡ None → a ≡ None
worse_left None b h = refl
worse_left (Some f) None h = h
worse_left (Some f) (Some g) h = absurd (some-none h)

pub worse_right : (a b : Option ℕ) → worse a b ≡ None → b ≡ None
worse_right None b h = h
worse_right (Some f) None h = refl
worse_right (Some f) (Some g) h = absurd (some-none h)

not-broken : (b : Bool) (f : ℕ) → fault_if b f ≡ None → b ≡ false
not-broken true f h = absurd (some-none h)
not-broken false f h = refl

-- no test of a list is broken
abbrev pub Silent : List Test → Type 0
Silent [] = Unit {0}
Silent (t ∷ ts) = (t.broken ≡ false) × Silent ts

pub silent : (ts : List Test) → fault_of ts ≡ None → Silent ts
silent [] h = tt
silent (t ∷ ts) h = (
  not-broken t.broken t.field (worse_left (fault_if t.broken t.field) (fault_of ts) h),
  silent ts (worse_right (fault_if t.broken t.field) (fault_of ts) h),
)

pub from-silent : (ts : List Test) → Silent ts → fault_of ts ≡ None
from-silent [] s = refl
from-silent (t ∷ ts) s = rw (s.0, fault_if) (from-silent ts s.1)

pub silent_left : (ts us : List Test) → Silent (ts ++ us) → Silent ts
silent_left [] us s = tt
silent_left (t ∷ ts) us s = (s.0, silent_left ts us s.1)

pub silent_right : (ts us : List Test) → Silent (ts ++ us) → Silent us
silent_right [] us s = s
silent_right (t ∷ ts) us s = silent_right ts us s.1

pub silent-append : (ts us : List Test) → Silent ts → Silent us → Silent (ts ++ us)
silent-append [] us s r = r
silent-append (t ∷ ts) us s r = (s.0, silent-append ts us s.1 r)

-- ---- the tests of one line, kind by kind

abbrev pub Calm : List Tests → Type 0
Calm [] = Unit {0}
Calm (g ∷ gs) = (g.applies ≡ true → Silent g.tests) × Calm gs

abbrev group_fault : Bool → List Test → Option ℕ
group_fault b ts = elim b [ true ↦ fault_of ts | false ↦ None ]

quiet : (b : Bool) (ts : List Test) → group_fault b ts ≡ None → b ≡ true → Silent ts
quiet true ts h t = silent ts h
quiet false ts h t = absurd (false≢true t)

from-quiet : (b : Bool) (ts : List Test) → (b ≡ true → Silent ts) → group_fault b ts ≡ None
from-quiet true ts q = from-silent ts (q refl)
from-quiet false ts q = refl

pub calm : (gs : List Tests) → fault gs ≡ None → Calm gs
calm [] h = tt
calm (g ∷ gs) h = (
  quiet g.applies g.tests (worse_left (group_fault g.applies g.tests) (fault gs) h),
  calm gs (worse_right (group_fault g.applies g.tests) (fault gs) h),
)

pub from-calm : (gs : List Tests) → Calm gs → fault gs ≡ None
from-calm [] c = refl
from-calm (g ∷ gs) c = rw (from-quiet g.applies g.tests c.0) (from-calm gs c.1)

-- ---- the lines

module _ {A : Type 0} where
  pub each_map : (P Q : A → Type 0) → ((x : A) → P x → Q x) → (xs : List A) → Each P xs → Each Q xs
  each_map P Q f [] e = tt
  each_map P Q f (x ∷ xs) e = (f x e.0, each_map P Q f xs e.1)

  pub each_append : (P : A → Type 0) (xs ys : List A) → Each P xs → Each P ys → Each P (xs ++ ys)
  each_append P [] ys a b = b
  each_append P (x ∷ xs) ys a b = (a.0, each_append P xs ys a.1 b)

  pub each-drop : (P : A → Type 0) (n : ℕ) (xs : List A) → Each P xs → Each P (drop n xs)
  each-drop P zero xs a = a
  each-drop P (suc n) [] a = tt
  each-drop P (suc n) (x ∷ xs) a = each-drop P n xs a.1

  pub each-those : (P : A → Type 0) (p : A → Bool) (xs : List A) → Each P xs → Each P (those p xs)
  each-those P p [] a = tt
  each-those P p (x ∷ xs) a = go (each-those P p xs a.1) (p x)
    where
      go : Each P (those p xs) → (b : Bool) → Each P (keep_if b x (those p xs))
      go ih true = (a.0, ih)
      go ih false = ih

  pub each-silent : (bad : A → Bool) (step f : ℕ) (xs : List A) → Silent (test_each bad step f xs) → Each (λ x. bad x ≡ false) xs
  each-silent bad step f [] s = tt
  each-silent bad step f (x ∷ xs) s = (s.0, each-silent bad step (step + f) xs s.1)

  pub silent-each : (bad : A → Bool) (step f : ℕ) (xs : List A) → Each (λ x. bad x ≡ false) xs → Silent (test_each bad step f xs)
  silent-each bad step f [] s = tt
  silent-each bad step f (x ∷ xs) s = (s.0, silent-each bad step (step + f) xs s.1)

  -- no line offends, where `before` stand in front of the lines
  abbrev pub Clean : Check A → List A → List A → Type 0
  Clean check before [] = Unit {0}
  Clean check before (r ∷ rs) = Calm (check before r rs) × Clean check (r ∷ before) rs

  pub clean : (check : Check A) (before : List A) (n : ℕ) (rs : List A) → first_from check before n rs ≡ None → Clean check before rs
  clean check before n [] h = tt
  clean check before n (r ∷ rs) h = go (λ k. clean check (r ∷ before) (suc n) rs k) (fault (check before r rs)) refl
    where
      go : (first_from check (r ∷ before) (suc n) rs ≡ None → Clean check (r ∷ before) rs) → (o : Option ℕ)
          → fault (check before r rs) ≡ o → Calm (check before r rs) × Clean check (r ∷ before) rs
      go ih None e = (calm (check before r rs) e, ih (rw (e, first_from) at h))
      go ih (Some f) e = absurd (some-none (rw (e, first_from) at h))

  pub from-clean : (check : Check A) (before : List A) (n : ℕ) (rs : List A) → Clean check before rs → first_from check before n rs ≡ None
  from-clean check before n [] c = refl
  from-clean check before n (r ∷ rs) c =
      rw (from-calm (check before r rs) c.0, first_from) (from-clean check (r ∷ before) (suc n) rs c.1)

  pub clean-each : (check : Check A) (P : A → Type 0) → ((before : List A) (r : A) (after : List A) → Calm (check before r after) → P r)
      → (before rs : List A) → Clean check before rs → Each P rs
  clean-each check P f before [] c = tt
  clean-each check P f before (r ∷ rs) c = (f before r rs c.0, clean-each check P f (r ∷ before) rs c.1)

-- ---- whole texts

pub whole-none : (b : Bool) → whole b ≡ None → b ≡ false
whole-none true h = absurd (some-none h)
whole-none false h = refl

pub or_else_none : (a b : Option Spot) → or_else a b ≡ None → b ≡ None
or_else_none None b h = h
or_else_none (Some p) b h = absurd (some-none h)
