-- Tests that are joined by &&, || and not; options. Assumes nothing.
use mathlib.Core.Path.{◌≡◌, refl, sym, subst}
use mathlib.Core.Bool.{Bool, true, false, ◌&&◌, ◌||◌, true≢false, false≢true}
use Rattle.std.specs.Prelude.{Option, None, Some}

pub or_left : (a b : Bool) → (a || b) ≡ false → a ≡ false
or_left true b h = h
or_left false b h = refl

pub or_right : (a b : Bool) → (a || b) ≡ false → b ≡ false
or_right true b h = absurd (true≢false h)
or_right false b h = h

pub or-false : {a b : Bool} → a ≡ false → b ≡ false → (a || b) ≡ false
or-false {a} {b} p q = rw (p, q)

pub and_right : (a b : Bool) → (a && b) ≡ false → a ≡ true → b ≡ false
and_right true b h t = h
and_right false b h t = absurd (false≢true t)

pub and-true_left : (a b : Bool) → (a && b) ≡ true → a ≡ true
and-true_left true b h = refl
and-true_left false b h = absurd (false≢true h)

pub and-true_right : (a b : Bool) → (a && b) ≡ true → b ≡ true
and-true_right true b h = h
and-true_right false b h = absurd (false≢true h)

pub and-true : {a b : Bool} → a ≡ true → b ≡ true → (a && b) ≡ true
and-true {a} {b} p q = rw (p, q)

pub clash : {b : Bool} → b ≡ true → b ≡ false → ⊥
clash {b} p q = true≢false (rw p at q)

abbrev Nothing : {A : Type 0} → Option A → Type 0
Nothing None = Unit {0}
Nothing (Some a) = ⊥

pub some-none : {A : Type 0} {a : A} → Path (Option A) (Some a) None → ⊥
some-none {A} p = subst Nothing (sym p) tt

-- two options with a value are equal only where the values are
pub some-same : {A : Type 0} (x y : A) → Path (Option A) (Some x) (Some y) → x ≡ y
some-same x y h = cc
