-- Zeroing depends on the length alone. Assumes nothing.
use Prim.Native.Nat.{ℕ}
use mathlib.Core.Path.{◌≡◌, ap, ◌∙◌}
use mathlib.Core.List.{List}
use lib.ListN.{length, replicate}
use Rattle.sodgravel.specs.Cleared.{cleared}

pub cleared_as : (a b c : List ℕ) → c ≡ cleared b → length b ≡ length a → c ≡ cleared a
unfolding cleared
cleared_as a b c e h = e ∙ ap (λ (n : ℕ). replicate n 0) h
