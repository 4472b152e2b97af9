-- Theorem 1, and the field at fault by examples. Assumes nothing.
use mathlib.Core.Path.{◌≡◌, refl}
use mathlib.Core.Bool.{true}
use Rattle.rules.specs.Lists.{all}
use Rattle.rules.specs.Samples.{holds, cases}
use Rattle.rules.specs.Spots.{is_at, spots}

-- P1 to P12, by computation: number, place, size, visits and the whole response buffer afterwards.
pub samples : all holds cases ≡ true
samples = refl

-- Number, line and field of each example.
pub fields-at_fault : all is_at spots ≡ true
fields-at_fault = refl
