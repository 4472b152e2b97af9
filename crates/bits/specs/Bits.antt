-- The bits of a number, and a number made of bits. Assumes nothing.
use Rattle.std.specs.Prelude.{ℕ, zero, suc, ◌+◌, ◌*◌, ◌/◌, ◌%◌, ◌^◌, Bool, eqb}
use Rattle.rules.specs.Lists.{one_if}

-- bit o of a number
unfoldable pub bit : ℕ → ℕ → Bool
bit m o = eqb (m / 2 ^ o % 2) 1

-- the number of n bits whose bit o is what p says of o
unfoldable pub bits_of : (ℕ → Bool) → ℕ → ℕ
bits_of p zero = 0
bits_of p (suc n) = one_if (p n) * 2 ^ n + bits_of p n
