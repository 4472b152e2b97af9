-- `bits::has_bit` meets its contract: the lowest bit of what is shifted down is its rest by 2, and from 64 on nothing stands. Assumes nothing.
use Prim.Native.Nat.{ℕ, ◌/◌, ◌^◌}
use mathlib.Core.Path.{sym, ap, ◌∙◌}
use lib.Dec.{eqb}
use lib.Bits.{and_mask}
use borrow.Author.Tests.{le-ltb}
use Rattle.bits.specs.Bits.{bit}
use Rattle.bits.proofs.Laws.{bit_above}
use Rattle.bits.proofs.has_bit.Goals as goal

pub returns-then-o-lt64 : goal.returns-then-o-lt64
unfolding bit
returns-then-o-lt64 c = ap (λ (x : ℕ). eqb x 1) (and_mask (c.args.m / 2 ^ c.args.o) 1)

pub returns-else-o-lt64 : goal.returns-else-o-lt64
returns-else-o-lt64 c =
    le-ltb c.args.o 64 c.if-o-lt64.false ∙ sym (bit_above c.args.m 64 c.args.o c.ranges.m.fits c.if-o-lt64.false)
