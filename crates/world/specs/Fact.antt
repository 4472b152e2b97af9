-- That the masks stand is a fact, and no choice. Assumes nothing.
use Rattle.std.specs.Prelude.{ℕ, List}
use Rattle.std.proofs.Props.{props}
use Rattle.masks.specs.Masks.{Masked}

pub masked_prop : (a : List ℕ) → IsProp (Masked a)
unfolding Masked
masked_prop a = hlevel props
