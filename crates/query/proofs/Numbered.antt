-- Which check of the entries is meant by its number. Assumes nothing.
use Prim.Native.Nat.{ℕ}
use mathlib.Core.Path.{◌≡◌, ap, ◌∙◌}
use mathlib.Core.Bool.{cond}
use lib.Dec.{eqb}
use Rattle.rules.specs.Text.{Row}
use Rattle.rules.specs.Search.{Check}
use Rattle.rules.specs.Schema.{Schema}
use Rattle.rules.specs.Query.{steps, check33, check34}
use Rattle.rules.proofs.Told.{chosen}
use Rattle.query.specs.declared.EntryCheck.{EntryCheck}
use Rattle.query.specs.declared.EntryCheck.TheVariants.{Depths, Numbers, Validity}
use Rattle.query.specs.Faults.{check_for, entry_check}

-- Any number will do: 32 and 33 are themselves, and every other is taken for 34.
module _ (s : Schema) where
  abbrev of : EntryCheck → Check Row
  of k = check_for k s

  pub checks_by_number : (n : ℕ) → check_for (entry_check n) s ≡ cond (eqb n 32) steps (cond (eqb n 33) (check33 s) (check34 s))
  unfolding check_for
  checks_by_number n =
      chosen of (eqb n 32) Depths _
      ∙ ap (cond (eqb n 32) steps) (chosen of (eqb n 33) Numbers Validity)
