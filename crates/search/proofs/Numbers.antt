-- The numbers of the checks of lines: each is one that the search is for, and no two are the same. Assumes nothing.
use Rattle.std.specs.Prelude.{ℕ, cond, eqb}
use mathlib.Core.Path.{◌≡◌, refl, sym, ap, ◌∙◌}
use Rattle.search.specs.Search.{row_number, SearchedFor}
use Rattle.search.specs.declared.RowCheck.{RowCheck}
use Rattle.search.specs.declared.RowCheck.TheVariants.{SchemaSize, SchemaNumbers, PairTwice, FieldMissing, EmptyUnion, GraphSize}
use Rattle.search.specs.declared.RowCheck.TheVariants.{GraphNumbers, NotOwned, WrongType, SecondTarget, Twin, QuerySize}
use Rattle.search.proofs.Splitting.{Searched, by_11, by_12, by_13, by_14, by_15, by_21, by_22, by_23, by_24, by_25, by_26, by_31}

pub searched : (check : RowCheck) → Searched (row_number check)
searched SchemaSize = by_11
searched SchemaNumbers = by_12
searched PairTwice = by_13
searched FieldMissing = by_14
searched EmptyUnion = by_15
searched GraphSize = by_21
searched GraphNumbers = by_22
searched NotOwned = by_23
searched WrongType = by_24
searched SecondTarget = by_25
searched Twin = by_26
searched QuerySize = by_31

for_each : {n : ℕ} → Searched n → SearchedFor n
unfolding SearchedFor
for_each by_11 = refl
for_each by_12 = refl
for_each by_13 = refl
for_each by_14 = refl
for_each by_15 = refl
for_each by_21 = refl
for_each by_22 = refl
for_each by_23 = refl
for_each by_24 = refl
for_each by_25 = refl
for_each by_26 = refl
for_each by_31 = refl

pub searched_for : (check : RowCheck) → SearchedFor (row_number check)
searched_for check = for_each (searched check)

-- the check with a number
check_of : ℕ → RowCheck
check_of n =
    cond (eqb n 11) SchemaSize
    (cond (eqb n 12) SchemaNumbers
    (cond (eqb n 13) PairTwice
    (cond (eqb n 14) FieldMissing
    (cond (eqb n 15) EmptyUnion
    (cond (eqb n 21) GraphSize
    (cond (eqb n 22) GraphNumbers
    (cond (eqb n 23) NotOwned
    (cond (eqb n 24) WrongType (cond (eqb n 25) SecondTarget (cond (eqb n 26) Twin QuerySize))))))))))

check_is : (check : RowCheck) → check_of (row_number check) ≡ check
unfolding check_of
check_is SchemaSize = refl
check_is SchemaNumbers = refl
check_is PairTwice = refl
check_is FieldMissing = refl
check_is EmptyUnion = refl
check_is GraphSize = refl
check_is GraphNumbers = refl
check_is NotOwned = refl
check_is WrongType = refl
check_is SecondTarget = refl
check_is Twin = refl
check_is QuerySize = refl

-- other checks have other numbers
pub other_number : {check other : RowCheck} → (check ≡ other → ⊥) → row_number check ≡ row_number other → ⊥
other_number {check} {other} differ same = differ (sym (check_is check) ∙ ap check_of same ∙ check_is other)
