-- What checks 32 to 34 say of one entry. Assumes nothing.
use Rattle.std.specs.Prelude.{ℕ, zero, suc, List, [], ◌∷◌, Bool, true, ◌&&◌, not, cond, eqb, ltb, Option}
use Rattle.rules.specs.Text.{Row, F, T, pairs_of}
use Rattle.rules.specs.Search.{◌#◌, test_each, given, Check, fault_of, fault}
use Rattle.rules.specs.Schema.{Schema, is, declared_arg, is_scalar, field_type, owns_fields, has_field, takes_arg}
use Rattle.rules.specs.Query.{depth, asked, condition, has_child, steps, check33, check34}
use Rattle.rules.specs.declared.ArgNo.{ArgNo}
use Rattle.rules.specs.declared.FieldNo.{FieldNo}
use Rattle.rules.specs.declared.TypeNo.{TypeNo}
use Rattle.tables.specs.Read.{schema_at}
use Rattle.query.specs.Entries.{entry_at, behind}
use Rattle.query.specs.declared.EntryCheck.{EntryCheck}
use Rattle.query.specs.declared.EntryCheck.TheVariants.{Depths, Numbers, Validity}

-- 32, where the entry may be at most d deep
unfoldable pub fault32 : List ℕ → ℕ → ℕ → Option ℕ
fault32 q k d =
    let r = entry_at q k in
    fault (given true ((2 # ltb d (depth r)) ∷ []) ∷ given (is T r) ((0 # not (has_child r (behind q k))) ∷ []) ∷ [])

unfoldable pub fault33 : List ℕ → List ℕ → ℕ → Option ℕ
fault33 a q k = fault (check33 (schema_at a) [] (entry_at q k) [])

-- 34, where the context is c
unfoldable pub fault34 : List ℕ → List ℕ → ℕ → TypeNo → Option ℕ
fault34 a q k c =
    let s = schema_at a in
    let r = entry_at q k in
    let leaf = is_scalar s (field_type s c (asked r)) in
    fault
    (given (is F r)
    ((4 # not (owns_fields s c && has_field s c (asked r)))
    ∷ (0 # (leaf && has_child r (behind q k)))
    ∷ (0 # (not leaf && not (has_child r (behind q k))))
    ∷ test_each (λ p. not (takes_arg s (asked r) p.arg)) 2 6 (pairs_of r))
    ∷ given (is T r) ((3 # is_scalar s (condition r)) ∷ [])
    ∷ [])

-- the number of a check of entries
abbrev pub entry_number : EntryCheck → ℕ
entry_number Depths = 32
entry_number Numbers = 33
entry_number Validity = 34

-- the check that a number means; any other number is taken for 34
abbrev pub entry_check : ℕ → EntryCheck
entry_check n = cond (eqb n 32) Depths (cond (eqb n 33) Numbers Validity)

-- whether an argument passes a check, as one of field f: 33 asks that it is declared, 34 that the field takes it
unfoldable pub arg_passes : EntryCheck → Schema → FieldNo → ArgNo → Bool
arg_passes n s f x = cond (eqb (entry_number n) 33) (declared_arg s x) (takes_arg s f x)

-- the first argument of an entry that does not, at its field
unfoldable pub args_fault : EntryCheck → List ℕ → List ℕ → ℕ → FieldNo → Option ℕ
args_fault n a q k f = fault_of (test_each (λ p. not (arg_passes n (schema_at a) f p.arg)) 2 6 (pairs_of (entry_at q k)))

-- what a check says of an entry
unfoldable pub fault_for : EntryCheck → List ℕ → List ℕ → ℕ → ℕ → TypeNo → Option ℕ
fault_for n a q k d c = cond (eqb (entry_number n) 32) (fault32 q k d) (cond (eqb (entry_number n) 33) (fault33 a q k) (fault34 a q k c))

-- t in every place of a list from i on
unfoldable pub put_from : {A : Type 0} → ℕ → A → List A → List A
put_from i t [] = []
put_from zero t (x ∷ xs) = t ∷ put_from zero t xs
put_from (suc i) t (x ∷ xs) = x ∷ put_from i t xs

-- a check of entries, for the search
unfoldable pub check_for : EntryCheck → Schema → Check Row
check_for n s = cond (eqb (entry_number n) 32) steps (cond (eqb (entry_number n) 33) (check33 s) (check34 s))
