-- The query's rows, and checks 31 to 34. Assumes nothing.
use Rattle.std.specs.Prelude.{ℕ, suc, Bool, true, false, ◌&&◌, ◌||◌, not, List, [], ◌∷◌, leb, ltb, eqb, length, Option}
use Rattle.rules.specs.Lists.{is_empty}
use Rattle.rules.specs.Text.{Row, at, F, T, pairs_of, field_no, type_no}
use Rattle.rules.specs.Search.{◌#◌, test_each, given, Check, first_line, whole, or_else}
use Rattle.rules.specs.Schema.{Schema, is, declared_type, declared_field, declared_arg, field_type, has_field, takes_arg, query_type, is_scalar, owns_fields}
use Rattle.rules.specs.declared.FieldNo.{FieldNo}
use Rattle.rules.specs.declared.TypeNo.{TypeNo}
use Rattle.rules.specs.declared.Spot.{Spot}

-- "`F` depth label field n pairs: a field" and "`T` depth type: a type condition"
abbrev pub depth : Row → ℕ
depth r = at r 0

abbrev pub shown_as : Row → ℕ
shown_as r = at r 1

abbrev pub asked : Row → FieldNo
asked r = field_no (at r 2)

abbrev pub condition : Row → TypeNo
condition r = type_no (at r 1)

-- "An entry's children are the lines one deeper that stand between it and the next line no deeper than it, or the end."
abbrev pub has_child : Row → List Row → Bool
has_child r [] = false
has_child r (n ∷ after) =
    elim (leb (depth n) (depth r)) [ true ↦ false | false ↦ eqb (depth n) (suc (depth r)) || has_child r after ]

-- 31: "more than 256 entries, or depth above 15"
abbrev pub check31 : Check Row
check31 before r after = given true ((0 # leb 256 (length before)) ∷ (2 # ltb 15 (depth r)) ∷ []) ∷ []

-- the deepest that the next line may be: 0 for the first, and one below the line before it
abbrev pub deepest : List Row → ℕ
deepest [] = 0
deepest (e ∷ before) = suc (depth e)

-- 32: "no entries (place 0); first depth not 0; depth more than one above the line before; type condition without child"
abbrev pub steps : Check Row
steps before r after =
    given true ((2 # ltb (deepest before) (depth r)) ∷ []) ∷ given (is T r) ((0 # not (has_child r after)) ∷ []) ∷ []

abbrev pub check32 : List Row → Option Spot
check32 q = or_else (whole (is_empty q)) (first_line steps q)

-- 33: "number not declared; label above 255"
abbrev pub check33 : Schema → Check Row
check33 s before r after =
    given (is F r)
    ((3 # ltb 255 (shown_as r))
    ∷ (4 # not (declared_field s (asked r)))
    ∷ test_each (λ p. not (declared_arg s p.arg)) 2 6 (pairs_of r))
    ∷ given (is T r) ((3 # not (declared_type s (condition r))) ∷ [])
    ∷ []

-- "The first context is the query type." A line at depth d stands in the context that the latest earlier line that is less
-- deep hands down: "its children's context is the field's type", "A type condition's children have that type as context".
abbrev pub hands_down : Schema → TypeNo → Row → TypeNo
hands_down s c e = elim (is F e) [ true ↦ field_type s c (asked e) | false ↦ condition e ]

abbrev pub context : Schema → ℕ → List Row → TypeNo
context s d [] = query_type s
context s d (e ∷ before) =
    elim (ltb (depth e) d) [ true ↦ hands_down s (context s (depth e) before) e | false ↦ context s d before ]

-- 34: "A field needs a context that is object or interface and has it; its arguments must be the field's. A field of scalar
-- type has no child; any other has at least one"; "A type condition on a scalar is 34."
abbrev pub check34 : Schema → Check Row
check34 s before r after =
    let c = context s (depth r) before in
    let leaf = is_scalar s (field_type s c (asked r)) in
    given (is F r)
    ((4 # not (owns_fields s c && has_field s c (asked r)))
    ∷ (0 # (leaf && has_child r after))
    ∷ (0 # (not leaf && not (has_child r after)))
    ∷ test_each (λ p. not (takes_arg s (asked r) p.arg)) 2 6 (pairs_of r))
    ∷ given (is T r) ((3 # is_scalar s (condition r)) ∷ [])
    ∷ []
