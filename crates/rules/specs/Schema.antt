-- What a schema says (Definition 1), what its rows say, and checks 11 to 16. Assumes nothing.
use Rattle.std.specs.Prelude.{ℕ, Bool, ◌&&◌, ◌||◌, not, List, [], ◌∷◌, map, leb, ltb, eqb, length, get_or, Option}
use Rattle.rules.specs.Lists.{those, any, among}
use Rattle.rules.specs.Text.{Row, no_row, at, A, F, G, H, I, M, O, Q, S, U, field_no, arg_no, type_no}
use Rattle.rules.specs.Search.{◌#◌, Tests, given, Check, whole}
use Rattle.rules.specs.declared.FieldNo.{FieldNo}
use Rattle.rules.specs.declared.ArgNo.{ArgNo}
use Rattle.rules.specs.declared.TypeNo.{TypeNo}
use Rattle.rules.specs.declared.Spot.{Spot}

-- ---- what a schema says

-- Definition 1's assignments, asked by number. The checks and the evaluation ask nothing else of a schema, wherever it is kept.
pub record Schema : Type 0 where
  -- a type's letter, 0 where it is not declared; "scalar type with values low to high"
  pub kind : TypeNo → ℕ
  pub low : TypeNo → ℕ
  pub high : TypeNo → ℕ
  -- types_S of a field and its list mark, asked at the type that owns the field
  pub declared_field : FieldNo → Bool
  pub field_type : TypeNo → FieldNo → TypeNo
  pub list_mark : TypeNo → FieldNo → ℕ
  -- types_S of an argument
  pub declared_arg : ArgNo → Bool
  pub arg_type : ArgNo → TypeNo
  -- fields_S, "the type has the field", and all fields of a type
  pub has_field : TypeNo → FieldNo → Bool
  pub fields_of : TypeNo → List FieldNo
  -- args_S, "the field takes the argument"
  pub takes_arg : FieldNo → ArgNo → Bool
  -- union_S and implementation_S, "the union or interface has this object type", and whether it has any
  pub has_member : TypeNo → TypeNo → Bool
  pub some_member : TypeNo → Bool
  -- q_S
  pub query_type : TypeNo

module _ (s : Schema) where
  abbrev pub kind : TypeNo → ℕ
  kind t = s.kind t

  abbrev pub field_type : TypeNo → FieldNo → TypeNo
  field_type owner f = s.field_type owner f

  abbrev pub list_mark : TypeNo → FieldNo → ℕ
  list_mark owner f = s.list_mark owner f

  abbrev pub has_field : TypeNo → FieldNo → Bool
  has_field t f = s.has_field t f

  abbrev pub takes_arg : FieldNo → ArgNo → Bool
  takes_arg f a = s.takes_arg f a

  abbrev pub declared_type : TypeNo → Bool
  declared_type t = among (kind t) (S ∷ O ∷ I ∷ U ∷ [])

  abbrev pub declared_field : FieldNo → Bool
  declared_field f = s.declared_field f

  abbrev pub declared_arg : ArgNo → Bool
  declared_arg a = s.declared_arg a

  abbrev pub arg_type : ArgNo → TypeNo
  arg_type a = s.arg_type a

  abbrev pub query_type : TypeNo
  query_type = s.query_type

  abbrev pub is_scalar : TypeNo → Bool
  is_scalar t = eqb (kind t) S

  abbrev pub is_object : TypeNo → Bool
  is_object t = eqb (kind t) O

  -- an object or interface type, to which fields_S assigns fields
  abbrev pub owns_fields : TypeNo → Bool
  owns_fields t = among (kind t) (O ∷ I ∷ [])

  -- a union or interface type, to which union_S or implementation_S assigns object types
  abbrev pub has_members : TypeNo → Bool
  has_members t = among (kind t) (U ∷ I ∷ [])

  abbrev pub is_list : TypeNo → FieldNo → Bool
  is_list owner f = eqb (list_mark owner f) 1

  abbrev pub in_range : TypeNo → ℕ → Bool
  in_range t x = leb (s.low t) x && leb x (s.high t)

  -- "Object type o is compatible with t when o is t, or an `M` record gives t the object o."
  abbrev pub compatible : TypeNo → TypeNo → Bool
  compatible o t = eqb o.0 t.0 || s.has_member t o

-- ---- what rows say: "Things are numbered from 0 in the order of their records"

abbrev pub is : ℕ → Row → Bool
is l r = eqb r.letter l

-- "the four letters share one numbering of types"
abbrev pub is_type : Row → Bool
is_type r = among r.letter (S ∷ O ∷ I ∷ U ∷ [])

-- the n-th row of a kind; no_row, which has no letter, stands for one that is not declared
abbrev pub nth : (Row → Bool) → List Row → ℕ → Row
nth p s n = get_or (those p s) n no_row

-- a record with the letter l and the numbers a and b
abbrev pub states : ℕ → ℕ → ℕ → Row → Bool
states l a b r = is l r && (eqb (at r 0) a && eqb (at r 1) b)

-- a record with the letter l and the first number a
abbrev pub begins : ℕ → ℕ → Row → Bool
begins l a r = is l r && eqb (at r 0) a

-- 01's `F` record gives every owner the same type and list mark.
abbrev pub schema_of : List Row → Schema
schema_of s =
    record {
      kind = λ t. (nth is_type s t.0).letter;
      low = λ t. at (nth is_type s t.0) 0;
      high = λ t. at (nth is_type s t.0) 1;
      declared_field = λ f. is F (nth (is F) s f.0);
      field_type = λ owner f. type_no (at (nth (is F) s f.0) 0);
      list_mark = λ owner f. at (nth (is F) s f.0) 1;
      declared_arg = λ a. is A (nth (is A) s a.0);
      arg_type = λ a. type_no (at (nth (is A) s a.0) 0);
      has_field = λ t f. any (states H t.0 f.0) s;
      fields_of = λ t. map (λ r. field_no (at r 1)) (those (begins H t.0) s);
      takes_arg = λ f a. any (states G f.0 a.0) s;
      has_member = λ t o. any (states M t.0 o.0) s;
      some_member = λ t. any (begins M t.0) s;
      query_type = type_no (at (nth (is Q) s 0) 0);
    }

-- ---- the checks

-- a maximum passed: as many earlier rows of the kind as there may be
abbrev pub at_most : ℕ → (Row → Bool) → List Row → Row → Tests
at_most n p before r = given (p r) ((0 # leb n (length (those p before))) ∷ [])

-- 11: "Types 64, `F` 128, `A` 64, `H`, `G`, `M` 1,024 each"
abbrev pub check11 : Check Row
check11 before r after =
    at_most 64 is_type before r
    ∷ at_most 128 (is F) before r
    ∷ at_most 64 (is A) before r
    ∷ at_most 1024 (is H) before r
    ∷ at_most 1024 (is G) before r
    ∷ at_most 1024 (is M) before r
    ∷ []

-- 12: "number not declared; `A` not of a scalar; `H` not on object or interface; `M` not union or interface with object;
-- `Q` not object; low above high"
abbrev pub check12 : Schema → Check Row
check12 s before r after =
    given (is S r) ((3 # ltb (at r 1) (at r 0)) ∷ [])
    ∷ given (is F r) ((2 # not (declared_type s (type_no (at r 0)))) ∷ [])
    ∷ given (is A r) ((2 # not (is_scalar s (type_no (at r 0)))) ∷ [])
    ∷ given (is H r) ((2 # not (owns_fields s (type_no (at r 0)))) ∷ (3 # not (declared_field s (field_no (at r 1)))) ∷ [])
    ∷ given (is G r) ((2 # not (declared_field s (field_no (at r 0)))) ∷ (3 # not (declared_arg s (arg_no (at r 1)))) ∷ [])
    ∷ given (is M r) ((2 # not (has_members s (type_no (at r 0)))) ∷ (3 # not (is_object s (type_no (at r 1)))) ∷ [])
    ∷ given (is Q r) ((2 # not (is_object s (type_no (at r 0)))) ∷ [])
    ∷ []

-- 13: "same `H`, `G` or `M` record twice"
abbrev pub check13 : Check Row
check13 before r after =
    given (among r.letter (H ∷ G ∷ M ∷ [])) ((0 # any (states r.letter (at r 0) (at r 1)) before) ∷ []) ∷ []

-- 14: "an interface's field is missing from an object that its `M` names" (a union has no `H`, by 12)
abbrev pub check14 : Schema → Check Row
check14 s before r after =
    given (is M r) ((0 # any (λ f. not (has_field s (type_no (at r 1)) f)) (s.fields_of (type_no (at r 0)))) ∷ []) ∷ []

-- 15: "union with no object type"; its number is the count of the types before it
abbrev pub check15 : Schema → Check Row
check15 s before r after = given (is U r) ((0 # not (s.some_member (type_no (length (those is_type before))))) ∷ []) ∷ []

-- 16: "not exactly one `Q`"
abbrev pub check16 : List Row → Option Spot
check16 s = whole (not (eqb (length (those (is Q) s)) 1))
