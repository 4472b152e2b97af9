-- Definition 4 on the tree: what check 34 says of the lines, said of the query. Assumes nothing.
use Rattle.std.specs.Prelude.{Bool, true, false, ◌&&◌, not}
use Rattle.std.specs.Bool.{beq}
use Rattle.rules.specs.Lists.{all}
use Rattle.rules.specs.Schema.{Schema, field_type, has_field, takes_arg, is_scalar, owns_fields}
use Rattle.rules.specs.Tree.{Asks, field, on, Forest, none, node}
use Rattle.rules.specs.declared.FieldNo.{FieldNo}
use Rattle.rules.specs.declared.ArgNo.{ArgNo}
use Rattle.rules.specs.declared.TypeNo.{TypeNo}

-- What Definition 4 asks of a schema: whether a type is scalar, whether it is an object or interface type that has a field,
-- the type of a field at its owner, and whether a field takes an argument.
pub record Kinds : Type 0 where
  pub is_scalar : TypeNo → Bool
  pub has : TypeNo → FieldNo → Bool
  pub typed : TypeNo → FieldNo → TypeNo
  pub takes : FieldNo → ArgNo → Bool

abbrev pub kinds : Schema → Kinds
kinds s =
    record {
      is_scalar = λ t. is_scalar s t;
      has = λ c f. owns_fields s c && has_field s c f;
      typed = λ c f. field_type s c f;
      takes = λ f a. takes_arg s f a;
    }

abbrev pub childless : Forest → Bool
childless none = true
childless (node e kids rest) = false

-- The context of an entry's children.
abbrev pub under : Kinds → TypeNo → Asks → TypeNo
under k c (field n l) = k.typed c l.field
under k c (on t) = t

-- An entry in the context c, its children aside: "A field needs a context that is object or interface and has it; its
-- arguments must be the field's. A field of scalar type has no child; any other has at least one".
abbrev pub valid_entry : Kinds → TypeNo → Asks → Bool → Bool
valid_entry k c (field n l) leaf =
    k.has c l.field && (beq (k.is_scalar (k.typed c l.field)) leaf && all (λ p. k.takes l.field p.arg) l.args)
valid_entry k c (on t) leaf = not (k.is_scalar t)

abbrev pub valid : Kinds → TypeNo → Forest → Bool
valid k c none = true
valid k c (node e kids rest) = valid_entry k c e.asks (childless kids) && (valid k (under k c e.asks) kids && valid k c rest)
