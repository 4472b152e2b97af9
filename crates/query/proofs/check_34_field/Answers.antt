-- `query::check_34_field` meets its contract. One law for each answer. Assumes nothing.
use mathlib.Core.Path.{sym, ◌∙◌}
use borrow.Author.Rules.{rules}
use Rattle.query.proofs.Verdicts.{laws34, not_taken, leaf_wrong, leaf_right}
use Rattle.query.proofs.check_34_field.Goals as goal

pub returns-then-not-owns_fields : goal.returns-then-not-owns_fields
returns-then-not-owns_fields c = search (laws34, rules)

pub returns-then-not-has_field : goal.returns-then-not-has_field
returns-then-not-has_field c = search (laws34, rules)

pub returns-then-is_some : goal.returns-then-is_some
returns-then-is_some c =
    not_taken _ _ _ _ c.requires.k_value _ c.cell.ensures _ c.owns_fields.ensures c.if-not-owns_fields.false _
    c.has_field.ensures c.if-not-has_field.false _ c.args_fault-args.ensures (sym c.is_some.ensures ∙ c.if-is_some.true)

pub returns-then-leaf-has_child : goal.returns-then-leaf-has_child
returns-then-leaf-has_child c =
    leaf_wrong _ _ _ _ c.requires.k_value _ c.cell.ensures _ c.owns_fields.ensures c.if-not-owns_fields.false _
    c.has_field.ensures c.if-not-has_field.false _ c.args_fault-args.ensures (sym c.is_some.ensures ∙ c.if-is_some.false) _
    c.has_child.ensures _ c.field_type.ensures _ c.is_scalar-leaf.ensures c.if-leaf-has_child.true

pub returns : goal.returns
returns c =
    leaf_right _ _ _ _ c.requires.k_value _ c.cell.ensures _ c.owns_fields.ensures c.if-not-owns_fields.false _
    c.has_field.ensures c.if-not-has_field.false _ c.args_fault-args.ensures (sym c.is_some.ensures ∙ c.if-is_some.false) _
    c.has_child.ensures _ c.field_type.ensures _ c.is_scalar-leaf.ensures c.if-leaf-has_child.false
