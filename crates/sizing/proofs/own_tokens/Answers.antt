-- `sizing::own_tokens` meets its contract, by what the entry asks and what the field is. Assumes nothing.
use mathlib.Core.Path.{sym, ◌∙◌}
use Rattle.tables.specs.Read.{cell}
use Rattle.sizing.proofs.Tallying.{own_on, own_scalar, own-objects, own-some, own-none}
use Rattle.sizing.proofs.own_tokens.Goals as goal

pub returns-then-cell-ne-FIELD : goal.returns-then-cell-ne-FIELD
returns-then-cell-ne-FIELD c = own_on _ _ _ _ _ _ _ (λ e. c.if-cell-ne-FIELD.true (c.cell.ensures ∙ e))

pub returns-in-Scalar : goal.returns-in-Scalar
returns-in-Scalar c =
    let is = sym c.cell.ensures ∙ c.if-cell-ne-FIELD.false in
    let shapes = c.shape.ensures in
    c.value_tokens.ensures ∙ own_scalar _ _ _ _ _ _ _ is _ _ c.cell-2.ensures shapes c.in-Scalar.is

pub returns-in-Objects : goal.returns-in-Objects
returns-in-Objects c =
    let is = sym c.cell.ensures ∙ c.if-cell-ne-FIELD.false in
    let shapes = c.shape.ensures in
    own-objects _ _ _ _ _ _ _ is _ _ c.cell-2.ensures shapes c.in-Objects.is _ c.count_targets.ensures.value

pub returns-then-first_edge-w : goal.returns-then-first_edge-w
unfolding cell
returns-then-first_edge-w c =
    let is = sym c.cell.ensures ∙ c.if-cell-ne-FIELD.false in
    let shapes = c.shape.ensures in
    own-some _ _ _ _ _ _ _ is _ _ c.cell-2.ensures shapes c.in-Object.is _ c.first_edge.ensures c.if-first_edge-w.true

pub returns-else-first_edge-w : goal.returns-else-first_edge-w
unfolding cell
returns-else-first_edge-w c =
    let is = sym c.cell.ensures ∙ c.if-cell-ne-FIELD.false in
    let shapes = c.shape.ensures in
    own-none _ _ _ _ _ _ _ is _ _ c.cell-2.ensures shapes c.in-Object.is _ c.first_edge.ensures c.if-first_edge-w.false
