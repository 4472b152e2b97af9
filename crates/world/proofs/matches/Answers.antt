-- `world::matches` meets its contract. The node decides whether the label is looked at. Assumes nothing.
use borrow.Author.Rules.{rules}
use Rattle.graph.proofs.Copying.{other_node}
use Rattle.world.proofs.Reading.{row-asked}
use Rattle.world.proofs.matches.Goals as goal

pub returns-then-wide_at-u : goal.returns-then-wide_at-u
returns-then-wide_at-u c =
    row-asked _ _ _ _ _ _ _ _ _ _ c.wide_at.ensures c.if-wide_at-u.true c.named_at.ensures c.named_at-then-wide_at-u.ensures
    c.same_label.ensures

pub returns-else-wide_at-u : goal.returns-else-wide_at-u
returns-else-wide_at-u c = search (other_node, rules)
