-- That a text keeps its form is a fact, and no choice. Assumes nothing.
use mathlib.Core.Path.{refl}
use Rattle.std.specs.Prelude.{List, [], ◌∷◌}
use Rattle.std.proofs.Props.{props}
use Rattle.rules.specs.Text.{Line}
use Rattle.rules.proofs.Clean.{Each}
use Rattle.tables.specs.Fill.{Plain}

plain_prop : (l : Line) → IsProp (Plain l)
plain_prop l = hlevel props

pub plain_lines_prop : (ls : List Line) → IsProp (Each Plain ls)
plain_lines_prop [] p q = refl
plain_lines_prop (l ∷ ls) p q = λ i. (plain_prop l p.0 q.0 i, plain_lines_prop ls p.1 q.1 i)
