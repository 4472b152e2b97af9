-- `search::by_index` meets its contract: 25 and 26 walk the index. Assumes nothing.
use borrow.Author.Tests.{ne_eqb}
use mathlib.Core.Logic.{inl, inr}
use Rattle.search.specs.Search.{indexed}
use Rattle.search.proofs.Numbers.{other_number}
use Rattle.search.proofs.by_index.Goals as goal

pub returns-in-SecondTarget : goal.returns-in-SecondTarget
unfolding indexed
returns-in-SecondTarget c = elim c.in-SecondTarget.is [ inl e ↦ rw e | inr e ↦ rw e ]

pub returns-in_default : goal.returns-in_default
unfolding indexed
returns-in_default c =
    rw (ne_eqb _ 25 (other_number c.in_default.not-SecondTarget), ne_eqb _ 26 (other_number c.in_default.not-Twin))
