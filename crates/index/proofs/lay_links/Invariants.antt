-- `index::lay_links` meets its contract. The loop's invariant: the links among the rows from row j on are laid. Assumes nothing.
use Rattle.index.specs.Index.{sources_at}
use Rattle.index.proofs.Laying.{Linking}
use Rattle.index.proofs.lay_links.Given as goal

abbrev pub invariant-loop-j : goal.invariant-loop-j
invariant-loop-j l = Linking (sources_at l.a l.base l.n) l.at l.initial.x l.x l.j
