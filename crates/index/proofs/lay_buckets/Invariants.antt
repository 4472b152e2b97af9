-- `index::lay_buckets` meets its contract. The loop's invariant: the links among the rows from row j on are laid, and the rows stand as they
-- stood. Assumes nothing.
use Rattle.index.specs.Index.{keys}
use Rattle.index.specs.Buckets.{bucket_at}
use Rattle.index.proofs.Laying.{Linking}
use Rattle.index.proofs.lay_buckets.Given as goal

abbrev pub invariant-loop-j : goal.invariant-loop-j
invariant-loop-j l = Linking (keys (bucket_at l.initial.a l.base) l.n) l.at l.initial.a l.a l.j
