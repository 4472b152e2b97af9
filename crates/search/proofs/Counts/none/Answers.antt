-- `search::Counts::none` meets its contract: no row counts nothing. Assumes nothing.
use mathlib.Core.Path.{refl}
use Rattle.tables.specs.Layout.{counted}
use Rattle.search.specs.Count.{counts_of}
use Rattle.search.proofs.Counts.none.Goals as goal

pub returns : goal.returns
unfolding counts_of counted
returns c = refl
