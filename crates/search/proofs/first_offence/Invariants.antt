-- `search::first_offence` meets its contract. The outer loop's invariant: the lines before `at` do not offend, and c counts them. The
-- inner one's: the earlier lines before the j-th do not clash, and the j-th is one that is asked. The measures are the bytes and the earlier
-- lines left. Assumes nothing.
use Prim.Native.Nat.{◌-◌}
use mathlib.Core.Path.{◌≡◌}
use lib.ListN.{length}
use Rattle.std.specs.Prelude.{None}
use Rattle.search.specs.Given.{areas_in}
use Rattle.search.specs.Search.{row_number}
use Rattle.search.proofs.Looping.{Going}
use Rattle.search.proofs.Walking.{SeekingAt}
use Rattle.search.proofs.first_offence.Given as goal

abbrev pub invariant-loop-j : goal.invariant-loop-j
invariant-loop-j l = (l.found ≡ None) × SeekingAt (row_number l.check) (areas_in l.x) l.x.index.now l.r l.end l.j

abbrev pub decreases-loop-j : goal.decreases-loop-j
decreases-loop-j l = l.end - l.j

abbrev pub invariant-lines : goal.invariant-lines
invariant-lines l = (l.found ≡ None) × Going (row_number l.check) l.s.bytes.now (areas_in l.x) l.at l.c

abbrev pub decreases-lines : goal.decreases-lines
decreases-lines l = length l.s.bytes.now - l.at
