-- `search::Counts::with_row` meets its contract: each count grows by its tick. Assumes nothing.
use Rattle.search.specs.Count.{counts_with}
use Rattle.search.proofs.Counts.with_row.Goals as goal

pub returns : goal.returns
unfolding counts_with
returns c =
    rw (
      c.tick.ensures.value,
      c.tick-2.ensures.value,
      c.tick-3.ensures.value,
      c.tick-4.ensures.value,
      c.tick-5.ensures.value,
      c.tick-6.ensures.value,
      c.tick-7.ensures.value,
      c.tick-8.ensures.value,
      c.tick-9.ensures.value,
    )
