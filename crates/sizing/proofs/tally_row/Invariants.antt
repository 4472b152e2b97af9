-- `sizing::tally_row` meets its contract. The loop's invariant: the visits from node u on are left to tally. Assumes nothing.
use Prim.Native.Nat.{◌+◌, ◌≤◌}
use mathlib.Core.Path.{◌≡◌}
use Rattle.tables.specs.Read.{cell}
use Rattle.world.specs.World.{world_at}
use Rattle.sizing.specs.Measure.{row_in}
use Rattle.sizing.proofs.Tallying.{tallied_from}
use Rattle.sizing.proofs.tally_row.Given as goal

abbrev pub invariant-loop-u : goal.invariant-loop-u
invariant-loop-u l = record {
  left :
      tallied_from (world_at l.w.schema.now l.w.nodes.now l.w.properties.now l.w.values.now) l.q.area.now l.q.place (row_in l.m l.c (cell l.w.nodes.now 0)) l.r l.u
      ≡ tallied_from (world_at l.w.schema.now l.w.nodes.now l.w.properties.now l.w.values.now) l.q.area.now l.q.place (row_in l.m l.c (cell l.w.nodes.now 0)) l.initial.r 0;
  few : l.r.visits ≤ l.initial.r.visits + l.u;
}
