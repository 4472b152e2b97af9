-- `judge::judge` meets its contract: an area that is too short is refused by 2, and else the texts' verdict is given. Assumes nothing.
use mathlib.Core.Path.{◌≡◌, sym, ap, ◌∙◌}
use lib.ListN.{length, take}
use lib.Seq.{length-take-le}
use Rattle.judge.specs.Texts.{lent}
use Rattle.judge.proofs.Texts.{too_short_lem, Long, long-areas, widened}
use Rattle.judge.proofs.judge.Goals as goal
use Rattle.judge.proofs.judge.Goals.{Else-short}

-- past the test none of the areas is too short
long : (c : Else-short) → Long (lent c.args.a.now c.args.g.now c.args.p.now c.args.v.now c.args.ix.now c.args.q.now)
long c = long-areas _ (sym c.short.ensures ∙ c.if-short.false)

values-needed : (c : Else-short) → length (take 8200 c.args.v.now) ≡ 8200
unfolding lent
values-needed c = length-take-le 8200 c.args.v.now (long c).values

pub returns-then-short : goal.returns-then-short
returns-then-short c =
    too_short_lem c.args.schema.now c.args.graph.now c.args.query.now _ _ _
    (sym c.short.ensures ∙ c.if-short.true) c.refuse.ensures

pub slice_bounds-judge_texts-end : goal.slice_bounds-judge_texts-end
unfolding lent
slice_bounds-judge_texts-end c = (long (goal.at.slice_bounds-judge_texts-end c).Else-short).values

pub slice_bounds-judge_texts-end-2 : goal.slice_bounds-judge_texts-end-2
slice_bounds-judge_texts-end-2 c = simp (values-needed (goal.at.slice_bounds-judge_texts-end-2 c).Else-short)

pub judge_texts-requires : goal.judge_texts-requires
unfolding lent
judge_texts-requires c =
    let here = (goal.at.judge_texts-requires c).Else-short in
    let h = long here in
    record {
      schema_needed_in_bounds = h.schema;
      in_bounds = h.nodes;
      in_bounds_2 = h.properties;
      v_len = values-needed here;
      in_bounds_3 = h.index;
      in_bounds_4 = h.query;
    }

pub returns : goal.returns
unfolding lent
returns c =
    let needed = values-needed (goal.at.returns c).Else-short in
    widened c.args.schema.now c.args.graph.now c.args.query.now _ _ _ c.args.v.now _ _ _ _ _ _ _ _ _ _
    (sym c.short.ensures ∙ c.if-short.false) (c.judge_texts.auto.v ∙ needed) c.judge_texts.ensures
