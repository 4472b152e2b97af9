-- `graph_text::judge_graph` meets its contract: a text that passes 20 and 21 fits the areas, what is laid out there can be searched, and
-- once 22 has passed it can be indexed. Assumes nothing.
use lib.ListN.{length}
use Rattle.std.proofs.lemmas.Result.{err_from_is_err_and}
use Rattle.rules.specs.Text.{rows}
use Rattle.rules.specs.declared.TextKind.TheVariants.{Graph}
use Rattle.tables.specs.Read.{schema_at}
use Rattle.search.specs.Search.{areas, GraphReady}
use Rattle.checks.proofs.Opening.{Opened, opened}
use Rattle.graph_text.proofs.GraphJudging.{fits_21, form_20, refused, Laid, laid-ready, edges_indexable}
use Rattle.graph_text.proofs.GraphJudging.{properties_indexable, laid-indexed, alone-refused, whole-verdict}
use Rattle.graph_text.proofs.judge_graph.Goals as goal
use Rattle.graph_text.proofs.judge_graph.Goals.{In_ok-judge_form, After-lay_graph}

open-text : (c : In_ok-judge_form) → Opened Graph c.args.s.now
open-text c = opened Graph _ c.judge_form.ensures c.in_ok-judge_form.was

-- the areas are laid out, and can be searched
laid : (c : After-lay_graph) → Laid c.args.s.now c.lay_graph.new.g c.lay_graph.new.p c.lay_graph.new.v
    (length c.args.g.now) (length c.args.p.now) (length c.args.v.now)
laid c =
    record {
      nodes_room = c.requires.in_bounds;
      properties_room = c.requires.in_bounds_2;
      values_room = c.requires.in_bounds_3;
      fits = fits_21 c.args.s.now (opened Graph _ c.judge_form.ensures c.in_ok-judge_form.was);
      nodes = c.lay_graph.ensures.g_after;
      properties = c.lay_graph.ensures.p_after;
      values = c.lay_graph.ensures.v_after;
    }

ready : (c : After-lay_graph) → GraphReady (rows c.args.s.now) (areas c.args.a.now c.lay_graph.new.g c.lay_graph.new.p c.lay_graph.new.v)
ready c =
    let formed = form_20 c.args.s.now (opened Graph _ c.judge_form.ensures c.in_ok-judge_form.was) in
    laid-ready (laid c) c.args.a.now c.requires.schema_held.0 c.requires.schema_held.1 c.requires.v_len_bound formed

pub returns-in_err-judge_form : goal.returns-in_err-judge_form
returns-in_err-judge_form c =
    let p = err_from_is_err_and c.from_residual.result c.from_residual.ensures.1 in
    rw (p.1, p.2)
    (refused (schema_at c.args.a.now) c.args.s.now c.args.g.now c.args.p.now c.args.v.now c.args.ix.now
    c.judge_form.ensures c.in_err-judge_form.was)

pub invariant_of-text : goal.invariant_of-text
invariant_of-text c = let text = open-text (goal.at.invariant_of-text c).In_ok-judge_form in record { short = text.short; plain = text.plain }

pub lay_graph-requires : goal.lay_graph-requires
lay_graph-requires c =
    let text = open-text (goal.at.lay_graph-requires c).In_ok-judge_form in
    record {
      graph_fits = fits_21 c.args.s.now text;
      in_bounds = c.requires.in_bounds;
      in_bounds_2 = c.requires.in_bounds_2;
      in_bounds_3 = c.requires.in_bounds_3;
    }

pub judge_alone-requires : goal.judge_alone-requires
judge_alone-requires c =
    record { graph_ready = ready (goal.at.judge_alone-requires c).After-lay_graph }

pub returns-in_err-judge_alone : goal.returns-in_err-judge_alone
returns-in_err-judge_alone c =
    let end = c.from_residual-in_err-judge_alone in
    let p = err_from_is_err_and end.result end.ensures.1 in
    rw (p.1, p.2)
    (alone-refused (laid (goal.at.returns-in_err-judge_alone c).After-lay_graph) (schema_at c.args.a.now) c.judge_alone.ensures c.judge_form.ensures
    c.in_ok-judge_form.was c.in_err-judge_alone.was c.args.ix.now)

pub lay_index-requires : goal.lay_index-requires
lay_index-requires c =
    let t = schema_at c.args.a.now in
    let here = (goal.at.lay_index-requires c).After-lay_graph in
    record {
      rowed = edges_indexable (laid here) t c.judge_alone.ensures c.in_ok-judge_alone.was;
      rowed_2 = properties_indexable (laid here) t c.judge_alone.ensures c.in_ok-judge_alone.was;
      in_bounds = c.requires.in_bounds_4;
    }

pub judge_joint-requires : goal.judge_joint-requires
judge_joint-requires c =
    let here = (goal.at.judge_joint-requires c).After-lay_graph in
    let indexed = laid-indexed (laid here) (schema_at c.args.a.now) c.judge_alone.ensures c.in_ok-judge_alone.was _
    c.requires.in_bounds_4 _ c.lay_index.ensures in
    record { graph_ready = ready here; indexed = indexed }

pub returns : goal.returns
returns c =
    whole-verdict (laid (goal.at.returns c).After-lay_graph) (schema_at c.args.a.now) c.judge_alone.ensures c.judge_form.ensures
    c.in_ok-judge_form.was c.in_ok-judge_alone.was _ _ c.lay_index.ensures c.judge_joint.ensures
