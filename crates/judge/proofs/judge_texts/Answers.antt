-- `judge::judge_texts` meets its contract: each text's verdict in turn, by the laws of `Texts`. Assumes nothing.
use Prim.Native.Nat.{ℕ, ◌≤◌}
use native.Mathlib.Omega.{arith}
use mathlib.Core.Bool.{false}
use mathlib.Core.List.{List}
use mathlib.Core.Path.{◌≡◌, refl}
use lib.ListN.{length}
use Rattle.std.proofs.lemmas.Result.{err_from_is_err_and}
use Rattle.masks.specs.Masks.{schema_needed}
use Rattle.judge.specs.Texts.{lent, too_short_of}
use Rattle.judge.proofs.Texts.{enough, schema-refused, held-schema, graph-refused, all-accepted}
use Rattle.judge.proofs.judge_texts.Goals as goal

-- the areas lent are long enough
long : (a g p v x q : List ℕ) → schema_needed ≤ length a → 15880 ≤ length g → 14344 ≤ length p → length v ≡ 8200
    → 3072 ≤ length x → 3592 ≤ length q → too_short_of (lent a g p v x q) ≡ false
unfolding lent
long a g p v x q a-long g-long p-long v-long x-long q-long =
    enough (lent a g p v x q)
    (record {
      schema = a-long;
      nodes = g-long;
      properties = p-long;
      values = omega arith;
      index = x-long;
      query = q-long;
    })

pub returns-in_err-judge_schema : goal.returns-in_err-judge_schema
returns-in_err-judge_schema c =
    let p = err_from_is_err_and c.from_residual.result c.from_residual.ensures.1 in
    let r = c.requires in
    let room = long _ _ _ _ _ _ r.schema_needed_in_bounds r.in_bounds r.in_bounds_2 r.v_len r.in_bounds_3 r.in_bounds_4 in
    rw (p.1, p.2)
    (schema-refused c.args.schema.now c.args.graph.now c.args.query.now _ room c.judge_schema.ensures c.in_err-judge_schema.was)

-- the schema's area can be read, with its masks
pub judge_graph-requires-clause-schema_held : goal.judge_graph-requires-clause-schema_held
judge_graph-requires-clause-schema_held c =
    let r = c.requires in
    let room = long _ _ _ _ _ _ r.schema_needed_in_bounds r.in_bounds r.in_bounds_2 r.v_len r.in_bounds_3 r.in_bounds_4 in
    held-schema c.args.schema.now c.args.graph.now c.args.query.now _ room
    c.judge_schema.ensures r.schema_needed_in_bounds c.in_ok-judge_schema.was

pub returns-in_err-judge_graph : goal.returns-in_err-judge_graph
returns-in_err-judge_graph c =
    let end = c.from_residual-in_err-judge_graph in
    let p = err_from_is_err_and end.result end.ensures.1 in
    let r = c.requires in
    let room = long _ _ _ _ _ _ r.schema_needed_in_bounds r.in_bounds r.in_bounds_2 r.v_len r.in_bounds_3 r.in_bounds_4 in
    rw (p.1, p.2)
    (graph-refused c.args.schema.now c.args.graph.now c.args.query.now _ room
    c.judge_schema.ensures r.schema_needed_in_bounds c.in_ok-judge_schema.was c.judge_graph.ensures c.in_err-judge_graph.was)

pub judge_query-requires-clause-schema_held : goal.judge_query-requires-clause-schema_held
judge_query-requires-clause-schema_held c =
    let r = c.requires in
    let room = long _ _ _ _ _ _ r.schema_needed_in_bounds r.in_bounds r.in_bounds_2 r.v_len r.in_bounds_3 r.in_bounds_4 in
    let held = held-schema c.args.schema.now c.args.graph.now c.args.query.now _ room
    c.judge_schema.ensures r.schema_needed_in_bounds c.in_ok-judge_schema.was in
    held.0

pub returns : goal.returns
unfolding lent
returns c =
    let r = c.requires in
    let room = long _ _ _ _ _ _ r.schema_needed_in_bounds r.in_bounds r.in_bounds_2 r.v_len r.in_bounds_3 r.in_bounds_4 in
    all-accepted c.args.schema.now c.args.graph.now c.args.query.now _ room
    c.judge_schema.ensures r.schema_needed_in_bounds c.in_ok-judge_schema.was c.judge_graph.ensures c.in_ok-judge_graph.was
    c.judge_query.ensures refl refl refl r.v_len refl refl
