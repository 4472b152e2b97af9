-- What the checks give, named: the facts of texts that pass, one lemma for each group of checks. Assumes nothing.
use Prim.Native.Nat.{ℕ, zero, suc, ◌+◌, ◌≤◌, ◌<◌}
use native.Mathlib.Omega.{arith}
use mathlib.Core.Path.{◌≡◌, refl}
use mathlib.Core.Bool.{Bool, true, false, not}
use mathlib.Core.List.{List, [], ◌∷◌, map}
use Rattle.std.specs.Prelude.{None}
use lib.Dec.{eqb}
use lib.ListN.{length, get_or}
use borrow.Author.Tests.{ltb-true, ltb-false, eqb-true, not-false}
use Rattle.rules.specs.Lists.{those, keep_if, is_empty, count_up}
use Rattle.rules.specs.Text.{Row, E}
use Rattle.rules.specs.Search.{first_line, whole}
use Rattle.rules.specs.Schema.{Schema, is, is_list, query_type}
use Rattle.rules.specs.Graph.{Label, Graph, graph_of, nodes_of, type_of, target, declared_node, starts, edge_of, check22, check27}
use Rattle.rules.specs.Query.{depth, deepest, steps, check32}
use Rattle.rules.specs.Tree.{entries_from, entries}
use Rattle.rules.specs.World.{world, query_node}
use Rattle.rules.specs.Answer.{Texts, schema_in, graph_in, graph_rows, query_rows, world_of, root_of, checks}
use Rattle.rules.specs.Contract.{Passed}
use Rattle.rules.proofs.Bools.{and-true_left}
use Rattle.rules.proofs.Clean.{Calm, Clean, clean, Each, clean-each, whole-none, or_else_none}
use Rattle.rules.proofs.Sums.{Below}
use Rattle.rules.proofs.Size.{Closed}
use Rattle.rules.proofs.Preorder.{Steps}
use Rattle.rules.proofs.Single.{one-target}

-- ---- 22: edges lead to nodes

ToNode : Graph → Row → Type 0
ToNode g r = is E r ≡ true → target r < g.size

edge-to_node : (s : Schema) (g : Graph) (before : List Row) (r : Row) (after : List Row) → Calm (check22 s g before r after) → ToNode g r
unfolding ToNode
edge-to_node s g before r after c e =
    ltb-true (target r) g.size (not-false (declared_node g (target r)) (c.1.1.0 e).0)

targets_below : (n u : ℕ) (l : Label) (g : List Row) → Each (λ r. is E r ≡ true → target r < n) g
    → Below n (map target (those (edge_of u l) g))
targets_below n u l [] c = tt
targets_below n u l (r ∷ rs) c = go (targets_below n u l rs c.1) (edge_of u l r) refl
  where
    go : Below n (map target (those (edge_of u l) rs)) → (b : Bool) → edge_of u l r ≡ b
        → Below n (map target (keep_if b r (those (edge_of u l) rs)))
    go ih true e = (c.0 (and-true_left (is E r) (starts u l r) e), ih)
    go ih false e = ih

pub edges_lead_to_nodes : (s : Schema) (rs : List Row) → first_line (check22 s (graph_of rs)) rs ≡ None → Closed (world s (graph_of rs))
unfolding ToNode
edges_lead_to_nodes s rs h =
    let g = graph_of rs in
    record {
      leads = λ u l. targets_below g.size u l rs
          (clean-each (check22 s g) (ToNode g) (edge-to_node s g) [] rs (clean (check22 s g) [] 1 rs h));
    }

-- ---- 27: there is a query node

first_below : (p : ℕ → Bool) (i n d : ℕ) → 1 ≤ length (those p (count_up i n)) → get_or (those p (count_up i n)) 0 d < i + n
first_below p i zero d h = absurd (omega arith)
first_below p i (suc n) d h = go (λ k. first_below p (suc i) n d k) (p i) refl
  where
    go : (1 ≤ length (those p (count_up (suc i) n)) → get_or (those p (count_up (suc i) n)) 0 d < suc i + n)
        → (b : Bool) → p i ≡ b → get_or (those p (count_up i (suc n))) 0 d < i + suc n
    go ih true e = rw (e, keep_if) (omega arith)
    go ih false e = rw (e, keep_if) (omega (arith, ih (rw (e, keep_if) at h)))

pub query-node_is_node : (s : Schema) (g : Graph) → check27 s g ≡ None → query_node s g < g.size
query-node_is_node s g h =
    let k = length (nodes_of g (query_type s)) in
    let one : k ≡ 1 = eqb-true k 1 (not-false (eqb k 1) (whole-none (not (eqb k 1)) h)) in
    let f = first_below (λ u. eqb (type_of g u).0 (query_type s).0) 0 g.size g.size (omega arith) in
    omega arith

-- ---- 32: the depths step down by one at most

steps-from : (before rs : List Row) (i : ℕ) → Clean steps before rs → Steps (deepest before) (entries_from i rs)
steps-from before [] i c = tt
steps-from before (r ∷ rs) i c =
    (ltb-false (deepest before) (depth r) (c.0.0 refl).0, steps-from (r ∷ before) rs (suc i) c.1)

pub depths_step : (q : List Row) → check32 q ≡ None → Steps 0 (entries q)
depths_step q h = steps-from [] q 0 (clean steps [] 1 q (or_else_none (whole (is_empty q)) (first_line steps q) h))

-- ---- all of them, for texts that pass

-- what the theorems on the size and the visits rest on
pub record Facts (x : Texts) : Type 0 where
  pub closed : Closed (world_of x)
  pub root : root_of x < (world_of x).size
  pub steps : Steps 0 (entries (query_rows x))
  pub single : (u : ℕ) (l : Label) → is_list (schema_in x) (type_of (graph_in x) u) l.field ≡ false → length ((world_of x).targets u l) ≤ 1

pub facts : (short : Bool) (x : Texts) → Passed (checks short x) → Facts x
facts short x p =
    let s = schema_in x in
    let rs = graph_rows x in
    record {
      closed = edges_lead_to_nodes s rs (p 22);
      root = query-node_is_node s (graph_in x) (p 27);
      steps = depths_step (query_rows x) (p 32);
      single = one-target s rs (p 25) (p 26);
    }
