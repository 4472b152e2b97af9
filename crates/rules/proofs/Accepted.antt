-- Theorems 3, 4 and 5 of texts that pass: the size, the visits, and one pass over the lines. Assumes nothing.
use Prim.Native.Nat.{ℕ, suc, ◌*◌, ◌≤◌}
use native.Mathlib.Omega.{arith}
use mathlib.Core.Path.{◌≡◌, refl, sym, ap, ◌∙◌, subst}
use mathlib.Core.Logic.{◌↔◌}
use mathlib.Core.List.{List, [], ◌∷◌, map}
use lib.ListN.{length, length-map}
use Rattle.rules.specs.Text.{Row}
use Rattle.rules.specs.Tree.{entries_from, entries, preorder}
use Rattle.rules.specs.Eval.{Meets}
use Rattle.rules.specs.Sizing.{Visit, passed, start, own, total, cap_at}
use Rattle.rules.specs.Answer.{Texts, query_rows, world_of, root_of, tree_of, visits_in, response}
use Rattle.rules.proofs.Size.{size, length-start}
use Rattle.rules.proofs.Visited.{Listed, visited}
use Rattle.rules.proofs.Preorder.{preorder-all}
use Rattle.rules.proofs.Order.{Consecutive, entries_consecutive, Ascends, visits_ascend, visits-length, NoPairTwice, no_pair_twice}
use Rattle.rules.proofs.Cap.{cap_passed, cap_visit, visits-cap, tally, tally_sum}
use Rattle.rules.proofs.Walk.{walk, visits-walk}
use Rattle.rules.proofs.Facts.{Facts}

pub length-entries : (i : ℕ) (q : List Row) → length (entries_from i q) ≡ length q
length-entries i [] = refl
length-entries i (r ∷ rs) = ap suc (length-entries (suc i) rs)

module _ (x : Texts) (f : Facts x) where
  -- the tree has each line of the query once, in order
  pub all-entries : preorder (tree_of x) ≡ entries (query_rows x)
  all-entries = preorder-all (entries (query_rows x)) f.steps

  -- 3: the length of the response is the sum over the visits of multiplicity times own tokens
  pub response-size : length (response x) ≡ total (world_of x) (visits_in x)
  response-size = size (world_of x) f.closed (tree_of x) (root_of x) f.root

  -- 4: the visits are exactly the pairs that the evaluation meets,
  pub visits-met : (i v : ℕ) → Listed i v (visits_in x) ↔ Meets (world_of x) (tree_of x) (root_of x) i v
  visits-met i v = visited (world_of x) f.closed (tree_of x) (root_of x) f.root i v

  -- by entry and then by node,
  pub visits_in_order : Ascends (visits_in x)
  visits_in_order =
      visits_ascend (world_of x) (tree_of x) 0 (start (world_of x) (root_of x))
      (subst (Consecutive 0) (sym all-entries) (entries_consecutive 0 (query_rows x)))

  -- none twice,
  pub no_visit_twice : NoPairTwice (visits_in x)
  no_visit_twice = no_pair_twice (visits_in x) visits_in_order

  -- at most entries times nodes
  pub visits_bound : length (visits_in x) ≤ length (query_rows x) * (world_of x).size
  visits_bound =
      subst (λ (n : ℕ). length (visits_in x) ≤ n * (world_of x).size) (ap length all-entries ∙ length-entries 0 (query_rows x))
      (visits-length (world_of x) (tree_of x) (start (world_of x) (root_of x)) (omega (arith, length-start (world_of x) (root_of x))))

  -- 5, for any limit k: the visits of one pass over the lines, with a row of capped multiplicities for each depth,
  abbrev pub cap_walk : ℕ → List Visit
  cap_walk k = walk (cap_passed k (world_of x)) (λ _. map (cap_at k) (start (world_of x) (root_of x))) (entries (query_rows x))

  -- are the visits, their multiplicities capped;
  pub cap-walk : (k : ℕ) → cap_walk k ≡ map (cap_visit k) (visits_in x)
  cap-walk k =
      sym (visits-walk (cap_passed k (world_of x)) (λ _. map (cap_at k) (start (world_of x) (root_of x))) (entries (query_rows x)) f.steps)
      ∙ visits-cap k (world_of x) (tree_of x) (start (world_of x) (root_of x))

  -- so they are as many, and a running tally of them that is capped at each step is the response's length, capped
  pub walk-count : (k : ℕ) → length (cap_walk k) ≡ length (visits_in x)
  walk-count k = ap length (cap-walk k) ∙ length-map (visits_in x) (cap_visit k)

  pub walk-size : (k : ℕ) → tally k (own (world_of x)) 0 (cap_walk k) ≡ cap_at k (length (response x))
  walk-size k =
      ap (tally k (own (world_of x)) 0)
      (sym (visits-walk (cap_passed k (world_of x)) (λ _. map (cap_at k) (start (world_of x) (root_of x))) (entries (query_rows x)) f.steps))
      ∙ tally_sum k (own (world_of x)) (world_of x) (tree_of x) (start (world_of x) (root_of x))
      ∙ ap (cap_at k) (sym response-size)

  -- and without caps the pass gives the visits themselves
  pub visits-by_line : visits_in x ≡ walk (passed (world_of x)) (λ _. start (world_of x) (root_of x)) (entries (query_rows x))
  visits-by_line = visits-walk (passed (world_of x)) (λ _. start (world_of x) (root_of x)) (entries (query_rows x)) f.steps
