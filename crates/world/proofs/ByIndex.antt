-- Answers through the index are the answers without it. Assumes nothing.
use Prim.Native.Nat.{ℕ, zero, suc, ◌+◌, ◌-◌, ◌≤◌, ◌<◌}
use native.Mathlib.Omega.{arith}
use native.Mathlib.Decide.{dec_lt}
use mathlib.Core.Path.{◌≡◌, refl, sym, ap, ◌∙◌, fun_ext}
use mathlib.Core.Bool.{Bool, cond}
use mathlib.Core.List.{List, [], ◌∷◌, map}
use lib.Dec.{eqb, ltb}
use borrow.Author.Tests.{le-ltb, eqb-true}
use Rattle.rules.specs.Lists.{those, count_up}
use Rattle.rules.specs.Graph.{Label, same_label}
use Rattle.rules.specs.Tree.{Forest}
use Rattle.rules.specs.World.{World}
use Rattle.rules.specs.Eval.{eval}
use Rattle.rules.specs.Sizing.{visits, start, total}
use Rattle.tables.proofs.Those.{those-those}
use Rattle.tables.specs.Read.{cell, wide_at, label_at, starts_at, targets_at, found_at, graph_at}
use Rattle.index.specs.Index.{led_to, node_at, own_from, chain, Linked}
use Rattle.index.proofs.Links.{first_in_lem, first_out, own_skip}
use Rattle.index.proofs.Chains.{first-own, chain-own}
use Rattle.world.specs.World.{world_at}
use Rattle.world.specs.ByIndex.{chain_of, rows_by, targets_by, lookup_by, world_by}

-- ---- rows along a chain

module _ (a : List ℕ) (base n : ℕ) (x : List ℕ) (at : ℕ) (linked : Linked a base n x at) (u : ℕ) where
  abbrev own : ℕ → Bool
  own i = eqb (wide_at a base i 2) u

  -- behind the last row there is none
  chain_end : (k : ℕ) → chain x at n k n ≡ []
  unfolding chain
  chain_end zero = refl
  chain_end (suc k) = ap (λ (b : Bool). cond b (n ∷ chain x at n k (led_to n (cell x (at + 512 + n)))) []) (le-ltb n n (omega arith))

  -- no row is of a number that is no node's
  own-none : 512 ≤ u → those own (count_up 0 n) ≡ []
  own-none h =
      let z : n ≡ n - 0 = omega arith in
      let r : n ≡ own_from (node_at a base) n u 0 = first-own (node_at a base) n x at linked u n (first_out x at n u h) in
      let y : n - own_from (node_at a base) n u 0 ≡ 0 = omega (arith, r) in
      ap (λ (k : ℕ). those own (count_up 0 k)) z
      ∙ own_skip (node_at a base) n u 0 own (λ i t. eqb-true (wide_at a base i 2) u t)
      ∙ ap (λ (k : ℕ). those own (count_up (own_from (node_at a base) n u 0) k)) y

  -- A node's chain has the node's rows, in their order; of a number that is no node's there are none.
  pub chain-rows : chain_of x at n u ≡ those own (count_up 0 n)
  unfolding chain_of
  chain-rows = go (dec_lt u 512)
    where
      go : Dec (u < 512) → chain x at n n (cond (ltb u 512) (led_to n (cell x (at + u))) n) ≡ those own (count_up 0 n)
      go (yes d) = ap (chain x at n n) (sym (first_in_lem x at n u (led_to n (cell x (at + u))) d refl)) ∙ chain-own (node_at a base) n x at linked u d
      go (no d) = ap (chain x at n n) (sym (first_out x at n u (omega arith))) ∙ chain_end n ∙ sym (own-none (omega arith))

  pub rows_same : (l : Label) → rows_by a base n x at u l ≡ those (starts_at a base u l) (count_up 0 n)
  unfolding rows_by starts_at
  rows_same l =
      ap (those (λ i. same_label (label_at a base i) l)) chain-rows
      ∙ those-those own (λ i. same_label (label_at a base i) l) (count_up 0 n)

-- ---- the World

module _ (a g p v x : List ℕ) (edges : Linked g 1544 (cell g 1) x 0) (properties : Linked p 8 (cell p 0) x 1536) where
  -- The targets along the chain are the targets of the definition, in order.
  pub same_targets : (u : ℕ) (l : Label) → targets_by g x u l ≡ (world_at a g p v).targets u l
  unfolding targets_by world_at graph_at targets_at
  same_targets u l = ap (map (λ e. wide_at g 1544 e 4)) (rows_same g 1544 (cell g 1) x 0 edges u l)

  -- What is found along the chain is what the definition finds.
  pub same_lookup : (u : ℕ) (l : Label) → lookup_by p v x u l ≡ (world_at a g p v).lookup u l
  unfolding lookup_by world_at graph_at
  same_lookup u l = ap (found_at p v) (rows_same p 8 (cell p 0) x 1536 properties u l)

  -- The World through the index is the World without it.
  pub same-world : world_by a g p v x ≡ world_at a g p v
  unfolding world_by
  same-world =
      let w = world_at a g p v in
      let found = fun_ext (λ u. fun_ext (λ l. same_lookup u l)) in
      let led = fun_ext (λ u. fun_ext (λ l. same_targets u l)) in
      λ i. record { size = w.size; shape = w.shape; lookup = found i; targets = led i; holds = w.holds }

  -- ---- so every answer is the same, whatever is asked at whatever node

  -- the response of Definition 6
  pub same-response : (query : Forest) (u : ℕ) → eval (world_by a g p v x) query u ≡ eval (world_at a g p v) query u
  same-response query u = ap (λ (w : World). eval w query u) same-world

  -- the visits, in their order
  pub same-visits : (query : Forest) (u : ℕ)
      → visits (world_by a g p v x) query (start (world_by a g p v x) u) ≡ visits (world_at a g p v) query (start (world_at a g p v) u)
  same-visits query u = ap (λ (w : World). visits w query (start w u)) same-world

  -- the size
  pub same_size : (query : Forest) (u : ℕ)
      → total (world_by a g p v x) (visits (world_by a g p v x) query (start (world_by a g p v x) u))
      ≡ total (world_at a g p v) (visits (world_at a g p v) query (start (world_at a g p v) u))
  same_size query u = ap (λ (w : World). total w (visits w query (start w u))) same-world
