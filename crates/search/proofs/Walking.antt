-- The search of a check for an earlier line that clashes: where it begins, and that its steps leave no such line out. Assumes nothing.
use Prim.Native.Nat.{ℕ, ◌%◌, ◌<◌}
use native.Mathlib.Omega.{arith}
use native.Mathlib.Decide.{ℕ_discrete}
use mathlib.Core.Path.{◌≡◌, refl}
use mathlib.Core.Logic.{inl, inr}
use mathlib.Core.Bool.{Bool, true, false, cond}
use mathlib.Core.List.{List}
use lib.Dec.{eqb}
use lib.ListN.{get_or}
use borrow.Author.Tests.{eqb-true, eqb-false}
use Rattle.rules.specs.Text.{E, G, H}
use Rattle.text.specs.declared.Row.{Row as Read}
use Rattle.tables.specs.Read.{cell, wide_at, pair_at}
use Rattle.index.specs.Index.{node_at, head_in, next_in, Chained}
use Rattle.index.specs.Buckets.{bucket_at}
use Rattle.schema.specs.Held.{SchemaHeld, Bucketed}
use Rattle.graph.specs.Faults.{diverts_at, twin_edge, twin_property}
use Rattle.search.specs.declared.Counts.{Counts}
use Rattle.search.specs.Search.{Areas, limit, clash, indexed, head_of, step_of, Indexed, Clashable, Stepping}
use Rattle.search.specs.Search.{pair_base, pair_rows, pair_links, pair_first, pair_next, first_asked, next_asked}
use Rattle.search.proofs.Splitting.{Searched, by_11, by_12, by_13, by_14, by_15, by_21, by_22, by_23, by_24, by_25, by_26, by_31}
use Rattle.schema.proofs.Following.{Seeking, seek_all, seek_none, seek_chain, pair_other}
use Rattle.search.proofs.Chained.{diverts_other, edge_other, property_other}

-- the search of a check has come to the j-th earlier line
abbrev pub SeekingAt : ℕ → Areas → List ℕ → Read → ℕ → ℕ → Type 0
SeekingAt n x i r m j = Seeking (clash n x r) m (next_asked n x.schema x.nodes x.properties i r) j

-- an earlier line stands among the 1,024 of its table
pub earlier-few : (n : ℕ) (x : Areas) (r : Read) (j : ℕ) → Clashable n x r j → j < 1024
earlier-few n x r j h = go (ℕ_discrete n 13) (ℕ_discrete n 25) (ℕ_discrete r.letter E)
  where
    go : Dec (n ≡ 13) → Dec (n ≡ 25) → Dec (r.letter ≡ E) → j < 1024
    go (yes a) b d = (h.pair a).1
    go (no a) (yes b) d = omega (arith, h.inside a (inl b), (h.edge a).0.edges)
    go (no a) (no b) (yes d) = omega (arith, h.inside a (inr d), (h.edge a).0.edges)
    go (no a) (no b) (no d) = omega (arith, h.within a b d, (h.edge a).1.properties)

-- ---- 25 and 26: along the chain of the line's node

module _ (x : Areas) (i : List ℕ) (c : Counts) (r : Read) (ready : Indexed x.nodes x.properties i) (m : ℕ) where
  abbrev node : ℕ
  node = get_or r.nums 0 0

  abbrev edges : ℕ
  edges = cell x.nodes 1

  abbrev properties : ℕ
  properties = cell x.properties 0

  seek_edges : (p : ℕ → Bool) → ((k : ℕ) → eqb (wide_at x.nodes 1544 k 2) node ≡ false → p k ≡ false) → ((j : ℕ) → j < m → j < edges)
      → Seeking p m (next_in i 0 edges) (head_in i 0 edges node)
  seek_edges p other inside = seek_chain (node_at x.nodes 1544) edges i 0 ready.edges node p other m inside

  seek_properties : (p : ℕ → Bool) → ((k : ℕ) → eqb (wide_at x.properties 8 k 2) node ≡ false → p k ≡ false)
      → ((j : ℕ) → j < m → j < properties) → Seeking p m (next_in i 1536 properties) (head_in i 1536 properties node)
  seek_properties p other inside = seek_chain (node_at x.properties 8) properties i 1536 ready.properties node p other m inside

  -- the chain by the line's letter, as the code chooses it
  abbrev head : Bool → ℕ
  head b = cond b (head_in i 0 edges node) (head_in i 1536 properties node)

  abbrev step : Bool → ℕ → ℕ
  step b j = cond b (next_in i 0 edges j) (next_in i 1536 properties j)

  by_letter_25 : (b : Bool) → eqb r.letter E ≡ b → m ≡ limit 25 x c r → ((j : ℕ) → j < m → Clashable 25 x r j)
      → Seeking (diverts_at x.nodes r.nums) m (step b) (head b)
  unfolding limit
  by_letter_25 true e l h =
      seek_edges (diverts_at x.nodes r.nums) (λ k. diverts_other r.nums k x.nodes)
      (λ j k. (h j k).inside (λ q. omega arith) (inl refl))
  by_letter_25 false e l h = seek_none (diverts_at x.nodes r.nums) m (rw e at l) (step false) (head false)

  by_letter_26 : (b : Bool) → eqb r.letter E ≡ b → ((j : ℕ) → j < m → Clashable 26 x r j)
      → Seeking (λ j. cond b (twin_edge x.nodes r.nums j) (twin_property x.properties r.nums j)) m (step b) (head b)
  by_letter_26 true e h =
      seek_edges (twin_edge x.nodes r.nums) (λ k. edge_other r.nums k x.nodes)
      (λ j k. (h j k).inside (λ q. omega arith) (inr (eqb-true r.letter E e)))
  by_letter_26 false e h =
      seek_properties (twin_property x.properties r.nums) (λ k. property_other r.nums k x.properties)
      (λ j k. (h j k).within (λ q. omega arith) (λ q. omega arith) (eqb-false r.letter E e))

-- ---- 13: along the chain of the line's first number

module _ (a : List ℕ) (held : SchemaHeld a) (u v m : ℕ) where
  -- the pairs of a letter, of which the first m are asked
  abbrev Pairs : ℕ → Type 0
  Pairs l = ((j : ℕ) → j < m → j < pair_rows a l) → Seeking (pair_at a (pair_base l) u v) m (pair_next a l) (pair_first a l u)

  seek_pairs : (base n at : ℕ) → Chained (bucket_at a base) n a at → ((j : ℕ) → j < m → j < n)
      → Seeking (pair_at a base u v) m (next_in a at n) (head_in a at n (u % 512))
  seek_pairs base n at linked inside =
      seek_chain (bucket_at a base) n a at linked (u % 512) (pair_at a base u v) (λ k. pair_other a base u v k) m inside

  has_links : Chained (bucket_at a 776) (cell a 3) a 9992
  unfolding Bucketed
  has_links = held.has_links

  takes-links : Chained (bucket_at a 3848) (cell a 4) a 11528
  unfolding Bucketed
  takes-links = held.takes_links

  member_links : Chained (bucket_at a 6920) (cell a 5) a 13064
  unfolding Bucketed
  member_links = held.member_links

  by_letter_13 : (l : ℕ) → Pairs l
  unfolding pair_base pair_rows pair_links pair_next pair_first
  by_letter_13 l = go (eqb l H) (eqb l G)
    where
      go : (b d : Bool) → ((j : ℕ) → j < m → j < cell a (cond b 3 (cond d 4 5)))
          → Seeking (pair_at a (cond b 776 (cond d 3848 6920)) u v) m
          (next_in a (cond b 9992 (cond d 11528 13064)) (cell a (cond b 3 (cond d 4 5))))
          (head_in a (cond b 9992 (cond d 11528 13064)) (cell a (cond b 3 (cond d 4 5))) (u % 512))
      go true d inside = seek_pairs 776 (cell a 3) 9992 has_links inside
      go false true inside = seek_pairs 3848 (cell a 4) 11528 takes-links inside
      go false false inside = seek_pairs 6920 (cell a 5) 13064 member_links inside

-- ---- every check

module _ (x : Areas) (i : List ℕ) (c : Counts) (r : Read) where
  abbrev Begins : ℕ → Type 0
  Begins n =
      Stepping n x i c r → (m : ℕ) → m ≡ limit n x c r
      → SeekingAt n x i r m (first_asked n x.schema x.nodes x.properties i r)

  begins_13 : Begins 13
  unfolding clash first_asked next_asked
  begins_13 s m l =
      by_letter_13 x.schema (s.pairs.held refl) (get_or r.nums 0 0) (get_or r.nums 1 0) m r.letter
      (λ j k. s.paired refl j (omega arith))

  begins_25 : Begins 25
  unfolding clash indexed head_of step_of first_asked next_asked
  begins_25 s m l =
      by_letter_25 x i c r (s.ready.linked refl) m (eqb r.letter E) refl l (λ j k. s.clashable j (omega arith))

  begins_26 : Begins 26
  unfolding clash indexed head_of step_of first_asked next_asked
  begins_26 s m l = by_letter_26 x i c r (s.ready.linked refl) m (eqb r.letter E) refl (λ j k. s.clashable j (omega arith))

  -- The search begins at the head, and no line before it clashes. But for 13, 25 and 26 all earlier lines are asked in turn.
  pub seek_start : {n : ℕ} → Searched n → Begins n
  unfolding indexed head_of step_of first_asked next_asked
  seek_start by_11 s m l = seek_all (clash 11 x r) m
  seek_start by_12 s m l = seek_all (clash 12 x r) m
  seek_start by_13 s m l = begins_13 s m l
  seek_start by_14 s m l = seek_all (clash 14 x r) m
  seek_start by_15 s m l = seek_all (clash 15 x r) m
  seek_start by_21 s m l = seek_all (clash 21 x r) m
  seek_start by_22 s m l = seek_all (clash 22 x r) m
  seek_start by_23 s m l = seek_all (clash 23 x r) m
  seek_start by_24 s m l = seek_all (clash 24 x r) m
  seek_start by_25 s m l = begins_25 s m l
  seek_start by_26 s m l = begins_26 s m l
  seek_start by_31 s m l = seek_all (clash 31 x r) m
