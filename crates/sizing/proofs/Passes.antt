-- The loop of sizing over the query's entries: what is left to tally at entry k is one walk over the entries from k on. Assumes nothing.
use Prim.Native.Nat.{ℕ, zero, suc, ◌+◌, ◌*◌, ◌≤◌, ◌<◌}
use native.Mathlib.Nat.{eq-or-lt_of_le}
use native.Mathlib.Omega.{arith}
use mathlib.Core.Path.{◌≡◌, refl, sym, ap, ap₂, ◌∙◌, subst, fun_ext}
use mathlib.Core.Logic.{◌⊎◌, inl, inr}
use mathlib.Core.Bool.{Bool, true, false}
use mathlib.Core.List.{List, [], ◌∷◌, ◌++◌, map}
use lib.ListN.{length, take, drop, length-map}
use lib.Seq.{take-take, take-nil, take_at, take-length, length-take-le}
use lib.Dec.{eqb}
use Rattle.rules.specs.Lists.{times, count_up, one_if}
use Rattle.rules.specs.Text.{Row}
use Rattle.rules.specs.Tree.{Asks, Entry, siblings, entries, tree}
use Rattle.rules.specs.World.{World}
use Rattle.rules.specs.Eval.{next}
use Rattle.rules.specs.Sizing.{weighed, start, Visit, visits_of, visits, own, summed, cap_at, most, cap}
use Rattle.rules.proofs.Preorder.{Steps}
use Rattle.rules.proofs.Walk.{put, put_same, put_other, walk, visits-walk}
use Rattle.rules.proofs.Cap.{cap_passed, cap_visit, cap_visits, visits-cap, tally, tally-from}
use Rattle.rules.proofs.Size.{length-count_up, length-start}
use Rattle.tables.specs.Read.{cell, wide_at}
use Rattle.tables.specs.Layout.{laid}
use Rattle.tables.proofs.Laid.{laid_part}
use Rattle.query.specs.Entries.{QueryHeld, entries_at}
use Rattle.world.specs.World.{world_at, root_at, asks_at, entry_in, WorldHeld}
use Rattle.sizing.specs.Measure.{add_to, tallied, measured, row_in, passed_on, QuerySteps}
use Rattle.sizing.specs.declared.Tally.{Tally}
use Rattle.world.proofs.Asked.{entries_end, entries-more}
use Rattle.world.proofs.Targets.{world-size, world-next}
use Rattle.sizing.proofs.Tallying.{tallied-append}

-- ---- the walk over all entries gives what sizing gives

tallied-from : (w : World) (s n : ℕ) (vs : List Visit)
    → tallied w (record { size = s; visits = n }) vs ≡ record { size = tally most (own w) s vs; visits = n + length vs }
unfolding tallied add_to
tallied-from w s n [] = let z : n ≡ n + 0 = omega arith in ap (λ (x : ℕ). record { size = s; visits = x }) z
tallied-from w s n (v ∷ vs) =
    let o = own w v.entry.asks v.at in
    let z : suc n + length vs ≡ n + suc (length vs) = omega arith in
    tallied-from w (cap (s + v.times * o)) (suc n) vs
    ∙ ap (λ (x : ℕ). record { size = tally most (own w) (cap (s + v.times * o)) vs; visits = x }) z

-- the first row's numbers are 0 and 1, which the cap keeps
module _ (k : ℕ) where
  cap-one : (b : Bool) → cap_at k (one_if b) ≡ one_if b
  cap-one true = omega arith
  cap-one false = omega arith

  cap_ones : (q : ℕ) (vs : List ℕ) → map (cap_at k) (map (λ v. one_if (eqb v q)) vs) ≡ map (λ v. one_if (eqb v q)) vs
  cap_ones q [] = refl
  cap_ones q (v ∷ vs) = ap₂ (λ (x : ℕ) (l : List ℕ). x ∷ l) (cap-one (eqb v q)) (cap_ones q vs)

  cap-walk : (w : World) (es : List Entry) (root : ℕ) → Steps 0 es
      → walk (cap_passed k w) (λ _. start w root) es ≡ map (cap_visit k) (visits w (siblings es 0) (start w root))
  cap-walk w es root s =
      sym (visits-walk (cap_passed k w) (λ _. start w root) es s)
      ∙ ap (cap_visits k w (siblings es 0)) (sym (cap_ones root (count_up 0 w.size)))
      ∙ visits-cap k w (siblings es 0) (start w root)

  tally-all : (g : Asks → ℕ → ℕ) (vs : List Visit) → tally k g 0 (map (cap_visit k) vs) ≡ cap_at k (summed g vs)
  tally-all g vs =
      let z : ◌≡◌ {A = ℕ} 0 (cap_at k 0) = omega arith in
      ap (λ (n : ℕ). tally k g n (map (cap_visit k) vs)) z ∙ tally-from k g 0 vs ∙ ap (cap_at k) (omega arith)

walk-measured : (w : World) (rs : List Row) (root : ℕ) → Steps 0 (entries rs)
    → tallied w (record { size = 0; visits = 0 }) (walk (passed_on w) (λ _. start w root) (entries rs)) ≡ measured w rs root
unfolding measured passed_on
walk-measured w rs root s =
    let vs = visits w (tree rs) (start w root) in
    let e = cap-walk most w (entries rs) root s in
    let z : 0 + length (map (cap_visit most) vs) ≡ length vs = omega (arith, length-map vs (cap_visit most)) in
    tallied-from w 0 0 (walk (passed_on w) (λ _. start w root) (entries rs))
    ∙ ap (λ (l : List Visit). record { size = tally most (own w) 0 l; visits = 0 + length l }) e
    ∙ ap₂ (λ (x y : ℕ). record { size = x; visits = y }) (tally-all most (own w) vs) z

-- ---- the children's row and the first row ask no properties

passed_length : (w : World) (a : Asks) (row : List ℕ) → length (passed_on w a row) ≡ w.size
unfolding passed_on
passed_length w a row = length-map (count_up 0 w.size) _ ∙ length-count_up 0 w.size

passed-by : (w w' : World) (a : Asks) (row : List ℕ) → w.size ≡ w'.size → ((u : ℕ) → next w a u ≡ next w' a u)
    → passed_on w a row ≡ passed_on w' a row
unfolding passed_on
passed-by w w' a row sizes nexts =
    ap₂ (λ (f : ℕ → List ℕ) (n : ℕ). map (λ v. cap (weighed (λ u. times v (f u)) 0 row)) (count_up 0 n)) (fun_ext nexts) sizes

start-by : (w w' : World) (root : ℕ) → w.size ≡ w'.size → start w root ≡ start w' root
start-by w w' root sizes = ap (λ (n : ℕ). map (λ v. one_if (eqb v root)) (count_up 0 n)) sizes

module _ (a g p v : List ℕ) where
  sizes : (world_at a g [] []).size ≡ (world_at a g p v).size
  sizes = world-size a g [] [] ∙ sym (world-size a g p v)

  start_plain : (root : ℕ) → start (world_at a g [] []) root ≡ start (world_at a g p v) root
  start_plain root = start-by (world_at a g [] []) (world_at a g p v) root sizes

  passed-plain : (x : Asks) (row : List ℕ) → passed_on (world_at a g [] []) x row ≡ passed_on (world_at a g p v) x row
  passed-plain x row = passed-by (world_at a g [] []) (world_at a g p v) x row sizes (λ u. sym (world-next a g p v x u))

-- ---- rows in an area

-- the row that was laid
laid-row : (b : ℕ) (row m : List ℕ) (n : ℕ) → length row ≡ n → b + n ≤ length m → row_in (laid b row m) b n ≡ row
unfolding row_in
laid-row b row m n e h =
    let z : b ≡ b + 0 = omega arith in
    ap (λ (i : ℕ). take n (drop i (laid b row m))) z
    ∙ laid_part b row m 0 n (omega arith) (omega arith)
    ∙ ap (λ (i : ℕ). take i row) (sym e) ∙ take-length row

row-take : (m : List ℕ) (c n b : ℕ) → c + n ≤ b → row_in (take b m) c n ≡ row_in m c n
unfolding row_in
row-take m zero n b h = take-take n b m (omega arith)
row-take [] (suc c) n b h = rw take-nil
row-take (x ∷ m) (suc c) n zero h = absurd (omega arith)
row-take (x ∷ m) (suc c) n (suc b) h = row-take m c n b (omega arith)

take-laid : (b : ℕ) (row m : List ℕ) → b ≤ length m → take b (laid b row m) ≡ take b m
unfolding laid
take-laid b row m h = take_at (take b m) (row ++ drop (b + length row) m) b (length-take-le b m h)

-- a row below it
row_kept : (b : ℕ) (row m : List ℕ) (c n : ℕ) → b ≤ length m → c + n ≤ b → row_in (laid b row m) c n ≡ row_in m c n
row_kept b row m c n f h =
    sym (row-take (laid b row m) c n b h) ∙ ap (λ (l : List ℕ). row_in l c n) (take-laid b row m f) ∙ row-take m c n b h

-- ---- the loop: entries es are left, the rows of the open depths stand in the area, and the tally of the walk over es is the goal

pub record Left (w : World) (goal : Tally) (n : ℕ) (es : List Entry) (k : ℕ) (m : List ℕ) (t : Tally) : Type 0 where
  pub rows : ℕ → List ℕ
  pub deep : ℕ
  pub steps : Steps deep es
  pub held : (j : ℕ) → j ≤ deep → j ≤ 15 → row_in m (512 * j) n ≡ rows j
  pub left : tallied w t (walk (passed_on w) rows es) ≡ goal
  pub few : t.visits ≤ 512 * k

left_none : (w : World) (goal : Tally) (n k : ℕ) (m : List ℕ) (t : Tally) → Left w goal n [] k m t → t ≡ goal
unfolding tallied
left_none w goal n k m t x = x.left

-- one entry: its visits are tallied, and its children's row is put below its own, where there is a depth below
module _ (w : World) (goal : Tally) (n k : ℕ) (e : Entry) (es : List Entry) (m m' : List ℕ) (t t' : Tally)
    (x : Left w goal n (e ∷ es) k m t) (low : e.level ≤ 15) (small : n ≤ 512)
    (adds : t' ≡ tallied w t (visits_of e 0 (row_in m (512 * e.level) n))) (slow : t'.visits ≤ t.visits + n) where
  row_here : row_in m (512 * e.level) n ≡ x.rows e.level
  row_here = x.held e.level x.steps.0 low

  turned : ((j : ℕ) → j ≤ e.level → row_in m' (512 * j) n ≡ row_in m (512 * j) n)
      → (suc e.level ≤ 15 → row_in m' (512 * suc e.level) n ≡ passed_on w e.asks (row_in m (512 * e.level) n))
      → Left w goal n es (k + 1) m' t'
  turned same below =
      let d = e.level in
      let row = passed_on w e.asks (x.rows d) in
      let new = put x.rows (suc d) row in
      record {
        rows = new;
        deep = suc d;
        steps = x.steps.1;
        held = λ j h l. go j l (eq-or-lt_of_le h);
        left =
            ap (λ (s : Tally). tallied w s (walk (passed_on w) new es)) (adds ∙ ap (λ (r : List ℕ). tallied w t (visits_of e 0 r)) row_here)
            ∙ sym (tallied-append w t (visits_of e 0 (x.rows d)) (walk (passed_on w) new es))
            ∙ x.left;
        few = omega (arith, x.few);
      }
    where
      go : (j : ℕ) → j ≤ 15 → (j ≡ suc e.level) ⊎ (j < suc e.level)
          → row_in m' (512 * j) n ≡ put x.rows (suc e.level) (passed_on w e.asks (x.rows e.level)) j
      go j l (inl i) =
          let d = e.level in
          let row = passed_on w e.asks (x.rows d) in
          let h : suc d ≤ 15 = omega arith in
          subst (λ (y : ℕ). row_in m' (512 * y) n ≡ put x.rows (suc d) row y) (sym i)
          (below h ∙ ap (passed_on w e.asks) row_here ∙ sym (put_same (passed_on w) x.rows (suc d) row))
      go j l (inr i) =
          same j (omega arith) ∙ x.held j (omega (arith, x.steps.0)) l
          ∙ put_other (passed_on w) x.rows (suc e.level) (passed_on w e.asks (x.rows e.level)) j i

  -- no depth below
  flat : 15 ≤ e.level → m' ≡ m → Left w goal n es (k + 1) m' t'
  flat h is = turned (λ j l. ap (λ (y : List ℕ). row_in y (512 * j) n) is) (λ l. absurd (omega arith))

  -- the children's row laid below
  down : e.level < 15 → 8192 ≤ length m → n ≡ w.size
      → m' ≡ laid (512 * e.level + 512) (passed_on w e.asks (row_in m (512 * e.level) n)) m → Left w goal n es (k + 1) m' t'
  down h long all is =
      let d = e.level in
      let row = passed_on w e.asks (row_in m (512 * d) n) in
      let b : 512 * suc d ≡ 512 * d + 512 = omega arith in
      turned
      (λ j l. ap (λ (y : List ℕ). row_in y (512 * j) n) is ∙ row_kept (512 * d + 512) row m (512 * j) n (omega arith) (omega arith))
      (λ l.
      ap₂ (λ (y : List ℕ) (i : ℕ). row_in y i n) is b
      ∙ laid-row (512 * d + 512) row m n (passed_length w e.asks (row_in m (512 * d) n) ∙ sym all) (omega arith))

-- ---- the same over areas

module _ (a g p v q : List ℕ) where
  abbrev pub Sized : ℕ → List ℕ → Tally → Type 0
  Sized k m t =
      Left (world_at a g p v) (measured (world_at a g p v) (entries_at q) (root_at a g)) (cell g 0) (drop k (entries (entries_at q))) k m t

  pub sized-start : QuerySteps q → (m m' : List ℕ) → cell g 0 ≤ length m → m' ≡ laid 0 (start (world_at a g [] []) (root_at a g)) m
      → Sized 0 m' (record { size = 0; visits = 0 })
  sized-start s m m' h is =
      let w = world_at a g p v in
      let root = root_at a g in
      let wide : length (start w root) ≡ cell g 0 = length-start w root ∙ world-size a g p v in
      let first : row_in m' 0 (cell g 0) ≡ start w root =
      ap (λ (y : List ℕ). row_in y 0 (cell g 0)) (is ∙ ap (λ (r : List ℕ). laid 0 r m) (start_plain a g p v root))
      ∙ laid-row 0 (start w root) m (cell g 0) wide (omega arith) in
      record {
        rows = λ _. start w root;
        deep = 0;
        steps = s.steps;
        held = λ j l u. let z : 512 * j ≡ 0 = omega arith in ap (λ (i : ℕ). row_in m' i (cell g 0)) z ∙ first;
        left = walk-measured w (entries_at q) root s.steps;
        few = omega arith;
      }

  module _ (k : ℕ) (m : List ℕ) (t : Tally) (x : Sized k m t) where
    pub sized_end : cell q 0 ≤ k → t ≡ measured (world_at a g p v) (entries_at q) (root_at a g)
    sized_end h =
        let w = world_at a g p v in
        let goal = measured w (entries_at q) (root_at a g) in
        left_none w goal (cell g 0) k m t (subst (λ (es : List Entry). Left w goal (cell g 0) es k m t) (entries_end q k h) x)

    module _ (d : ℕ) (m' : List ℕ) (t' : Tally) {ix : List ℕ} (held : WorldHeld a g p v ix) (asks : QueryHeld q) (inside : k < cell q 0)
        (depth : d ≡ wide_at q 8 k 2) (adds : t' ≡ tallied (world_at a g p v) t (visits_of (entry_in q k) 0 (row_in m (512 * d) (cell g 0))))
        (slow : t'.visits ≤ t.visits + cell g 0) where
      next_left : Left (world_at a g p v) (measured (world_at a g p v) (entries_at q) (root_at a g)) (cell g 0)
          (entry_in q k ∷ drop (k + 1) (entries (entries_at q))) k m t
      next_left = rw (entries-more q k inside) at x

      level_low : (entry_in q k).level ≤ 15
      unfolding entry_in
      level_low = asks.depths k inside

      level_is : d ≡ (entry_in q k).level
      unfolding entry_in
      level_is = depth

      adds_here : t' ≡ tallied (world_at a g p v) t (visits_of (entry_in q k) 0 (row_in m (512 * (entry_in q k).level) (cell g 0)))
      adds_here = subst (λ (y : ℕ). t' ≡ tallied (world_at a g p v) t (visits_of (entry_in q k) 0 (row_in m (512 * y) (cell g 0)))) level_is adds

      pub sized-flat : 15 ≤ d → m' ≡ m → Sized (k + 1) m' t'
      sized-flat h is =
          let w = world_at a g p v in
          let l : 15 ≤ (entry_in q k).level = omega (arith, level_is) in
          flat w (measured w (entries_at q) (root_at a g)) (cell g 0) k (entry_in q k) (drop (k + 1) (entries (entries_at q))) m m' t t'
          next_left level_low held.graph.edges.nodes.nodes adds_here slow l is

      pub sized-down : d < 15 → 8192 ≤ length m
          → m' ≡ laid (512 * d + 512) (passed_on (world_at a g [] []) (asks_at q k) (row_in m (512 * d) (cell g 0))) m → Sized (k + 1) m' t'
      unfolding entry_in
      sized-down h long is =
          let w = world_at a g p v in
          let l : (entry_in q k).level < 15 = omega (arith, level_is) in
          let is' = is ∙ ap (λ (r : List ℕ). laid (512 * d + 512) r m) (passed-plain a g p v (asks_at q k) (row_in m (512 * d) (cell g 0))) in
          let is'' : m' ≡ laid (512 * (entry_in q k).level + 512) (passed_on w (asks_at q k) (row_in m (512 * (entry_in q k).level) (cell g 0))) m =
          subst (λ (y : ℕ). m' ≡ laid (512 * y + 512) (passed_on w (asks_at q k) (row_in m (512 * y) (cell g 0))) m) level_is is' in
          down w (measured w (entries_at q) (root_at a g)) (cell g 0) k (entry_in q k) (drop (k + 1) (entries (entries_at q))) m m' t t'
          next_left level_low held.graph.edges.nodes.nodes adds_here slow l long (sym (world-size a g p v)) is''
