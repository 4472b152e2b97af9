-- The graph's tables in their areas, and the rows read from them. Assumes nothing.
use Prim.Native.Nat.{ℕ, zero, suc, ◌+◌, ◌≤◌, ◌<◌}
use native.Mathlib.Omega.{arith}
use mathlib.Core.Path.{◌≡◌, refl, sym, ap, ap₂, ◌∙◌, subst}
use mathlib.Core.Bool.{Bool, true, false, ◌&&◌}
use mathlib.Core.List.{List, [], ◌∷◌, ◌++◌, append_assoc}
use lib.Dec.{eqb}
use lib.ListN.{length, get_or, take, drop, replicate, length-append, length-replicate}
use lib.Seq.{take-append_seam, drop_at}
use Rattle.rules.specs.Lists.{those, keep_if, any, each, count_up}
use Rattle.rules.specs.Text.{Row, no_row, at, values_of, P}
use Rattle.rules.specs.Schema.{is, nth}
use Rattle.rules.specs.Graph.{Label, label_of, same_label, source, field_of, starts}
use Rattle.tables.specs.Fill.{GraphFits}
use Rattle.tables.specs.Layout.{laid, belongs, valued, table, counted, all_values, node_area, property_area, value_area}
use Rattle.tables.specs.Read.{cell, wide_at, label_at, starts_at}
use Rattle.tables.proofs.Laid.{laid-length, laid_in, laid-before, laid-behind, laid-drop, laid_part}
use Rattle.tables.proofs.Those.{those-front, any-places}
use Rattle.tables.proofs.Cells.{counted-append, values_before}
use Rattle.tables.proofs.Narrow.{Stands, narrow-length}
use Rattle.tables.proofs.Wide.{StandsWide, wide-table_length, wide-number, wide-label}
use Rattle.tables.proofs.Labelling.{Labelled}

-- ---- the values of a property among all values

-- the values before property j are those of the properties before it
pub values-before : (rs : List Row) (j : ℕ) → j < counted 9 rs → values_before 9 rs j ≡ length (each values_of (take j (those (is P) rs)))
unfolding values_before counted belongs valued
values-before [] j h = absurd (omega arith)
values-before (r ∷ rs) j h = go (λ i k. values-before rs i k) (is P r) refl j h
  where
    go : ((i : ℕ) → i < counted 9 rs → values_before 9 rs i ≡ length (each values_of (take i (those (is P) rs))))
        → (b : Bool) → is P r ≡ b → (i : ℕ) → i < length (keep_if b r (those (is P) rs))
        → values_before 9 (r ∷ rs) i ≡ length (each values_of (take i (keep_if b r (those (is P) rs))))
    go ih true e zero k = rw (e, values_before)
    go ih true e (suc i) k =
        rw (e, values_before) (omega (arith, ih i (omega arith), length-append (values_of r) (each values_of (take i (those (is P) rs)))))
    go ih false e zero k = rw (e, values_before) (omega (arith, ih 0 k))
    go ih false e (suc i) k = rw (e, values_before) (omega (arith, ih (suc i) k))

-- lists one after another, cut before and behind list j
pub each-split : {A : Type 0} (g : A → List ℕ) (xs : List A) (d : A) (j : ℕ) → j < length xs
    → each g xs ≡ each g (take j xs) ++ (g (get_or xs j d) ++ each g (drop (suc j) xs))
each-split g [] d j h = absurd (omega arith)
each-split g (x ∷ xs) d zero h = refl
each-split g (x ∷ xs) d (suc j) h =
    ap (λ (l : List ℕ). g x ++ l) (each-split g xs d j (omega arith))
    ∙ sym (append_assoc (g x) (each g (take j xs)) (g (get_or xs j d) ++ each g (drop (suc j) xs)))

module _ (k : ℕ) (rs : List Row) (room : 8200 ≤ k) (fits : length (all_values rs) ≤ 8192) (j : ℕ) (h : j < counted 9 rs) where
  -- the values of property j, from where they start
  pub value_part : take (length (values_of (nth (is P) rs j))) (drop (8 + values_before 9 rs j) (value_area k rs)) ≡ values_of (nth (is P) rs j)
  unfolding value_area all_values counted belongs
  value_part =
      let xs = those (is P) rs in
      let vs = values_of (nth (is P) rs j) in
      let n = length (all_values rs) in
      let start = values_before 9 rs j in
      let front = each values_of (take j xs) in
      let rest = each values_of (drop (suc j) xs) in
      let zeros : List ℕ = replicate k 0 in
      let z : length zeros ≡ k = length-replicate k 0 in
      let s : start ≡ length front = values-before rs j h in
      let e : all_values rs ≡ front ++ (vs ++ rest) = each-split values_of xs no_row j h in
      let l : n ≡ length front + (length vs + length rest) =
      ap length e ∙ length-append front (vs ++ rest) ∙ ap (λ (i : ℕ). length front + i) (length-append vs rest) in
      let lay : length (laid 8 (all_values rs) zeros) ≡ k = laid-length 8 (all_values rs) zeros (omega arith) ∙ z in
      ap (take (length vs)) (laid-drop 0 (n ∷ []) (laid 8 (all_values rs) zeros) (8 + start) (omega arith) (omega arith))
      ∙ laid_part 8 (all_values rs) zeros start (length vs) (omega arith) (omega arith)
      ∙ ap (λ (i : List ℕ). take (length vs) (drop start i)) e
      ∙ ap (take (length vs)) (drop_at front (vs ++ rest) start (sym s))
      ∙ take-append_seam vs rest

-- ---- a row of an edge or a property as it is read

-- Row j of a wide table from `base` on reads as r: node, field, label, and target or list mark.
pub record RowRead (a : List ℕ) (base j : ℕ) (r : Row) : Type 0 where
  pub source : wide_at a base j 2 ≡ source r
  pub field : wide_at a base j 3 ≡ (field_of r).0
  pub third : wide_at a base j 4 ≡ at r 2
  pub label : label_at a base j ≡ label_of r

pub row_read : (a : List ℕ) (k base : ℕ) (rs : List Row) → StandsWide a k base rs → (j : ℕ) → j < counted k rs
    → Labelled (nth (belongs k) rs j) → RowRead a base j (nth (belongs k) rs j)
row_read a k base rs s j h l =
    record {
      source = wide-number a k base rs s j h 0 (omega arith);
      field = wide-number a k base rs s j h 1 (omega arith);
      third = wide-number a k base rs s j h 2 (omega arith);
      label = wide-label a k base rs s j h l.few l.long;
    }

-- the same of the first lines, where more lines follow
pub front_read : (a : List ℕ) (k base : ℕ) (ps rs : List Row) → StandsWide a k base (ps ++ rs) → (j : ℕ) → j < counted k ps
    → Labelled (nth (belongs k) ps j) → RowRead a base j (nth (belongs k) ps j)
unfolding counted
front_read a k base ps rs s j h l =
    let e = those-front (belongs k) ps rs no_row j h in
    subst (RowRead a base j) e
    (row_read a k base (ps ++ rs) s j (omega (arith, counted-append k ps rs)) (subst Labelled (sym e) l))

pub read-starts : (a : List ℕ) (base j : ℕ) (r : Row) (u : ℕ) (l : Label) → RowRead a base j r → starts_at a base u l j ≡ starts u l r
unfolding starts_at
read-starts a base j r u l d = ap₂ (λ (n : ℕ) (m : Label). eqb n u && same_label m l) d.source d.label

-- a test of node, field, label, and target or list mark: of what is read, and of the row
abbrev pub on_read : (ℕ → ℕ → Label → ℕ → Bool) → List ℕ → ℕ → ℕ → Bool
on_read t a base j = t (wide_at a base j 2) (wide_at a base j 3) (label_at a base j) (wide_at a base j 4)

abbrev pub on_row : (ℕ → ℕ → Label → ℕ → Bool) → Row → Bool
on_row t r = t (source r) (field_of r).0 (label_of r) (at r 2)

pub any-read : (a : List ℕ) (base : ℕ) (xs : List Row) → ((j : ℕ) → j < length xs → RowRead a base j (get_or xs j no_row))
    → (t : ℕ → ℕ → Label → ℕ → Bool) → any (on_read t a base) (count_up 0 (length xs)) ≡ any (on_row t) xs
any-read a base xs d t =
    any-places no_row (on_read t a base) (on_row t) xs
    (λ j h i. t ((d j h).source i) ((d j h).field i) ((d j h).label i) ((d j h).third i))

-- ---- the tables in their areas

abbrev nodes_laid : ℕ → List Row → List ℕ
nodes_laid n rs = laid 8 (table 7 0 rs) (replicate n 0)

abbrev edges_laid : ℕ → List Row → List ℕ
edges_laid n rs = laid 1544 (table 8 0 rs) (nodes_laid n rs)

abbrev properties_laid : ℕ → List Row → List ℕ
properties_laid m rs = laid 8 (table 9 0 rs) (replicate m 0)

module _ (n : ℕ) (rs : List Row) (room : 15880 ≤ n) (fits : GraphFits rs) where
  nodes_laid_lem : length (nodes_laid n rs) ≡ n
  nodes_laid_lem =
      let z : length {A = ℕ} (replicate n 0) ≡ n = length-replicate n 0 in
      laid-length 8 (table 7 0 rs) (replicate n 0) (omega (arith, narrow-length 7 rs refl, fits.nodes)) ∙ z

  edges-laid : length (edges_laid n rs) ≡ n
  edges-laid =
      laid-length 1544 (table 8 0 rs) (nodes_laid n rs) (omega (arith, wide-table_length 8 rs refl, nodes_laid_lem, fits.edges)) ∙ nodes_laid_lem

  pub node-length : length (node_area n rs) ≡ n
  unfolding node_area
  node-length = laid-length 0 (counted 7 rs ∷ counted 8 rs ∷ []) (edges_laid n rs) (omega (arith, edges-laid)) ∙ edges-laid

  pub node-count : cell (node_area n rs) 0 ≡ counted 7 rs
  unfolding node_area cell
  node-count = laid_in 0 (counted 7 rs ∷ counted 8 rs ∷ []) (edges_laid n rs) 0 (omega arith) (omega arith)

  pub edge_count : cell (node_area n rs) 1 ≡ counted 8 rs
  unfolding node_area cell
  edge_count = laid_in 0 (counted 7 rs ∷ counted 8 rs ∷ []) (edges_laid n rs) 1 (omega arith) (omega arith)

  pub nodes_stand : Stands (node_area n rs) 7 8 rs
  unfolding node_area cell
  nodes_stand =
      let z : length {A = ℕ} (replicate n 0) ≡ n = length-replicate n 0 in
      record {
        small = refl;
        same = λ i h. laid-behind 0 (counted 7 rs ∷ counted 8 rs ∷ []) (edges_laid n rs) (8 + i) (omega arith) (omega arith)
            ∙ laid-before 1544 (table 8 0 rs) (nodes_laid n rs) (8 + i) (omega (arith, nodes_laid_lem)) (omega (arith, fits.nodes))
            ∙ laid_in 8 (table 7 0 rs) (replicate n 0) i (omega arith) (omega (arith, narrow-length 7 rs refl));
      }

  pub edges-stand : StandsWide (node_area n rs) 8 1544 rs
  unfolding node_area
  edges-stand =
      record {
        large = refl;
        same = λ i c h. ap (take c) (laid-drop 0 (counted 7 rs ∷ counted 8 rs ∷ []) (edges_laid n rs) (1544 + i) (omega arith) (omega arith))
            ∙ laid_part 1544 (table 8 0 rs) (nodes_laid n rs) i c (omega (arith, nodes_laid_lem)) (omega (arith, wide-table_length 8 rs refl));
      }

module _ (m : ℕ) (rs : List Row) (room : 14344 ≤ m) (fits : GraphFits rs) where
  pub property-length : length (property_area m rs) ≡ m
  unfolding property_area
  property-length =
      let z : length {A = ℕ} (replicate m 0) ≡ m = length-replicate m 0 in
      let l : length (properties_laid m rs) ≡ m =
      laid-length 8 (table 9 0 rs) (replicate m 0) (omega (arith, wide-table_length 9 rs refl, fits.properties)) ∙ z in
      laid-length 0 (counted 9 rs ∷ []) (properties_laid m rs) (omega arith) ∙ l

  pub property-count : cell (property_area m rs) 0 ≡ counted 9 rs
  unfolding property_area cell
  property-count = laid_in 0 (counted 9 rs ∷ []) (properties_laid m rs) 0 (omega arith) (omega arith)

  pub properties-stand : StandsWide (property_area m rs) 9 8 rs
  unfolding property_area
  properties-stand =
      let z : length {A = ℕ} (replicate m 0) ≡ m = length-replicate m 0 in
      record {
        large = refl;
        same = λ i c h. ap (take c) (laid-drop 0 (counted 9 rs ∷ []) (properties_laid m rs) (8 + i) (omega arith) (omega arith))
            ∙ laid_part 8 (table 9 0 rs) (replicate m 0) i c (omega arith) (omega (arith, wide-table_length 9 rs refl));
      }
