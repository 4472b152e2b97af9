-- Laws of laying: a turn of the loop over the rows, and the index from its two halves. Assumes nothing.
use Prim.Native.Nat.{ℕ, suc, ◌+◌, ◌-◌, ◌≤◌, ◌<◌}
use native.Mathlib.Omega.{arith}
use native.Mathlib.Decide.{dec_lt, ℕ_discrete}
use mathlib.Core.Path.{◌≡◌, refl, sym, ap, ◌∙◌, subst}
use mathlib.Core.Bool.{Bool, cond}
use mathlib.Core.List.{List}
use lib.Dec.{ltb}
use lib.ListN.{length, get_or, set, replicate, length-set, length-replicate, get_or-replicate}
use lib.Seq.{get_or-set_same, get_or-set_other, ext_get_or}
use borrow.Author.Tests.{lt-ltb, le-ltb}
use Rattle.tables.specs.Read.{cell}
use Rattle.index.specs.Index.{link_from, first_link, next_link, link_cell, index_cell, index_by, keys, Keyed, Blank, row_linked, LinksLaid}
use Rattle.index.proofs.Links.{tabled-length, tabled-at, keys_length, keys-at, link-own, link_other, link_end}

-- ---- cells of the links and of the index

module _ (ss : List ℕ) where
  pub cell-first : (u : ℕ) → u < 512 → link_cell ss u ≡ link_from ss u 0
  unfolding link_cell first_link
  cell-first u h = ap (λ (b : Bool). cond b (link_from ss u 0) (next_link ss (u - 512))) (lt-ltb u 512 h)

  pub cell-next : (j : ℕ) → link_cell ss (512 + j) ≡ next_link ss j
  unfolding link_cell
  cell-next j =
      let z : 512 + j - 512 ≡ j = omega arith in
      ap (λ (b : Bool). cond b (first_link ss (512 + j)) (next_link ss (512 + j - 512))) (le-ltb (512 + j) 512 (omega arith))
      ∙ ap (next_link ss) z

module _ (n : ℕ) (es ps : List ℕ) where
  pub index_length : length (index_by n es ps) ≡ n
  unfolding index_by
  index_length = tabled-length (index_cell es ps) n 0

  index_cell_lem : (i : ℕ) → i < n → cell (index_by n es ps) i ≡ index_cell es ps i
  unfolding index_by cell
  index_cell_lem i h = tabled-at (index_cell es ps) 0 n i h

  pub index_edge : (i : ℕ) → i < 1536 → i < n → cell (index_by n es ps) i ≡ link_cell es i
  unfolding index_cell
  index_edge i h l =
      index_cell_lem i l
      ∙ ap (λ (b : Bool). cond b (link_cell es i) (cond (ltb i 3072) (link_cell ps (i - 1536)) 0)) (lt-ltb i 1536 h)

  behind : (i : ℕ) → 1536 ≤ i → i < n → cell (index_by n es ps) i ≡ cond (ltb i 3072) (link_cell ps (i - 1536)) 0
  unfolding index_cell
  behind i h l =
      index_cell_lem i l
      ∙ ap (λ (b : Bool). cond b (link_cell es i) (cond (ltb i 3072) (link_cell ps (i - 1536)) 0)) (le-ltb i 1536 h)

  pub index_property : (i : ℕ) → i < 1536 → 1536 + i < n → cell (index_by n es ps) (1536 + i) ≡ link_cell ps i
  index_property i h l =
      let z : 1536 + i - 1536 ≡ i = omega arith in
      behind (1536 + i) (omega arith) l
      ∙ ap (λ (b : Bool). cond b (link_cell ps (1536 + i - 1536)) 0) (lt-ltb (1536 + i) 3072 (omega arith))
      ∙ ap (link_cell ps) z

  pub index_behind : (i : ℕ) → 3072 ≤ i → i < n → cell (index_by n es ps) i ≡ 0
  index_behind i h l =
      behind i (omega arith) l ∙ ap (λ (b : Bool). cond b (link_cell ps (i - 1536)) 0) (le-ltb i 3072 h)

-- ---- two stores

module _ (x : List ℕ) (p q v w : ℕ) where
  abbrev stored : List ℕ
  stored = set (set x p v) q w

  stored-length : length stored ≡ length x
  stored-length = simp length-set

  stored_last : q < length x → cell stored q ≡ w
  unfolding cell
  stored_last h = get_or-set_same (set x p v) q w 0 (simp length-set h)

  stored-first : p < length x → (p ≡ q → ⊥) → cell stored p ≡ v
  unfolding cell
  stored-first h d = get_or-set_other (set x p v) q p w 0 d ∙ get_or-set_same x p v 0 h

  stored_other : (i : ℕ) → (i ≡ p → ⊥) → (i ≡ q → ⊥) → cell stored i ≡ cell x i
  unfolding cell
  stored_other i d e = get_or-set_other (set x p v) q i w 0 e ∙ get_or-set_other x p i v 0 d

-- ---- the loop over the rows, the last first: links among the rows from row j on

pub record Linking (ss : List ℕ) (at : ℕ) (x₀ x : List ℕ) (j : ℕ) : Type 0 where
  pub same : length x ≡ length x₀
  pub left : j ≤ length ss
  pub first : (u : ℕ) → u < 512 → cell x (at + u) ≡ link_from ss u j
  pub next : (i : ℕ) → j ≤ i → i < 1024 → cell x (at + 512 + i) ≡ next_link ss i
  pub below : (i : ℕ) → i < at → cell x i ≡ cell x₀ i
  pub above : (i : ℕ) → at + 1536 ≤ i → cell x i ≡ cell x₀ i

module _ (ss : List ℕ) (at : ℕ) (x₀ : List ℕ) where
  pub links-start : (n : ℕ) → length ss ≡ n → Blank x₀ at → Linking ss at x₀ x₀ n
  unfolding next_link
  links-start n e b =
      record {
        same = refl;
        left = omega arith;
        first = λ u h. b.zeros u (omega arith) ∙ sym (link_end ss u n (omega arith));
        next = λ i h l. ap (cell x₀) (omega arith) ∙ b.zeros (512 + i) (omega arith)
            ∙ sym (link_end ss (get_or ss i 0) (suc i) (omega arith));
        below = λ i h. refl;
        above = λ i h. refl;
      }

  -- a turn: row i before the row j that was last taken
  module _ (x : List ℕ) (j i : ℕ) (l : Linking ss at x₀ x j) (here : j ≡ suc i) (few : length ss ≤ 1024) (room : at + 1536 ≤ length x₀)
      (s : ℕ) (es : s ≡ get_or ss i 0) (small : s < 512) where
    pub links-on : Linking ss at x₀ (row_linked at i s x) i
    unfolding next_link row_linked
    links-on =
        record {
          same = stored-length x p q v w ∙ l.same;
          left = omega (arith, l.left);
          first = λ u h. go u h (ℕ_discrete u s);
          next = λ k h m. on k h m (ℕ_discrete k i);
          below = λ k h. stored_other x p q v w k (λ e. omega arith) (λ e. omega arith) ∙ l.below k h;
          above = λ k h. stored_other x p q v w k (λ e. omega (arith, l.left)) (λ e. omega arith) ∙ l.above k h;
        }
      where
        p : ℕ
        p = at + 512 + i

        q : ℕ
        q = at + s

        v : ℕ
        v = cell x (at + s)

        w : ℕ
        w = i + 1

        go : (u : ℕ) → u < 512 → Dec (u ≡ s) → cell (set (set x p v) q w) (at + u) ≡ link_from ss u i
        go u h (yes e) =
            ap (λ (k : ℕ). cell (set (set x p v) q w) (at + k)) e
            ∙ stored_last x p q v w (omega (arith, l.same))
            ∙ omega (arith, link-own ss u i (omega (arith, l.left)) (sym es ∙ sym e))
        go u h (no d) =
            stored_other x p q v w (at + u) (λ e. omega arith) (λ e. d (omega arith))
            ∙ l.first u h
            ∙ ap (link_from ss u) here
            ∙ sym (link_other ss u i (omega (arith, l.left)) (λ e. d (omega arith)))

        on : (k : ℕ) → i ≤ k → k < 1024 → Dec (k ≡ i) → cell (set (set x p v) q w) (at + 512 + k) ≡ link_from ss (get_or ss k 0) (suc k)
        on k h m (yes e) =
            ap (λ (n : ℕ). cell (set (set x p v) q w) (at + 512 + n)) e
            ∙ stored-first x p q v w (omega (arith, l.same)) (λ f. omega arith)
            ∙ l.first s small
            ∙ ap (link_from ss s) here
            ∙ ap (λ (u : ℕ). link_from ss u (suc i)) es
            ∙ ap (λ (n : ℕ). link_from ss (get_or ss n 0) (suc n)) (sym e)
        on k h m (no d) =
            stored_other x p q v w (at + 512 + k) (λ e. d (omega arith)) (λ e. omega arith) ∙ l.next k (omega arith) m

  pub links-done : (x : List ℕ) (j : ℕ) → Linking ss at x₀ x j → j ≤ 0 → LinksLaid ss at x₀ x
  links-done x j l z =
      record {
        same = l.same;
        inside = λ i h. go i h (dec_lt i 512);
        below = l.below;
        above = l.above;
      }
    where
      go : (i : ℕ) → i < 1536 → Dec (i < 512) → cell x (at + i) ≡ link_cell ss i
      go i h (yes d) = l.first i d ∙ ap (link_from ss i) (omega arith) ∙ sym (cell-first ss i d)
      go i h (no d) =
          let e : 512 + (i - 512) ≡ i = omega arith in
          let f : at + i ≡ at + 512 + (i - 512) = omega arith in
          ap (cell x) f
          ∙ l.next (i - 512) (omega arith) (omega arith)
          ∙ sym (cell-next ss (i - 512))
          ∙ ap (link_cell ss) e

-- ---- the same of the keys that a loop reads: key j is r

module _ (key : ℕ → ℕ) (n at : ℕ) (x₀ : List ℕ) (keyed : Keyed key n) (blank : Blank x₀ at) where
  pub keys-start : Linking (keys key n) at x₀ x₀ n
  keys-start = links-start (keys key n) at x₀ n (keys_length key n) blank

  pub keys_on : (x : List ℕ) (j i : ℕ) → Linking (keys key n) at x₀ x j → j ≡ suc i → (r : ℕ) → r ≡ key i → (y : List ℕ) → y ≡ row_linked at i r x
      → Linking (keys key n) at x₀ y i
  keys_on x j i l here r is y laid =
      let few : length (keys key n) ≤ 1024 = omega (arith, keys_length key n, keyed.few) in
      let inside : i < n = omega (arith, keys_length key n, l.left) in
      subst (λ (m : List ℕ). Linking (keys key n) at x₀ m i) (sym laid)
      (links-on (keys key n) at x₀ x j i l here few blank.long r (is ∙ sym (keys-at key n i inside))
      (omega (arith, is, keyed.within i inside)))

-- ---- both tables

module _ (n : ℕ) (z : List ℕ) (room : 3072 ≤ n) (cleared : z ≡ replicate n 0) where
  cleared-length : length z ≡ n
  cleared-length = ap length cleared ∙ length-replicate n 0

  cleared-cell : (i : ℕ) → i < n → cell z i ≡ 0
  unfolding cell
  cleared-cell i h = ap (λ (l : List ℕ). get_or l i 0) cleared ∙ get_or-replicate n i 0 0 h

  pub blank_first : Blank z 0
  blank_first =
      record { long = omega (arith, cleared-length); low = omega arith; zeros = λ i h. cleared-cell (0 + i) (omega arith) }

  module _ (es y : List ℕ) (edges : LinksLaid es 0 z y) where
    pub blank_second : Blank y 1536
    blank_second =
        record {
          long = omega (arith, cleared-length, edges.same);
          low = omega arith;
          zeros = λ i h. edges.above (1536 + i) (omega arith) ∙ cleared-cell (1536 + i) (omega arith);
        }

    module _ (ps x : List ℕ) (properties : LinksLaid ps 1536 y x) where
      pub index_same : length x ≡ n
      index_same = properties.same ∙ edges.same ∙ cleared-length

      pub index_laid : x ≡ index_by n es ps
      unfolding cell
      index_laid =
          ext_get_or 0 x (index_by n es ps) (index_same ∙ sym (index_length n es ps))
          (λ i h. go i (omega (arith, index_same)) (dec_lt i 1536) (dec_lt i 3072))
        where
          go : (i : ℕ) → i < n → Dec (i < 1536) → Dec (i < 3072) → get_or x i 0 ≡ get_or (index_by n es ps) i 0
          go i h (yes d) e =
              properties.below i d
              ∙ ap (cell y) (omega arith)
              ∙ edges.inside i d
              ∙ sym (index_edge n es ps i d h)
          go i h (no d) (yes e) =
              let f : i ≡ 1536 + (i - 1536) = omega arith in
              ap (cell x) f
              ∙ properties.inside (i - 1536) (omega arith)
              ∙ sym (index_property n es ps (i - 1536) (omega arith) (omega arith))
              ∙ ap (cell (index_by n es ps)) (sym f)
          go i h (no d) (no e) =
              properties.above i (omega arith)
              ∙ edges.above i (omega arith)
              ∙ cleared-cell i h
              ∙ sym (index_behind n es ps i (omega arith) h)
