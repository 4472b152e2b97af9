-- Laws of links: one row more in front, and the row that a link leads to. Assumes nothing.
use Prim.Native.Nat.{ℕ, zero, suc, ◌+◌, ◌-◌, ◌≤◌, ◌<◌}
use native.Mathlib.Omega.{arith}
use mathlib.Core.Path.{◌≡◌, refl, sym, ap, ◌∙◌}
use mathlib.Core.Bool.{Bool, true, false, cond}
use mathlib.Core.List.{List, map}
use lib.Dec.{eqb, ltb}
use lib.ListN.{length, get_or, drop, drop_of_length-le}
use lib.Seq.{drop-cons}
use borrow.Author.Tests.{eqb-true, eq-eqb, ne_eqb, lt-ltb, le-ltb}
use Rattle.rules.specs.Lists.{those, keep_if, count_up}
use Rattle.tables.specs.Read.{cell}
use Rattle.index.specs.Index.{link, link_from, keys, led_to, own_from}
use Rattle.index.proofs.Firsts.{first_past, first_passes, first_misses, skipped}

-- ---- what a link leads to, as the code says it

module _ (n l : ℕ) where
  pub led_none : l ≡ 0 → n ≡ led_to n l
  unfolding led_to
  led_none e = sym (ap (led_to n) e)

  pub led_some : (l ≡ 0 → ⊥) → l - 1 ≡ led_to n l
  unfolding led_to
  led_some ne = go l ne
    where
      go : (m : ℕ) → (m ≡ 0 → ⊥) → m - 1 ≡ led_to n m
      go zero h = absurd (h refl)
      go (suc m) h = omega arith

pub ruleset led_laws = (led_none, led_some)

-- ---- the first row of a key: by its link, and of a number that is no key's

module _ (x : List ℕ) (at n u : ℕ) where
  pub first_in_lem : (r : ℕ) → u < 512 → r ≡ led_to n (cell x (at + u)) → r ≡ cond (ltb u 512) (led_to n (cell x (at + u))) n
  first_in_lem r h e = e ∙ sym (ap (λ (b : Bool). cond b (led_to n (cell x (at + u))) n) (lt-ltb u 512 h))

  pub first_out : 512 ≤ u → n ≡ cond (ltb u 512) (led_to n (cell x (at + u))) n
  first_out h = sym (ap (λ (b : Bool). cond b (led_to n (cell x (at + u))) n) (le-ltb u 512 h))

-- ---- a table's keys by their places

tabled : {A : Type 0} (f : ℕ → A) (d : A) (n i k : ℕ) → k < n → get_or (map f (count_up i n)) k d ≡ f (i + k)
tabled f d zero i k h = absurd (omega arith)
tabled f d (suc n) i zero h = ap f (omega arith)
tabled f d (suc n) i (suc k) h = tabled f d n (suc i) k (omega arith) ∙ ap f (omega arith)

pub tabled-length : {A : Type 0} (f : ℕ → A) (n i : ℕ) → length (map f (count_up i n)) ≡ n
tabled-length f zero i = refl
tabled-length f (suc n) i = ap suc (tabled-length f n (suc i))

pub tabled-at : {A : Type 0} (f : ℕ → A) (d : A) (n k : ℕ) → k < n → get_or (map f (count_up 0 n)) k d ≡ f k
tabled-at f d n k h = tabled f d n 0 k h ∙ ap f (omega arith)

tabled-drop : {A : Type 0} (f : ℕ → A) (n i j : ℕ) → drop j (map f (count_up i n)) ≡ map f (count_up (i + j) (n - j))
tabled-drop f n i zero = let z : i + 0 ≡ i = omega arith in let y : n - 0 ≡ n = omega arith in rw (z, y)
tabled-drop f zero i (suc j) = let y : 0 - suc j ≡ 0 = omega arith in rw y
tabled-drop f (suc n) i (suc j) =
    let z : suc i + j ≡ i + suc j = omega arith in
    let y : suc n - suc j ≡ n - j = omega arith in
    tabled-drop f n (suc i) j ∙ rw (z, y)

-- ---- one row more in front

module _ (ss : List ℕ) (u j : ℕ) where
  pub link-turn : j < length ss → link_from ss u j ≡ cond (eqb (get_or ss j 0) u) (suc j) (link_from ss u (suc j))
  unfolding link_from link
  link-turn h = ap (link u j) (drop-cons ss j 0 h)

  pub link-own : j < length ss → get_or ss j 0 ≡ u → link_from ss u j ≡ suc j
  link-own h e = link-turn h ∙ ap (λ (b : Bool). cond b (suc j) (link_from ss u (suc j))) (eq-eqb (get_or ss j 0) u e)

  pub link_other : j < length ss → (get_or ss j 0 ≡ u → ⊥) → link_from ss u j ≡ link_from ss u (suc j)
  link_other h e = link-turn h ∙ ap (λ (b : Bool). cond b (suc j) (link_from ss u (suc j))) (ne_eqb (get_or ss j 0) u e)

  -- none behind the last
  pub link_end : length ss ≤ j → link_from ss u j ≡ 0
  unfolding link_from link
  link_end h = ap (link u j) (drop_of_length-le ss {i = j} h)

-- ---- the row that a link leads to is the key's first from there on

module _ (key : ℕ → ℕ) (n : ℕ) where
  led_first : (u k j : ℕ) → led_to n (link u j (map key (count_up j k))) ≡ get_or (those (λ i. eqb (key i) u) (count_up j k)) 0 n
  unfolding link led_to
  led_first u zero j = refl
  led_first u (suc k) j = go (led_first u k (suc j)) (eqb (key j) u)
    where
      go : led_to n (link u (suc j) (map key (count_up (suc j) k))) ≡ get_or (those (λ i. eqb (key i) u) (count_up (suc j) k)) 0 n
          → (b : Bool) → led_to n (cond b (suc j) (link u (suc j) (map key (count_up (suc j) k))))
          ≡ get_or (keep_if b j (those (λ i. eqb (key i) u) (count_up (suc j) k))) 0 n
      go ih true = refl
      go ih false = ih

  pub led_own : (u j : ℕ) → led_to n (link_from (keys key n) u j) ≡ own_from key n u j
  unfolding link_from keys own_from
  led_own u j =
      let z : 0 + j ≡ j = omega arith in
      ap (λ (l : List ℕ). led_to n (link u j l)) (tabled-drop key n 0 j)
      ∙ ap (λ (i : ℕ). led_to n (link u j (map key (count_up i (n - j))))) z
      ∙ led_first u (n - j) j

  pub keys_length : length (keys key n) ≡ n
  unfolding keys
  keys_length = tabled-length key n 0

  pub keys-at : (j : ℕ) → j < n → get_or (keys key n) j 0 ≡ key j
  unfolding keys
  keys-at j h = tabled-at key 0 n j h

  -- ---- the key's first row from row j on: none of its rows stands before it, and it is its row

  module _ (u j : ℕ) where
    pub own_miss : (i : ℕ) → j ≤ i → i < own_from key n u j → eqb (key i) u ≡ false
    unfolding own_from
    own_miss i l h = first_misses (λ k. eqb (key k) u) n (n - j) j i refl l h

    pub own-past : own_from key n u j < n → j ≤ own_from key n u j
    unfolding own_from
    own-past h = first_past (λ k. eqb (key k) u) n (n - j) j refl h

    pub own_hit : own_from key n u j < n → key (own_from key n u j) ≡ u
    unfolding own_from
    own_hit h =
        eqb-true (key (own_from key n u j)) u (first_passes (λ k. eqb (key k) u) n (n - j) j refl h)

    -- rows of the key that pass a test stand from it on
    pub own_skip : (q : ℕ → Bool) → ((i : ℕ) → q i ≡ true → key i ≡ u)
        → those q (count_up j (n - j)) ≡ those q (count_up (own_from key n u j) (n - own_from key n u j))
    unfolding own_from
    own_skip q s =
        skipped (λ k. eqb (key k) u) n q (λ i t. eq-eqb (key i) u (s i t)) (n - j) j refl
