-- Laws of a chain: it has exactly its key's rows, in their order. Assumes nothing.
use Prim.Native.Nat.{ℕ, zero, suc, ◌+◌, ◌-◌, ◌≤◌, ◌<◌}
use native.Mathlib.Omega.{arith}
use native.Mathlib.Decide.{dec_lt}
use mathlib.Core.Path.{◌≡◌, refl, sym, ap, ◌∙◌}
use mathlib.Core.Bool.{Bool, true, false, cond}
use mathlib.Core.List.{List, [], ◌∷◌}
use lib.Dec.{eqb, ltb}
use lib.ListN.{get_or}
use borrow.Author.Tests.{eq-eqb, eqb-true, lt-ltb, le-ltb, ltb-true, ltb-false}
use Rattle.rules.specs.Lists.{those, keep_if, count_up}
use Rattle.tables.specs.Read.{cell}
use Rattle.index.specs.Index.{led_to, own_from, chain, OnChain, Chained}
use Rattle.index.proofs.Links.{own-past, own_hit, own_skip}

module _ (key : ℕ → ℕ) (n : ℕ) (x : List ℕ) (at : ℕ) (linked : Chained key n x at) where
  -- ---- the first row of a key

  none-own : (u k j : ℕ) → 512 ≤ u → n - j ≡ k → those (λ i. eqb (key i) u) (count_up j k) ≡ []
  none-own u zero j h e = refl
  none-own u (suc k) j h e = go (none-own u k (suc j) h (omega arith)) (eqb (key j) u) refl
    where
      go : those (λ i. eqb (key i) u) (count_up (suc j) k) ≡ [] → (b : Bool) → eqb (key j) u ≡ b
          → keep_if b j (those (λ i. eqb (key i) u) (count_up (suc j) k)) ≡ []
      go ih true t = absurd (omega (arith, linked.keyed.within j (omega arith), eqb-true (key j) u t))
      go ih false t = ih

  own_on : (u j r : ℕ) → r ≡ own_from key n u j → OnChain key n u r
  own_on u j r e = record { own = λ h. ap key e ∙ own_hit key n u j (omega (arith, e)) }

  module _ (u r : ℕ) (is : r ≡ cond (ltb u 512) (led_to n (cell x (at + u))) n) where
    pub first-own : r ≡ own_from key n u 0
    unfolding own_from
    first-own = go (ltb u 512) refl is
      where
        go : (b : Bool) → ltb u 512 ≡ b → r ≡ cond b (led_to n (cell x (at + u))) n → r ≡ own_from key n u 0
        go true t e = e ∙ linked.first u (ltb-true u 512 t)
        go false t e = e ∙ sym (ap (λ (l : List ℕ). get_or l 0 n) (none-own u (n - 0) 0 (ltb-false u 512 t) refl))

    pub head-on : OnChain key n u r
    head-on = own_on u 0 r first-own

  -- ---- the next row of the key of row j

  module _ (u j : ℕ) (inside : j < n) (of : key j ≡ u) (r : ℕ) (is : r ≡ led_to n (cell x (at + 512 + j))) where
    pub next-own : r ≡ own_from key n u (j + 1)
    next-own =
        is ∙ linked.next j inside ∙ ap (λ (v : ℕ). own_from key n v (suc j)) of ∙ ap (own_from key n u) (omega arith)

    pub next-on : OnChain key n u r
    next-on = own_on u (j + 1) r next-own

    -- the rows left become fewer
    pub next-less : n - r < n - j
    next-less = go (dec_lt r n)
      where
        go : Dec (r < n) → n - r < n - j
        go (yes d) = omega (arith, next-own, own-past key n u (j + 1) (omega (arith, next-own)))
        go (no d) = omega arith

  -- ---- the whole chain

  chain-from : (u k j : ℕ) → n - j ≤ k → OnChain key n u j → chain x at n k j ≡ those (λ i. eqb (key i) u) (count_up j (n - j))
  unfolding chain
  chain-from u zero j h o =
      let z : n - j ≡ 0 = omega arith in
      sym (ap (λ (m : ℕ). those (λ i. eqb (key i) u) (count_up j m)) z)
  chain-from u (suc k) j h o = go (λ i y w. chain-from u k i y w) (dec_lt j n)
    where
      of : List ℕ → List ℕ
      of js = those (λ i. eqb (key i) u) js

      go : ((i : ℕ) → n - i ≤ k → OnChain key n u i → chain x at n k i ≡ of (count_up i (n - i))) → Dec (j < n)
          → cond (ltb j n) (j ∷ chain x at n k (led_to n (cell x (at + 512 + j)))) [] ≡ of (count_up j (n - j))
      go ih (yes d) =
          let z : n - j ≡ suc (n - suc j) = omega arith in
          let y : j + 1 ≡ suc j = omega arith in
          let r = led_to n (cell x (at + 512 + j)) in
          let m = o.own d in
          ap (λ (b : Bool). cond b (j ∷ chain x at n k r) []) (lt-ltb j n d)
          ∙ ap (λ (l : List ℕ). j ∷ l)
          (ih r (omega (arith, next-less u j d m r refl)) (next-on u j d m r refl)
          ∙ ap (λ (i : ℕ). of (count_up i (n - i))) (next-own u j d m r refl ∙ ap (own_from key n u) y)
          ∙ sym (own_skip key n u (suc j) (λ i. eqb (key i) u) (λ i t. eqb-true (key i) u t)))
          ∙ ap (λ (b : Bool). keep_if b j (of (count_up (suc j) (n - suc j)))) (sym (eq-eqb (key j) u m))
          ∙ ap (λ (i : ℕ). of (count_up j i)) (sym z)
      go ih (no d) =
          let z : n - j ≡ 0 = omega arith in
          ap (λ (b : Bool). cond b (j ∷ chain x at n k (led_to n (cell x (at + 512 + j)))) []) (le-ltb j n (omega arith))
          ∙ sym (ap (λ (m : ℕ). those (λ i. eqb (key i) u) (count_up j m)) z)

  pub chain-own : (u : ℕ) → u < 512
      → chain x at n n (led_to n (cell x (at + u))) ≡ those (λ i. eqb (key i) u) (count_up 0 n)
  chain-own u h =
      let z : n - 0 ≡ n = omega arith in
      let r = own_from key n u 0 in
      ap (chain x at n n) (linked.first u h)
      ∙ chain-from u n r (omega arith) (own_on u 0 r refl)
      ∙ sym (own_skip key n u 0 (λ i. eqb (key i) u) (λ i t. eqb-true (key i) u t))
      ∙ ap (λ (m : ℕ). those (λ i. eqb (key i) u) (count_up 0 m)) z
