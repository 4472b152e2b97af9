-- Looking for a row in steps: rows that cannot pass the test may be passed over, such as, along the chain of a key, those of other keys.
-- Assumes nothing.
use Prim.Native.Nat.{ℕ, zero, suc, ◌+◌, ◌*◌, ◌-◌, ◌%◌, ◌≤◌, ◌<◌}
use native.Mathlib.Omega.{arith}
use native.Mathlib.Decide.{dec_lt}
use mathlib.Core.Path.{◌≡◌, refl, sym, ap, ◌∙◌, subst}
use mathlib.Core.Bool.{Bool, true, false, true≢false}
use mathlib.Core.List.{List}
use lib.Dec.{eqb}
use borrow.Author.Tests.{eq-eqb, eqb-true}
use Rattle.rules.specs.Lists.{any, count_up}
use Rattle.rules.proofs.Bools.{clash}
use Rattle.tables.specs.Read.{cell, first_at, pair_at}
use Rattle.index.specs.Index.{own_from, head_in, next_in, Chained}
use Rattle.index.specs.Buckets.{bucket_at}
use Rattle.index.proofs.Links.{own_miss, own-past}
use Rattle.index.proofs.Chains.{first-own, head-on, next-own, next-on}
use Rattle.schema.proofs.Searching.{Left, left_all, left_on}

-- ---- passing over what does not pass the test

module _ (p : ℕ → Bool) (n : ℕ) where
  left_behind : (j i : ℕ) → n ≤ j → n ≤ i → Left p n j → Left p n i
  unfolding Left
  left_behind j i a b l =
      let y : n - j ≡ 0 = omega arith in
      let z : n - i ≡ 0 = omega arith in
      l ∙ ap (λ (m : ℕ). any p (count_up j m)) y ∙ sym (ap (λ (m : ℕ). any p (count_up i m)) z)

  left_by : (d j : ℕ) → ((k : ℕ) → j ≤ k → k < j + d → k < n → p k ≡ false) → Left p n j → Left p n (j + d)
  left_by zero j h l = subst (Left p n) (omega arith) l
  left_by (suc d) j h l = go (λ y. left_by d (j + 1) (λ k a b c. h k (omega arith) (omega arith) c) y) (dec_lt j n)
    where
      go : (Left p n (j + 1) → Left p n (j + 1 + d)) → Dec (j < n) → Left p n (j + suc d)
      go ih (yes q) = subst (Left p n) (omega arith) (ih (left_on p n j l q (h j (omega arith) (omega arith) q)))
      go ih (no q) = left_behind j (j + suc d) (omega arith) (omega arith) l

  pub left_skip : (j i : ℕ) → j ≤ i → ((k : ℕ) → j ≤ k → k < i → k < n → p k ≡ false) → Left p n j → Left p n i
  left_skip j i a h l =
      let e : j + (i - j) ≡ i = omega arith in
      subst (Left p n) e (left_by (i - j) j (λ k b c d. h k b (omega (arith, e)) d) l)

-- ---- in steps

-- Of the first m rows those that can pass the test are reached by steps: a step leads to the next of them, past rows that cannot pass.
pub record Steps (p : ℕ → Bool) (m : ℕ) (step : ℕ → ℕ) : Type 0 where
  pub own : ℕ → Bool
  pub other : (k : ℕ) → k < m → own k ≡ false → p k ≡ false
  pub past : (j : ℕ) → j < m → own j ≡ true → j < step j
  pub between : (j : ℕ) → j < m → own j ≡ true → (k : ℕ) → j < k → k < step j → own k ≡ false
  pub again : (j : ℕ) → j < m → own j ≡ true → step j < m → own (step j) ≡ true

-- The search has come to row j: the rows before it decide nothing, and it is one that steps lead on from.
pub record Seeking (p : ℕ → Bool) (m : ℕ) (step : ℕ → ℕ) (j : ℕ) : Type 0 where
  pub steps : Steps p m step
  pub left : Left p m j
  pub on : j < m → steps.own j ≡ true

module _ {p : ℕ → Bool} {m : ℕ} {step : ℕ → ℕ} where
  -- it may begin at the first row that can pass
  pub seek_from : (w : Steps p m step) (head : ℕ) → ((k : ℕ) → k < head → w.own k ≡ false) → (head < m → w.own head ≡ true)
      → Seeking p m step head
  seek_from w head before own =
      record {
        steps = w;
        left = left_skip p m 0 head (omega arith) (λ k _ b c. w.other k c (before k b)) (left_all p m);
        on = own;
      }

  module _ {j : ℕ} (s : Seeking p m step j) (h : j < m) where
    pub seek_less : j < step j
    seek_less = s.steps.past j h (s.on h)

    -- and goes on by a step where this row does not pass
    pub seek_on : p j ≡ false → Seeking p m step (step j)
    seek_on t =
        let w = s.steps in
        record {
          steps = w;
          left = left_skip p m (j + 1) (step j) (omega (arith, seek_less))
              (λ k a b c. w.other k c (w.between j h (s.on h) k (omega arith) b)) (left_on p m j s.left h t);
          on = w.again j h (s.on h);
        }

-- ---- all rows in turn, and none

module _ (p : ℕ → Bool) where
  all-steps : (m : ℕ) → Steps p m (λ j. j + 1)
  all-steps m =
      record {
        own = λ _. true;
        other = λ _ _ e. absurd (true≢false e);
        past = λ j _ _. omega arith;
        between = λ j _ _ k a b. absurd (omega arith);
        again = λ _ _ _ _. refl;
      }

  pub seek_all : (m : ℕ) → Seeking p m (λ j. j + 1) 0
  unfolding all-steps
  seek_all m = seek_from (all-steps m) 0 (λ k h. absurd (omega arith)) (λ _. refl)

  pub seek_none : (m : ℕ) → m ≡ 0 → (step : ℕ → ℕ) (head : ℕ) → Seeking p m step head
  seek_none m z step head =
      let w : Steps p m step = record {
        own = λ _. false;
        other = λ k h _. absurd (omega arith);
        past = λ j h _. absurd (omega arith);
        between = λ _ _ _ _ _ _. refl;
        again = λ j h _ _. absurd (omega arith);
      } in
      seek_from w head (λ _ _. refl) (λ h. absurd (omega arith))

-- ---- along a chain

-- A test that rows of other keys do not pass, of the first m rows of a table whose links stand in x.
module _ (key : ℕ → ℕ) (n : ℕ) (x : List ℕ) (from : ℕ) (linked : Chained key n x from) (u : ℕ) (p : ℕ → Bool)
    (other : (k : ℕ) → eqb (key k) u ≡ false → p k ≡ false) (m : ℕ) (inside : (j : ℕ) → j < m → j < n) where
  abbrev ours : ℕ → Bool
  ours k = eqb (key k) u

  abbrev next : ℕ → ℕ
  next j = next_in x from n j

  module _ (j : ℕ) (h : j < m) (own : ours j ≡ true) where
    next-is : next j ≡ own_from key n u (j + 1)
    unfolding next_in
    next-is = next-own key n x from linked u j (inside j h) (eqb-true (key j) u own) (next j) refl

    next_past : j < next j
    next_past = go (dec_lt (next j) n)
      where
        go : Dec (next j < n) → j < next j
        go (yes d) = omega (arith, next-is, own-past key n u (j + 1) (omega (arith, next-is)))
        go (no d) = omega (arith, inside j h)

    next-ours : next j < m → ours (next j) ≡ true
    unfolding next_in
    next-ours k =
        let on = next-on key n x from linked u j (inside j h) (eqb-true (key j) u own) (next j) refl in
        eq-eqb (key (next j)) u (on.own (inside (next j) k))

    next_between : (k : ℕ) → j < k → k < next j → ours k ≡ false
    next_between k l b = own_miss key n u (j + 1) k (omega arith) (omega (arith, next-is))

  chain_steps : Steps p m (next_in x from n)
  chain_steps =
      record {
        own = ours;
        other = λ k _ e. other k e;
        past = next_past;
        between = next_between;
        again = next-ours;
      }

  pub seek_chain : Seeking p m (next_in x from n) (head_in x from n u)
  unfolding head_in chain_steps
  seek_chain =
      let r = head_in x from n u in
      let own = first-own key n x from linked u r refl in
      let on = head-on key n x from linked u r refl in
      seek_from chain_steps r (λ k h. own_miss key n u 0 k (omega arith) (omega (arith, own)))
      (λ h. eq-eqb (key r) u (on.own (inside r h)))

-- ---- buckets: a row of another bucket has another first number

module _ (a : List ℕ) (base x k : ℕ) (h : eqb (bucket_at a base k) (x % 512) ≡ false) where
  pub first_other : first_at a base x k ≡ false
  unfolding bucket_at first_at
  first_other = go (eqb first x) refl
    where
      first : ℕ
      first = cell a (base + 3 * k + 1)

      go : (b : Bool) → eqb first x ≡ b → eqb first x ≡ false
      go true t =
          absurd (clash (eq-eqb (first % 512) (x % 512) (ap (λ (v : ℕ). v % 512) (eqb-true first x t))) h)
      go false t = t

-- nor has it the same two numbers
pub pair-first : (a : List ℕ) (base x y k : ℕ) → first_at a base x k ≡ false → pair_at a base x y k ≡ false
unfolding first_at pair_at
pair-first a base x y k h = rw h

pub pair_other : (a : List ℕ) (base x y k : ℕ) → eqb (bucket_at a base k) (x % 512) ≡ false → pair_at a base x y k ≡ false
pair_other a base x y k h = pair-first a base x y k (first_other a base x k h)

-- A loop along the chain of x in a narrow table, for a test that rows with another first number do not pass: it may begin at the head.
pub seek_bucket : (a : List ℕ) (base n at x : ℕ) → Chained (bucket_at a base) n a at → (p : ℕ → Bool)
    → ((k : ℕ) → first_at a base x k ≡ false → p k ≡ false) → Seeking p n (next_in a at n) (head_in a at n (x % 512))
seek_bucket a base n at x linked p other =
    seek_chain (bucket_at a base) n a at linked (x % 512) p (λ k h. other k (first_other a base x k h)) n (λ j h. h)
