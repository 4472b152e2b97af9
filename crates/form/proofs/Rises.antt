-- The loop over the pairs of a record: what is left of the tests from the pair i on. Assumes nothing.
use Prim.Native.Nat.{ℕ, zero, suc, ◌+◌, ◌*◌, ◌-◌, ◌≤◌, ◌<◌}
use mathlib.Core.Path.{◌≡◌, refl, sym, ap, ◌∙◌}
use mathlib.Core.Bool.{not}
use mathlib.Core.List.{List, [], ◌∷◌}
use Rattle.std.specs.Prelude.{Option, None, Some}
use native.Mathlib.Omega.{arith}
use lib.Dec.{ltb}
use lib.ListN.{length, get_or, take, drop, length-take, length-drop}
use lib.Seq.{drop-cons, drop-drop, get_or-drop, get_or-take}
use borrow.Author.Tests.{lt-ltb, le-ltb}
use Rattle.rules.specs.Text.{pairs}
use Rattle.rules.specs.Search.{worse, fault_if, fault_of}
use Rattle.rules.specs.Forms.{rising, rising_pairs}
use Rattle.text.proofs.Tools.{by_order}
use Rattle.form.specs.Form.{pairs_fault}
use Rattle.form.proofs.Faults.{wins, from_less, rising-from}

-- the fault of the pairs from i on, where the argument of the one before is a and n pairs are said to be there
unfoldable pub rest_from : ℕ → ℕ → ℕ → List ℕ → Option ℕ
rest_from i a n ns = fault_of (rising (6 + 2 * i) a (pairs n ns))

unfoldable pub rises_left : ℕ → List ℕ → ℕ → Option ℕ
rises_left count nums i = rest_from i (get_or nums (2 + 2 * i) 0) (get_or nums 3 0 - i) (drop (4 + 2 * i) (take count nums))

module _ (i a n : ℕ) where
  rest-none : (ns : List ℕ) → length ns ≤ 1 → rest_from i a n ns ≡ None
  unfolding rest_from
  rest-none [] h = go n
    where
      go : (m : ℕ) → fault_of (rising (6 + 2 * i) a (pairs m [])) ≡ None
      go zero = refl
      go (suc m) = refl
  rest-none (x ∷ []) h = go n
    where
      go : (m : ℕ) → fault_of (rising (6 + 2 * i) a (pairs m (x ∷ []))) ≡ None
      go zero = refl
      go (suc m) = refl
  rest-none (x ∷ y ∷ ns) h = absurd (omega arith)

  rest_more : (x y : ℕ) (ns : List ℕ)
      → rest_from i a (suc n) (x ∷ y ∷ ns) ≡ worse (fault_if (not (ltb a x)) (6 + 2 * i)) (rest_from (i + 1) x n ns)
  unfolding rest_from
  rest_more x y ns =
      let e : 2 + (6 + 2 * i) ≡ 6 + 2 * (i + 1) = omega arith in
      ap (λ (f : ℕ). worse (fault_if (not (ltb a x)) (6 + 2 * i)) (fault_of (rising f x (pairs n ns)))) e

  rest_from_lem : (x : ℕ) (ns : List ℕ) → worse (Some (6 + 2 * i)) (rest_from (i + 1) x n ns) ≡ Some (6 + 2 * i)
  unfolding rest_from
  rest_from_lem x ns =
      let later = fault_of (rising (6 + 2 * (i + 1)) x (pairs n ns)) in
      wins (6 + 2 * i) later (omega arith)
      (from_less (6 + 2 * i) (6 + 2 * (i + 1)) later (omega arith) (rising-from (6 + 2 * (i + 1)) x (pairs n ns)))

module _ (count : ℕ) (nums : List ℕ) (i : ℕ) where
  pub rises-done : get_or nums 3 0 ≤ i → rises_left count nums i ≡ None
  unfolding rises_left rest_from
  rises-done h =
      let e : get_or nums 3 0 - i ≡ 0 = omega arith in
      ap (λ (m : ℕ). fault_of (rising (6 + 2 * i) (get_or nums (2 + 2 * i) 0) (pairs m (drop (4 + 2 * i) (take count nums))))) e

  pub rises-short : count < 6 + 2 * i → rises_left count nums i ≡ None
  unfolding rises_left
  rises-short h =
      rest-none i (get_or nums (2 + 2 * i) 0) (get_or nums 3 0 - i) (drop (4 + 2 * i) (take count nums))
      (omega (arith, length-drop (4 + 2 * i) (take count nums), length-take count nums))

  module _ (h : i < get_or nums 3 0) (few : get_or nums 3 0 ≤ 4) (long : length nums ≡ 12) (k : 6 + 2 * i ≤ count) where
    two_here : drop (4 + 2 * i) (take count nums) ≡ get_or nums (4 + 2 * i) 0 ∷ get_or nums (suc (4 + 2 * i)) 0 ∷ drop (4 + 2 * (i + 1)) (take count nums)
    two_here =
        let l = length-take count nums in
        let e : suc (suc (4 + 2 * i)) ≡ 4 + 2 * (i + 1) = omega arith in
        drop-cons (take count nums) (4 + 2 * i) 0 (omega arith)
        ∙ ap (λ (xs : List ℕ). get_or (take count nums) (4 + 2 * i) 0 ∷ xs) (drop-cons (take count nums) (suc (4 + 2 * i)) 0 (omega arith))
        ∙ ap (λ (x : ℕ). x ∷ get_or (take count nums) (suc (4 + 2 * i)) 0 ∷ drop (suc (suc (4 + 2 * i))) (take count nums))
        (get_or-take count nums (4 + 2 * i) 0 (omega arith))
        ∙ ap (λ (y : ℕ). get_or nums (4 + 2 * i) 0 ∷ y ∷ drop (suc (suc (4 + 2 * i))) (take count nums))
        (get_or-take count nums (suc (4 + 2 * i)) 0 (omega arith))
        ∙ ap (λ (m : ℕ). get_or nums (4 + 2 * i) 0 ∷ get_or nums (suc (4 + 2 * i)) 0 ∷ drop m (take count nums)) e

    rises-turn : rises_left count nums i
        ≡ worse (fault_if (not (ltb (get_or nums (2 + 2 * i) 0) (get_or nums (4 + 2 * i) 0))) (6 + 2 * i)) (rises_left count nums (i + 1))
    unfolding rises_left
    rises-turn =
        let e : get_or nums 3 0 - i ≡ suc (get_or nums 3 0 - (i + 1)) = omega arith in
        let f : 4 + 2 * i ≡ 2 + 2 * (i + 1) = omega arith in
        let last = get_or nums (2 + 2 * i) 0 in
        let next = get_or nums (4 + 2 * i) 0 in
        let left = get_or nums 3 0 - (i + 1) in
        let after = drop (4 + 2 * (i + 1)) (take count nums) in
        ap (λ (m : ℕ). rest_from i last m (drop (4 + 2 * i) (take count nums))) e
        ∙ ap (rest_from i last (suc left)) two_here
        ∙ rest_more i last left next (get_or nums (suc (4 + 2 * i)) 0) after
        ∙ ap (λ (m : ℕ). worse (fault_if (not (ltb last next)) (6 + 2 * i)) (rest_from (i + 1) (get_or nums m 0) left after)) f

    pub rises-stop : get_or nums (4 + 2 * i) 0 ≤ get_or nums (2 + 2 * i) 0 → rises_left count nums i ≡ Some (6 + 2 * i)
    unfolding rises_left
    rises-stop l =
        rises-turn
        ∙ simp (le-ltb (get_or nums (2 + 2 * i) 0) (get_or nums (4 + 2 * i) 0) l)
        (rest_from_lem i 0 (get_or nums 3 0 - (i + 1)) (get_or nums (2 + 2 * (i + 1)) 0) (drop (4 + 2 * (i + 1)) (take count nums)))

    pub rises-on : get_or nums (2 + 2 * i) 0 < get_or nums (4 + 2 * i) 0 → rises_left count nums i ≡ rises_left count nums (i + 1)
    rises-on l = rises-turn ∙ simp (lt-ltb (get_or nums (2 + 2 * i) 0) (get_or nums (4 + 2 * i) 0) l)

-- ---- the loop's laws

abbrev pub PairsLeft : ℕ → List ℕ → ℕ → Type 0
PairsLeft count nums i = pairs_fault count nums ≡ rises_left count nums i

module _ (count : ℕ) (nums : List ℕ) where
  pub many : 4 < get_or nums 3 0 → Some 5 ≡ pairs_fault count nums
  unfolding pairs_fault
  many h = simp (lt-ltb 4 (get_or nums 3 0) h)

  -- behind the first pair, which may be missing
  begin : (n : ℕ) (ns : List ℕ) → fault_of (rising_pairs (pairs n ns)) ≡ rest_from 1 (get_or ns 0 0) (n - 1) (drop 2 ns)
  unfolding rest_from
  begin zero ns = refl
  begin (suc n) [] = sym (rest-none 1 0 (suc n - 1) [] (omega arith))
  begin (suc n) (x ∷ []) = sym (rest-none 1 x (suc n - 1) [] (omega arith))
  begin (suc n) (x ∷ y ∷ ns) = let e : suc n - 1 ≡ n = omega arith in sym (ap (λ (m : ℕ). fault_of (rising 8 x (pairs m ns))) e)

  start : rest_from 1 (get_or (drop 4 (take count nums)) 0 0) (get_or nums 3 0 - 1) (drop 2 (drop 4 (take count nums))) ≡ rises_left count nums 1
  unfolding rises_left
  start =
      by_order count 6
      (λ h. rest-none 1 (get_or (drop 4 (take count nums)) 0 0) (get_or nums 3 0 - 1) (drop 2 (drop 4 (take count nums)))
      (omega (arith, length-drop 2 (drop 4 (take count nums)), length-drop 4 (take count nums), length-take count nums))
      ∙ sym (rises-short count nums 1 (omega arith)))
      (λ h. ap (λ (a : ℕ). rest_from 1 a (get_or nums 3 0 - 1) (drop 2 (drop 4 (take count nums))))
      (get_or-drop 4 (take count nums) 0 0 ∙ get_or-take count nums 4 0 (omega arith))
      ∙ ap (rest_from 1 (get_or nums 4 0) (get_or nums 3 0 - 1)) (drop-drop 2 4 (take count nums)))

  pub pairs_start : get_or nums 3 0 ≤ 4 → PairsLeft count nums 1
  unfolding pairs_fault
  pairs_start h = simp (le-ltb 4 (get_or nums 3 0) h) (begin (get_or nums 3 0) (drop 4 (take count nums)) ∙ start)

  module _ (i : ℕ) (k : PairsLeft count nums i) where
    pub pairs-done : get_or nums 3 0 ≤ i → None ≡ pairs_fault count nums
    pairs-done h = sym (k ∙ rises-done count nums i h)

    pub pairs-short : count < 6 + 2 * i → None ≡ pairs_fault count nums
    pairs-short h = sym (k ∙ rises-short count nums i h)

    module _ (h : i < get_or nums 3 0) (few : get_or nums 3 0 ≤ 4) (long : length nums ≡ 12) (m : 6 + 2 * i ≤ count) where
      pub pairs-stop : get_or nums (4 + 2 * i) 0 ≤ get_or nums (2 + 2 * i) 0 → Some (6 + 2 * i) ≡ pairs_fault count nums
      pairs-stop l = sym (k ∙ rises-stop count nums i h few long m l)

      pub pairs-on : get_or nums (2 + 2 * i) 0 < get_or nums (4 + 2 * i) 0 → PairsLeft count nums (i + 1)
      pairs-on l = k ∙ rises-on count nums i h few long m l

pub ruleset pairs_laws = (many, pairs_start, pairs-done, pairs-short, pairs-stop, pairs-on)
