-- One member more in the masks of an area, then those of all object types and `M` records. Assumes nothing.
use Prim.Native.Nat.{ℕ, zero, suc, ◌+◌, ◌*◌, ◌/◌, ◌%◌, ◌^◌, ◌≤◌, ◌<◌}
use native.Mathlib.Omega.{arith}
use native.Mathlib.Decide.{ℕ_discrete}
use native.Mathlib.Numerals.{add-one}
use mathlib.Core.Path.{◌≡◌, refl, sym, ap, ap₂, ◌∙◌}
use mathlib.Core.Bool.{Bool, true, false, cond, ◌&&◌, ◌||◌, or-false, or_assoc, false≢true}
use mathlib.Core.List.{List}
use lib.Bits.{bit_or}
use lib.Dec.{eqb, ltb}
use lib.ListN.{length, set, length-set}
use lib.Seq.{get_or-set_same, get_or-set_other}
use borrow.Author.Tests.{ltb-true, lt-ltb, eq-eqb, ne_eqb, eqb-true, eqb-false}
use Rattle.rules.specs.Lists.{any, count_up}
use Rattle.rules.specs.Text.{O, type_no}
use Rattle.rules.specs.Schema.{is_object}
use Rattle.rules.proofs.Bools.{and-true, and-true_left, and-true_right}
use Rattle.text.proofs.Tools.{by_test}
use Rattle.bits.specs.Bits.{bits_of}
use Rattle.bits.proofs.Laws.{bits_same, or-bit}
use Rattle.bits.proofs.Tests.{both_ways, any_where, any-there}
use Rattle.tables.specs.Read.{cell, narrow_at, pair_at, pair_in, schema_at}
use Rattle.masks.specs.Masks.{masks_from, schema_needed, cell_size, masked, mask_at, member_of, MembersSound}
use Rattle.masks.specs.Join.{with_mask, joined, type_count, member_count, type_rows, member_rows, letter_at, type_at, object_at}
use Rattle.masks.specs.Join.{object_joined, member_joined, joined_by, objects_joined, members_joined, Joinable, Maskable}
use Rattle.masks.proofs.Masks.{masked-length, masked-front, masked-behind, masked_low, masked-high, masked_mask, masked-is}
use Rattle.masks.proofs.Masks.{masked_same, masked-none}
use Rattle.masks.proofs.Membership.{rule, object_declared, members_declared, object-given}

-- ---- tests

eqb_swap : (x y : ℕ) → eqb x y ≡ eqb y x
eqb_swap x y =
    by_test (eqb x y)
    (λ e. e ∙ sym (eq-eqb y x (sym (eqb-true x y e))))
    (λ e. e ∙ sym (ne_eqb y x (λ z. eqb-false x y e (sym z))))

any-more : (p : ℕ → Bool) (i n : ℕ) → any p (count_up i (suc n)) ≡ (any p (count_up i n) || p (i + n))
any-more p i zero = or-false (p i) ∙ ap p (omega arith)
any-more p i (suc n) =
    ap (λ (b : Bool). p i || b) (any-more p (suc i) n ∙ ap (λ (k : ℕ). any p (count_up (suc i) n) || p k) (omega arith))
    ∙ sym (or_assoc (p i) (any p (count_up (suc i) n)) (p (i + suc n)))

-- the next of the first n
next-any : (p : ℕ → Bool) (n : ℕ) → any p (count_up 0 (suc n)) ≡ (any p (count_up 0 n) || p n)
next-any p n = any-more p 0 n ∙ ap (λ (k : ℕ). any p (count_up 0 n) || p k) (omega arith)

-- ---- one bit

module _ (p : ℕ → ℕ → Bool) (t o : ℕ) where
  -- what is said with it
  abbrev pub with_one : ℕ → ℕ → Bool
  with_one x y = p x y || (eqb t x && eqb o y)

  one-here : (x : ℕ) → x ≡ t → o < 64 → bits_of (with_one x) 64 ≡ bit_or (bits_of (p t) 64) (2 ^ o)
  one-here x e k =
      bits_same (with_one x) (λ y. p t y || eqb y o) 64
      (λ y l. ap (λ (b : Bool). p x y || (b && eqb o y)) (eq-eqb t x (sym e))
      ∙ ap₂ (λ (z : ℕ) (b : Bool). p z y || b) e (eqb_swap o y))
      ∙ sym (or-bit (p t) 64 o k)

  one-there : (x : ℕ) → (x ≡ t → ⊥) → bits_of (with_one x) 64 ≡ bits_of (p x) 64
  one-there x e =
      bits_same (with_one x) (p x) 64
      (λ y l. ap (λ (b : Bool). p x y || (b && eqb o y)) (ne_eqb t x (λ z. e (sym z))) ∙ or-false (p x y))

module _ (p : ℕ → ℕ → Bool) (a : List ℕ) (room : schema_needed ≤ length a) (t o : ℕ) (h : t < 64) (k : o < 64) where
  abbrev b : List ℕ
  b = masked p a

  -- the number that is stored
  abbrev m : ℕ
  m = bit_or (mask_at b t) (2 ^ o)

  long : length b ≡ length a
  long = masked-length p a room

  stored : bit_or (bits_of (p t) 64) (2 ^ o) ≡ m
  stored = ap (λ (n : ℕ). bit_or n (2 ^ o)) (sym (masked_mask p a room t h))

  -- cells of other masks
  kept : (i : ℕ) → (i ≡ masks_from + 2 * t → ⊥) → (i ≡ masks_from + 2 * t + 1 → ⊥) → cell (with_mask b t m) i ≡ cell b i
  unfolding with_mask cell
  kept i x y =
      get_or-set_other (set b (masks_from + 2 * t) (m % cell_size)) (masks_from + 2 * t + 1) i (m / cell_size) 0 y
      ∙ get_or-set_other b (masks_from + 2 * t) i (m % cell_size) 0 x

  stored_low : cell (with_mask b t m) (masks_from + 2 * t) ≡ m % cell_size
  unfolding with_mask cell
  stored_low =
      let l = long in
      get_or-set_other (set b (masks_from + 2 * t) (m % cell_size)) (masks_from + 2 * t + 1) (masks_from + 2 * t) (m / cell_size) 0
      (λ e. omega arith)
      ∙ get_or-set_same b (masks_from + 2 * t) (m % cell_size) 0 (omega arith)

  stored-high : cell (with_mask b t m) (masks_from + 2 * t + 1) ≡ m / cell_size
  unfolding with_mask cell
  stored-high =
      let l = long in
      let s = length-set b (masks_from + 2 * t) (m % cell_size) in
      get_or-set_same (set b (masks_from + 2 * t) (m % cell_size)) (masks_from + 2 * t + 1) (m / cell_size) 0 (omega arith)

  stored-length : length (with_mask b t m) ≡ length a
  unfolding with_mask
  stored-length =
      length-set (set b (masks_from + 2 * t) (m % cell_size)) (masks_from + 2 * t + 1) (m / cell_size)
      ∙ length-set b (masks_from + 2 * t) (m % cell_size)
      ∙ long

  pub mask_joined : joined b t o ≡ masked (with_one p t o) a
  unfolding joined
  mask_joined =
      masked-is (with_one p t o) a room (with_mask b t m) stored-length
      (λ i l. kept i (λ e. omega arith) (λ e. omega arith) ∙ masked-front p a room i l)
      (λ i l. kept i (λ e. omega arith) (λ e. omega arith) ∙ masked-behind p a room i l)
      low
      high
    where
      low : (x : ℕ) → x < 64 → cell (with_mask b t m) (masks_from + 2 * x) ≡ bits_of (with_one p t o x) 64 % cell_size
      low x l = go (ℕ_discrete x t)
        where
          go : Dec (x ≡ t) → cell (with_mask b t m) (masks_from + 2 * x) ≡ bits_of (with_one p t o x) 64 % cell_size
          go (yes e) =
              ap (λ (z : ℕ). cell (with_mask b t m) (masks_from + 2 * z)) e
              ∙ stored_low
              ∙ ap (λ (n : ℕ). n % cell_size) (sym (one-here p t o x e k ∙ stored))
          go (no e) =
              kept (masks_from + 2 * x) (λ z. e (omega arith)) (λ z. omega arith)
              ∙ masked_low p a room x l
              ∙ ap (λ (n : ℕ). n % cell_size) (sym (one-there p t o x e))

      high : (x : ℕ) → x < 64 → cell (with_mask b t m) (masks_from + 2 * x + 1) ≡ bits_of (with_one p t o x) 64 / cell_size
      high x l = go (ℕ_discrete x t)
        where
          go : Dec (x ≡ t) → cell (with_mask b t m) (masks_from + 2 * x + 1) ≡ bits_of (with_one p t o x) 64 / cell_size
          go (yes e) =
              ap (λ (z : ℕ). cell (with_mask b t m) (masks_from + 2 * z + 1)) e
              ∙ stored-high
              ∙ ap (λ (n : ℕ). n / cell_size) (sym (one-here p t o x e k ∙ stored))
          go (no e) =
              kept (masks_from + 2 * x + 1) (λ z. omega arith) (λ z. e (omega arith))
              ∙ masked-high p a room x l
              ∙ ap (λ (n : ℕ). n / cell_size) (sym (one-there p t o x e))

-- ---- what one that joins leaves

module _ (a : List ℕ) (t o : ℕ) where
  -- whatever stands in front of the masks
  front-joined : (i : ℕ) → i < masks_from → cell (joined a t o) i ≡ cell a i
  unfolding joined with_mask cell
  front-joined i h =
      let m = bit_or (mask_at a t) (2 ^ o) in
      get_or-set_other (set a (masks_from + 2 * t) (m % cell_size)) (masks_from + 2 * t + 1) i (m / cell_size) 0 (λ e. omega arith)
      ∙ get_or-set_other a (masks_from + 2 * t) i (m % cell_size) 0 (λ e. omega arith)

  length-joined : length (joined a t o) ≡ length a
  unfolding joined with_mask
  length-joined =
      let m = bit_or (mask_at a t) (2 ^ o) in
      length-set (set a (masks_from + 2 * t) (m % cell_size)) (masks_from + 2 * t + 1) (m / cell_size)
      ∙ length-set a (masks_from + 2 * t) (m % cell_size)

  -- the code's two writes
  pub joined-stored : (m n : ℕ) → m ≡ mask_at a t → n ≡ bit_or m (2 ^ o)
      → set (set a (masks_from + 2 * t) (n % cell_size)) (masks_from + 2 * t + 1) (n / cell_size) ≡ joined a t o
  unfolding joined with_mask
  joined-stored m n e f = ap (λ (x : ℕ). with_mask a t x) (f ∙ ap (λ (x : ℕ). bit_or x (2 ^ o)) e)

module _ (a : List ℕ) (t v : ℕ) (e : v ≡ letter_at a t) where
  pub no_object : (v ≡ O → ⊥) → a ≡ object_joined a t
  unfolding object_joined
  no_object h = rw (ne_eqb (letter_at a t) O (λ z. h (e ∙ z)))

  pub object-joined : (b : List ℕ) → v ≡ O → b ≡ joined a t t → b ≡ object_joined a t
  unfolding object_joined
  object-joined b h f = rw (eq-eqb (letter_at a t) O (sym e ∙ h)) f

pub ruleset join_laws = (joined-stored, no_object, object-joined)

-- ---- one after another

-- a turn of a loop that joins
pub join-turn : (step : List ℕ → ℕ → List ℕ) (a b c : List ℕ) (n : ℕ) → b ≡ joined_by step a n → c ≡ step b n → c ≡ joined_by step a (n + 1)
unfolding joined_by
join-turn step a b c n e f = rw (add-one n) (f ∙ ap (λ (x : List ℕ). step x n) e)

-- what each step leaves is left
pub join_kept : {B : Type 0} (step : List ℕ → ℕ → List ℕ) (ask : List ℕ → B) → ((a : List ℕ) (n : ℕ) → ask (step a n) ≡ ask a)
    → (a : List ℕ) (n : ℕ) → ask (joined_by step a n) ≡ ask a
unfolding joined_by
join_kept step ask kept a zero = refl
join_kept step ask kept a (suc n) = kept (joined_by step a n) n ∙ join_kept step ask kept a n

pub objects-length : (a : List ℕ) (n : ℕ) → length (objects_joined a n) ≡ length a
unfolding object_joined
objects-length =
    join_kept object_joined length
    (λ a n. by_test (eqb (letter_at a n) O) (λ e. rw e (length-joined a n n)) (λ e. rw e refl))

pub members_length : (a : List ℕ) (n : ℕ) → length (members_joined a n) ≡ length a
unfolding member_joined
members_length = join_kept member_joined length (λ a n. length-joined a (type_at a n) (object_at a n))

pub members_front : (a : List ℕ) (n i : ℕ) → i < masks_from → cell (members_joined a n) i ≡ cell a i
unfolding member_joined
members_front a n i h =
    join_kept member_joined (λ (b : List ℕ). cell b i) (λ b j. front-joined b (type_at b j) (object_at b j) i h) a n

-- so that each of them can join
pub still_joinable : (a b : List ℕ) (n : ℕ) → Joinable a → b ≡ members_joined a n → Joinable b
still_joinable a b n h e =
    let front : (i : ℕ) → i < masks_from → cell b i ≡ cell a i = λ i l. ap (λ (x : List ℕ). cell x i) e ∙ members_front a n i l in
    let few = h.few in
    let same = front member_count (omega arith) in
    record {
      long = omega (arith, ap length e, members_length a n, h.long);
      few = omega arith;
      small = λ j l.
          let small = h.small j (omega arith) in
          (omega (arith, small.0, front (member_rows + 3 * j + 1) (omega arith)), omega (arith, small.1, front (member_rows + 3 * j + 2) (omega arith)));
    }

-- ---- what is said in the masks

-- the count stands as it stood
pub count_kept : (a b : List ℕ) (n j : ℕ) → b ≡ members_joined a n → j < cell a member_count → j < cell b member_count
count_kept a b n j e h =
    omega (arith, ap (λ (l : List ℕ). cell l member_count) e, members_front a n member_count (omega arith))

pub ruleset turn_laws = (join-turn, still_joinable, count_kept)

-- type j is an object type, and it is both x and y
unfoldable pub own_at : List ℕ → ℕ → ℕ → ℕ → Bool
own_at a x y j = eqb (letter_at a j) O && (eqb j x && eqb j y)

-- one of the first n types is both, or one of the first m `M` records gives x the object y
unfoldable pub own_to : List ℕ → ℕ → ℕ → ℕ → Bool
own_to a n x y = any (own_at a x y) (count_up 0 n)

unfoldable pub joins_to : List ℕ → ℕ → ℕ → ℕ → ℕ → Bool
joins_to a n m x y = own_to a n x y || any (pair_at a member_rows x y) (count_up 0 m)

module _ (a : List ℕ) (room : schema_needed ≤ length a) where
  pub objects-masked : ((i : ℕ) → masks_from ≤ i → i < schema_needed → cell a i ≡ 0) → (n : ℕ) → n ≤ 64
      → objects_joined a n ≡ masked (own_to a n) a
  unfolding joined_by object_joined own_to own_at
  objects-masked blank zero h = sym (masked-none a room blank)
  objects-masked blank (suc n) h =
      ap (λ (b : List ℕ). object_joined b n) (objects-masked blank n (omega arith))
      ∙ ap (λ (k : ℕ). cond (eqb k O) (joined (masked (own_to a n) a) n n) (masked (own_to a n) a))
      (masked-front (own_to a n) a room (type_rows + 3 * n + 0) (omega arith))
      ∙ by_test (eqb (letter_at a n) O)
      (λ g. rw g (mask_joined (own_to a n) a room n n (omega arith) (omega arith)) ∙ masked_same _ _ a room (λ x y l k. more g x y))
      (λ g. rw g (masked_same _ _ a room (λ x y l k. less g x y)))
    where
      more : eqb (letter_at a n) O ≡ true → (x y : ℕ) → with_one (own_to a n) n n x y ≡ own_to a (suc n) x y
      more g x y =
          ap (λ (d : Bool). own_to a n x y || (d && (eqb n x && eqb n y))) (sym g)
          ∙ sym (next-any (own_at a x y) n)

      less : eqb (letter_at a n) O ≡ false → (x y : ℕ) → own_to a n x y ≡ own_to a (suc n) x y
      less g x y =
          sym (or-false (own_to a n x y))
          ∙ ap (λ (d : Bool). own_to a n x y || (d && (eqb n x && eqb n y))) (sym g)
          ∙ sym (next-any (own_at a x y) n)

  pub members_masked : (n m : ℕ) → m ≤ 1024 → ((j : ℕ) → j < m → (type_at a j < 64) × (object_at a j < 64))
      → members_joined (masked (own_to a n) a) m ≡ masked (joins_to a n m) a
  unfolding joined_by member_joined joins_to pair_at
  members_masked n zero h small = masked_same _ _ a room (λ x y l k. sym (or-false (own_to a n x y)))
  members_masked n (suc m) h small =
      let p = joins_to a n m in
      let t = type_at a m in
      let o = object_at a m in
      let both = small m (omega arith) in
      ap (λ (b : List ℕ). member_joined b m) (members_masked n m (omega arith) (λ j l. small j (omega arith)))
      ∙ ap₂ (joined (masked p a)) (masked-front p a room (member_rows + 3 * m + 1) (omega arith)) (masked-front p a room (member_rows + 3 * m + 2) (omega arith))
      ∙ mask_joined p a room t o both.0 both.1
      ∙ masked_same _ _ a room (λ x y l k.
      or_assoc (own_to a n x y) (any (pair_at a member_rows x y) (count_up 0 m)) (pair_at a member_rows x y m)
      ∙ ap (λ (d : Bool). own_to a n x y || d) (sym (next-any (pair_at a member_rows x y) m)))

-- ---- what the tables ask for is what the rule says

module _ (a : List ℕ) where
  letter_within : (y : ℕ) → is_object (schema_at a) (type_no y) ≡ true → (y < cell a type_count) × (eqb (letter_at a y) O ≡ true)
  unfolding schema_at narrow_at
  letter_within y h =
      by_test (ltb y (cell a type_count))
      (λ e. (ltb-true y (cell a type_count) e, rw e at h))
      (λ e. absurd (false≢true (rw e at h)))

  letter_there : (y : ℕ) → y < cell a type_count → eqb (letter_at a y) O ≡ true → is_object (schema_at a) (type_no y) ≡ true
  unfolding schema_at narrow_at
  letter_there y h e = rw (lt-ltb y (cell a type_count) h) e

  own_bits : (x y : ℕ) → own_to a (cell a type_count) x y ≡ (eqb y x && is_object (schema_at a) (type_no y))
  unfolding own_to own_at
  own_bits x y = both_ways _ _ there back
    where
      there : own_to a (cell a type_count) x y ≡ true → (eqb y x && is_object (schema_at a) (type_no y)) ≡ true
      there h =
          let found = any_where (own_at a x y) 0 (cell a type_count) h in
          let j : ℕ = found.0 in
          let letter = and-true_left (eqb (letter_at a j) O) (eqb j x && eqb j y) found.1.1 in
          let pair = and-true_right (eqb (letter_at a j) O) (eqb j x && eqb j y) found.1.1 in
          let jx : j ≡ x = eqb-true j x (and-true_left (eqb j x) (eqb j y) pair) in
          let jy : j ≡ y = eqb-true j y (and-true_right (eqb j x) (eqb j y) pair) in
          and-true (eq-eqb y x (sym jy ∙ jx))
          (letter_there y (omega (arith, found.1.0, jy)) (ap (λ (k : ℕ). eqb (letter_at a k) O) (sym jy) ∙ letter))

      back : (eqb y x && is_object (schema_at a) (type_no y)) ≡ true → own_to a (cell a type_count) x y ≡ true
      back h =
          let yx : y ≡ x = eqb-true y x (and-true_left (eqb y x) (is_object (schema_at a) (type_no y)) h) in
          let l = letter_within y (and-true_right (eqb y x) (is_object (schema_at a) (type_no y)) h) in
          any-there (own_at a x y) 0 (cell a type_count) y (omega arith) (omega (arith, l.0))
          (and-true l.1 (and-true (eq-eqb y x yx) (eq-eqb y y refl)))

  module _ (sound : MembersSound (schema_at a)) where
    joins_member : (x y : ℕ) → joins_to a (cell a type_count) (cell a member_count) x y ≡ member_of (schema_at a) x y
    unfolding joins_to member_of schema_at pair_in
    joins_member x y =
        ap (λ (b : Bool). b || any (pair_at a member_rows x y) (count_up 0 (cell a member_count))) (own_bits x y)
        ∙ rule (eqb y x) (is_object (schema_at a) (type_no y)) (any (pair_at a member_rows x y) (count_up 0 (cell a member_count)))
        (object-given (schema_at a) sound (type_no x) (type_no y))

    -- the numbers of an `M` record are types'
    rows_small : (j : ℕ) → j < cell a member_count → (type_at a j < 64) × (object_at a j < 64)
    unfolding schema_at pair_in pair_at
    rows_small j h =
        let t = type_no (type_at a j) in
        let o = type_no (object_at a j) in
        let here : pair_at a member_rows (type_at a j) (object_at a j) j ≡ true = and-true (eq-eqb (type_at a j) (type_at a j) refl) (eq-eqb (object_at a j) (object_at a j) refl) in
        let both = sound.given t o
        (any-there (pair_at a member_rows (type_at a j) (object_at a j)) 0 (cell a member_count) j (omega arith) (omega arith) here) in
        (sound.below t (members_declared (schema_at a) t both.0), sound.below o (object_declared (schema_at a) o both.1))

-- ---- the whole

module _ (a : List ℕ) (h : Maskable a) (b : List ℕ) (first : b ≡ objects_joined a (cell a type_count)) where
  objects-laid : b ≡ masked (own_to a (cell a type_count)) a
  objects-laid = first ∙ objects-masked a h.long h.blank (cell a type_count) h.types

  front : (i : ℕ) → i < masks_from → cell b i ≡ cell a i
  front i l = ap (λ (x : List ℕ). cell x i) objects-laid ∙ masked-front (own_to a (cell a type_count)) a h.long i l

  pub members_joinable : Joinable b
  members_joinable =
      let same = front member_count (omega arith) in
      record {
        long = omega (arith, ap length first, objects-length a (cell a type_count), h.long);
        few = omega (arith, h.members);
        small = λ j l.
            let few = h.members in
            let small = rows_small a h.sound j (omega arith) in
            (omega (arith, small.0, front (member_rows + 3 * j + 1) (omega arith)), omega (arith, small.1, front (member_rows + 3 * j + 2) (omega arith)));
      }

  pub all-joined : (c : List ℕ) → c ≡ members_joined b (cell b member_count) → c ≡ masked (member_of (schema_at a)) a
  all-joined c e =
      e ∙ ap₂ members_joined objects-laid (front member_count (omega arith))
      ∙ members_masked a h.long (cell a type_count) (cell a member_count) h.members (rows_small a h.sound)
      ∙ masked_same _ _ a h.long (λ x y l k. joins_member a h.sound x y)

pub ruleset whole_laws = (members_joinable, all-joined)
