-- Laws of bits. Assumes nothing.
use Prim.Native.Nat.{ℕ, zero, suc, ◌+◌, ◌-◌, ◌*◌, ◌/◌, ◌%◌, ◌^◌, ◌≤◌, ◌<◌}
use native.Mathlib.Nat.{div-eq_of_lt, div_self, div-lt_iff_lt-mul, div-add-mod', mul-div_cancel, mod-lt, lt_of_lt_of_le, zero-lt-suc, one-mul, zero-mul, pow-suc, mul-mod_left}
use native.Mathlib.Decide.{dec_lt}
use native.Mathlib.Omega.{arith}
use mathlib.Core.Path.{◌≡◌, refl, sym, ap, ap₂, ◌∙◌}
use mathlib.Core.Bool.{Bool, true, false, ◌||◌, ◌&&◌, not}
use lib.Dec.{eqb}
use lib.Pow.{pow_pos, pow_mono, pow-lt, pow-add, high, low, field, mod-mod-pow}
use lib.Bits.{bit_or, bit_and, or_shr, and_shr, or_mod, and_mod, or_lt}
use borrow.Author.Tests.{eq-eqb, ne_eqb, eqb-false, not-true}
use Rattle.rules.specs.Lists.{one_if, any, count_up}
use Rattle.bits.specs.Bits.{bit, bits_of}
use Rattle.bits.proofs.Tests.{both_ways, any_where, any-there}

-- ---- where a bit stands

-- nothing stands above
pub bit_above : (m n o : ℕ) → m < 2 ^ n → n ≤ o → bit m o ≡ false
unfolding bit
bit_above m n o h l = ap (λ (x : ℕ). eqb (x % 2) 1) (div-eq_of_lt (lt_of_lt_of_le h (pow_mono l)))

pub bit-zero : (o : ℕ) → bit 0 o ≡ false
bit-zero o = bit_above 0 o o (pow_pos o) (omega arith)

-- the bits below n are those of the n low digits
pub bit-low : (m n o : ℕ) → o < n → bit m o ≡ bit (m % 2 ^ n) o
unfolding bit
bit-low m n o h =
    let j : ℕ = n - (1 + o) in
    let e : j + (1 + o) ≡ n = omega arith in
    ap (λ (x : ℕ). eqb x 1)
    (sym (field m 1 o)
    ∙ ap (λ (x : ℕ). x / 2 ^ o) (sym (mod-mod-pow m j (1 + o)) ∙ ap (λ (x : ℕ). m % 2 ^ x % 2 ^ (1 + o)) e)
    ∙ field (m % 2 ^ n) 1 o)

-- ---- a number made of bits

-- it has no more than n
pub bits_small : (p : ℕ → Bool) (n : ℕ) → bits_of p n < 2 ^ n
unfolding bits_of
bits_small p zero = omega arith
bits_small p (suc n) = go (bits_small p n) (p n)
  where
    go : bits_of p n < 2 ^ n → (b : Bool) → one_if b * 2 ^ n + bits_of p n < 2 ^ suc n
    go ih true = omega (arith, pow-suc 2 n, one-mul (2 ^ n))
    go ih false = omega (arith, pow-suc 2 n)

digit : (b : Bool) → eqb (one_if b % 2) 1 ≡ b
digit true = refl
digit false = refl

-- its bit o is what was said of o
pub bit_in : (p : ℕ → Bool) (n o : ℕ) → o < n → bit (bits_of p n) o ≡ p o
unfolding bit bits_of
bit_in p zero o h = absurd (omega arith)
bit_in p (suc n) o h = go (λ l. bit_in p n o l) (dec_lt o n)
  where
    go : (o < n → bit (bits_of p n) o ≡ p o) → Dec (o < n) → bit (bits_of p (suc n)) o ≡ p o
    go ih (yes l) =
        bit-low (bits_of p (suc n)) n o l ∙ ap (λ (x : ℕ). bit x o) (low (one_if (p n)) n (bits_small p n)) ∙ ih l
    go ih (no l) =
        let e : o ≡ n = omega arith in
        ap (bit (bits_of p (suc n))) e
        ∙ ap (λ (x : ℕ). eqb (x % 2) 1) (high (one_if (p n)) n (bits_small p n))
        ∙ digit (p n)
        ∙ ap p (sym e)

-- what is said of the numbers below n decides
pub bits_same : (p q : ℕ → Bool) (n : ℕ) → ((o : ℕ) → o < n → p o ≡ q o) → bits_of p n ≡ bits_of q n
unfolding bits_of
bits_same p q zero h = refl
bits_same p q (suc n) h =
    ap₂ (λ (b : Bool) (m : ℕ). one_if b * 2 ^ n + m) (h n (omega arith)) (bits_same p q n (λ o l. h o (omega arith)))

one-digit : (x : ℕ) → x < 2 → one_if (eqb (x % 2) 1) ≡ x
one-digit zero h = refl
one-digit (suc zero) h = refl
one-digit (suc (suc x)) h = absurd (omega arith)

top_digit : (m n : ℕ) → m < 2 ^ suc n → m / 2 ^ n < 2
top_digit m n h = (div-lt_iff_lt-mul (pow_pos n)).1 (omega (arith, pow-suc 2 n))

-- a number is made of its bits
pub bits_back : (m n : ℕ) → m < 2 ^ n → bits_of (bit m) n ≡ m
unfolding bits_of bit
bits_back m zero h = omega arith
bits_back m (suc n) h =
    ap₂ (λ (x y : ℕ). x * 2 ^ n + y) (one-digit (m / 2 ^ n) (top_digit m n h))
    (bits_same (bit m) (bit (m % 2 ^ n)) n (λ o l. bit-low m n o l) ∙ bits_back (m % 2 ^ n) n (mod-lt m (pow_pos n)))
    ∙ div-add-mod' m (2 ^ n)

-- a number without bits is 0
pub bits_none : (p : ℕ → Bool) (n : ℕ) → ((o : ℕ) → o < n → p o ≡ false) → bits_of p n ≡ 0
bits_none p n h = bits_same p (bit 0) n (λ o l. h o l ∙ sym (bit-zero o)) ∙ bits_back 0 n (pow_pos n)

-- ---- the bits of two numbers

or_digits : (x y : ℕ) → x < 2 → y < 2 → eqb (bit_or x y) 1 ≡ (eqb x 1 || eqb y 1)
or_digits zero y h l = refl
or_digits (suc zero) zero h l = refl
or_digits (suc zero) (suc zero) h l = refl
or_digits (suc zero) (suc (suc y)) h l = absurd (omega arith)
or_digits (suc (suc x)) y h l = absurd (omega arith)

and_digits : (x y : ℕ) → x < 2 → y < 2 → eqb (bit_and x y) 1 ≡ (eqb x 1 && eqb y 1)
and_digits zero y h l = refl
and_digits (suc zero) zero h l = refl
and_digits (suc zero) (suc zero) h l = refl
and_digits (suc zero) (suc (suc y)) h l = absurd (omega arith)
and_digits (suc (suc x)) y h l = absurd (omega arith)

pub bit-or : (m n o : ℕ) → bit (bit_or m n) o ≡ (bit m o || bit n o)
unfolding bit
bit-or m n o =
    ap (λ (x : ℕ). eqb (x % 2) 1) (or_shr m n o)
    ∙ ap (λ (x : ℕ). eqb x 1) (or_mod (m / 2 ^ o) (n / 2 ^ o) 1)
    ∙ or_digits (m / 2 ^ o % 2) (n / 2 ^ o % 2) (mod-lt _ (zero-lt-suc 1)) (mod-lt _ (zero-lt-suc 1))

pub bit-and : (m n o : ℕ) → bit (bit_and m n) o ≡ (bit m o && bit n o)
unfolding bit
bit-and m n o =
    ap (λ (x : ℕ). eqb (x % 2) 1) (and_shr m n o)
    ∙ ap (λ (x : ℕ). eqb x 1) (and_mod (m / 2 ^ o) (n / 2 ^ o) 1)
    ∙ and_digits (m / 2 ^ o % 2) (n / 2 ^ o % 2) (mod-lt _ (zero-lt-suc 1)) (mod-lt _ (zero-lt-suc 1))

-- ---- one bit

pub bit-one : (o k : ℕ) → bit (2 ^ o) k ≡ eqb k o
unfolding bit
bit-one o k = go (dec_lt o k) (dec_lt k o)
  where
    go : Dec (o < k) → Dec (k < o) → eqb (2 ^ o / 2 ^ k % 2) 1 ≡ eqb k o
    go (yes h) d = ap (λ (x : ℕ). eqb (x % 2) 1) (div-eq_of_lt (pow-lt h)) ∙ sym (ne_eqb k o (λ e. omega arith))
    go (no h) (no l) =
        let e : k ≡ o = omega arith in
        ap (λ (x : ℕ). eqb (2 ^ o / 2 ^ x % 2) 1) e
        ∙ ap (λ (x : ℕ). eqb (x % 2) 1) (div_self (pow_pos o))
        ∙ sym (eq-eqb k o e)
    go (no h) (yes l) =
        let e : o ≡ suc (o - k - 1) + k = omega arith in
        ap (λ (x : ℕ). eqb (2 ^ x / 2 ^ k % 2) 1) e
        ∙ ap (λ (x : ℕ). eqb (x / 2 ^ k % 2) 1) (pow-add 2 (suc (o - k - 1)) k)
        ∙ ap (λ (x : ℕ). eqb (x % 2) 1) (mul-div_cancel (2 ^ suc (o - k - 1)) (pow_pos k))
        ∙ ap (λ (x : ℕ). eqb (x % 2) 1) (pow-suc 2 (o - k - 1))
        ∙ ap (λ (x : ℕ). eqb x 1) (mul-mod_left (2 ^ (o - k - 1)) 2)
        ∙ sym (ne_eqb k o (λ e. omega arith))

-- one bit set
pub bit-set : (m o k : ℕ) → bit (bit_or m (2 ^ o)) k ≡ (bit m k || eqb k o)
bit-set m o k = bit-or m (2 ^ o) k ∙ ap (λ (b : Bool). bit m k || b) (bit-one o k)

pub set_small : (m n o : ℕ) → m < 2 ^ n → o < n → bit_or m (2 ^ o) < 2 ^ n
set_small m n o h l = or_lt n m (2 ^ o) h (pow-lt l)

-- the number made of bits, with one more
pub or-bit : (p : ℕ → Bool) (n o : ℕ) → o < n → bit_or (bits_of p n) (2 ^ o) ≡ bits_of (λ x. p x || eqb x o) n
or-bit p n o h =
    let m = bit_or (bits_of p n) (2 ^ o) in
    sym (bits_back m n (set_small (bits_of p n) n o (bits_small p n) h))
    ∙ bits_same (bit m) (λ x. p x || eqb x o) n
    (λ x l. bit-set (bits_of p n) o x ∙ ap (λ (b : Bool). b || eqb x o) (bit_in p n x l))

-- ---- a number that is not 0 has a bit

below_top : (m n : ℕ) → m < 2 ^ suc n → bit m n ≡ false → m < 2 ^ n
unfolding bit
below_top m n h e =
    let t = top_digit m n h in
    let z : m / 2 ^ n ≡ 0 = go (m / 2 ^ n) t e in
    omega (arith, div-add-mod' m (2 ^ n), mod-lt m (pow_pos n), ap (λ (x : ℕ). x * 2 ^ n) z ∙ zero-mul (2 ^ n))
  where
    go : (x : ℕ) → x < 2 → eqb (x % 2) 1 ≡ false → x ≡ 0
    go zero t e = refl
    go (suc zero) t e = absurd (eqb-false 1 1 e refl)
    go (suc (suc x)) t e = absurd (omega arith)

pub some-bit : (m n : ℕ) → m < 2 ^ n → (m ≡ 0 → ⊥) → (o : ℕ) × ((o < n) × (bit m o ≡ true))
some-bit m zero h z = absurd (z (omega arith))
some-bit m (suc n) h z = go (λ l. some-bit m n l z) (bit m n) refl
  where
    go : (m < 2 ^ n → (o : ℕ) × ((o < n) × (bit m o ≡ true))) → (b : Bool) → bit m n ≡ b → (o : ℕ) × ((o < suc n) × (bit m o ≡ true))
    go ih true e = (n, (omega arith, e))
    go ih false e = let r = ih (below_top m n h e) in (r.0, (omega (arith, r.1.0), r.1.1))

pub bit-some : (m o : ℕ) → bit m o ≡ true → m ≡ 0 → ⊥
bit-some m o e z =
    let f : true ≡ false = sym e ∙ ap (λ (x : ℕ). bit x o) z ∙ bit-zero o in
    let w : ◌≡◌ {A = ℕ} 1 0 = ap one_if f in
    omega arith

-- the same as a test
pub any-bit : (m n : ℕ) → m < 2 ^ n → any (bit m) (count_up 0 n) ≡ not (eqb m 0)
any-bit m n h =
    both_ways (any (bit m) (count_up 0 n)) (not (eqb m 0))
    (λ e. let found = any_where (bit m) 0 n e in ap not (ne_eqb m 0 (bit-some m found.0 found.1.1)))
    (λ e. let found = some-bit m n h (eqb-false m 0 (not-true (eqb m 0) e)) in
    any-there (bit m) 0 n found.0 (omega arith) (omega (arith, found.1.0)) found.1.1)

-- ---- two halves of 32 bits

pub halves : (m : ℕ) → m % 4294967296 + 4294967296 * (m / 4294967296) ≡ m
halves m = omega arith
