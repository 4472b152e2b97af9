-- Masks laid behind the links: what an area says that has them. Assumes nothing.
use Prim.Native.Nat.{ℕ, ◌+◌, ◌-◌, ◌*◌, ◌/◌, ◌%◌, ◌≤◌, ◌<◌}
use native.Mathlib.Omega.{arith}
use native.Mathlib.Decide.{dec_lt}
use mathlib.Core.Path.{◌≡◌, refl, sym, ap, ap₂, ◌∙◌}
use mathlib.Core.Bool.{Bool, false}
use mathlib.Core.List.{List}
use lib.ListN.{length, get_or}
use lib.Seq.{ext_get_or}
use borrow.Author.Tests.{lt-ltb}
use Rattle.bits.specs.Bits.{bits_of}
use Rattle.bits.proofs.Laws.{bits_same, bits_none, halves}
use Rattle.index.proofs.Links.{tabled-length, tabled-at}
use Rattle.masks.specs.Masks.{masks_from, schema_needed, cell_size, filled, half_of, mask_cells, masked, mask_at}
use Rattle.tables.specs.Read.{cell}
use Rattle.tables.proofs.Laid.{laid-length, laid_in, laid-before, laid-behind}

-- ---- numbers by their places

filled-length : (n : ℕ) (f : ℕ → ℕ) → length (filled n f) ≡ n
unfolding filled
filled-length n f = tabled-length f n 0

filled_at : (n : ℕ) (f : ℕ → ℕ) (i : ℕ) → i < n → get_or (filled n f) i 0 ≡ f i
unfolding filled
filled_at n f i h = tabled-at f 0 n i h

module _ (p : ℕ → ℕ → Bool) where
  cells-length : length (mask_cells p) ≡ 128
  unfolding mask_cells
  cells-length = filled-length 128 (λ i. half_of (i % 2) (bits_of (p (i / 2)) 64))

  cells_at : (i : ℕ) → i < 128 → get_or (mask_cells p) i 0 ≡ half_of (i % 2) (bits_of (p (i / 2)) 64)
  unfolding mask_cells
  cells_at i h = filled_at 128 (λ i. half_of (i % 2) (bits_of (p (i / 2)) 64)) i h

-- ---- an area with masks

module _ (p : ℕ → ℕ → Bool) (a : List ℕ) (room : schema_needed ≤ length a) where
  pub masked-length : length (masked p a) ≡ length a
  unfolding masked
  masked-length = laid-length masks_from (mask_cells p) a (omega (arith, cells-length p))

  -- what stands in front stays
  pub masked-front : (i : ℕ) → i < masks_from → cell (masked p a) i ≡ cell a i
  unfolding masked cell
  masked-front i h = laid-before masks_from (mask_cells p) a i (omega arith) h

  pub masked-behind : (i : ℕ) → schema_needed ≤ i → cell (masked p a) i ≡ cell a i
  unfolding masked cell
  masked-behind i h = laid-behind masks_from (mask_cells p) a i (omega arith) (omega (arith, cells-length p))

  pub masked-at : (i : ℕ) → i < 128 → cell (masked p a) (masks_from + i) ≡ half_of (i % 2) (bits_of (p (i / 2)) 64)
  unfolding masked cell
  masked-at i h = laid_in masks_from (mask_cells p) a i (omega arith) (omega (arith, cells-length p)) ∙ cells_at p i h

  module _ (t : ℕ) (h : t < 64) where
    -- cell h of mask t
    half : (i j : ℕ) → i < 128 → i % 2 ≡ j → i / 2 ≡ t → cell (masked p a) (masks_from + i) ≡ half_of j (bits_of (p t) 64)
    half i j k m d = masked-at i k ∙ ap₂ (λ (x y : ℕ). half_of x (bits_of (p y) 64)) m d

    pub masked_low : cell (masked p a) (masks_from + 2 * t) ≡ bits_of (p t) 64 % cell_size
    unfolding half_of
    masked_low = half (2 * t) 0 (omega arith) (omega arith) (omega arith)

    pub masked-high : cell (masked p a) (masks_from + 2 * t + 1) ≡ bits_of (p t) 64 / cell_size
    unfolding half_of
    masked-high = ap (cell (masked p a)) (omega arith) ∙ half (2 * t + 1) 1 (omega arith) (omega arith) (omega arith)

    pub masked_mask : mask_at (masked p a) t ≡ bits_of (p t) 64
    unfolding mask_at
    masked_mask =
        rw (lt-ltb t 64 h)
        (ap₂ (λ (x y : ℕ). x + cell_size * y) masked_low masked-high ∙ halves (bits_of (p t) 64))

  -- ---- whatever has the front of a, these masks and nothing else besides

  module _ (b : List ℕ) (same : length b ≡ length a) (front : (i : ℕ) → i < masks_from → cell b i ≡ cell a i)
      (behind : (i : ℕ) → schema_needed ≤ i → cell b i ≡ cell a i)
      (low : (t : ℕ) → t < 64 → cell b (masks_from + 2 * t) ≡ bits_of (p t) 64 % cell_size)
      (high : (t : ℕ) → t < 64 → cell b (masks_from + 2 * t + 1) ≡ bits_of (p t) 64 / cell_size) where
    cell-is : (i : ℕ) → cell b i ≡ cell (masked p a) i
    cell-is i = go (dec_lt i masks_from) (dec_lt i schema_needed) (dec_lt ((i - masks_from) % 2) 1)
      where
        t : ℕ
        t = (i - masks_from) / 2

        go : Dec (i < masks_from) → Dec (i < schema_needed) → Dec ((i - masks_from) % 2 < 1) → cell b i ≡ cell (masked p a) i
        go (yes h) d e = front i h ∙ sym (masked-front i h)
        go (no h) (no k) e = behind i (omega arith) ∙ sym (masked-behind i (omega arith))
        go (no h) (yes k) (yes e) =
            let l : t < 64 = omega arith in
            let at : i ≡ masks_from + 2 * t = omega arith in
            ap (cell b) at ∙ low t l ∙ sym (masked_low t l) ∙ ap (cell (masked p a)) (sym at)
        go (no h) (yes k) (no e) =
            let l : t < 64 = omega arith in
            let at : i ≡ masks_from + 2 * t + 1 = omega arith in
            ap (cell b) at ∙ high t l ∙ sym (masked-high t l) ∙ ap (cell (masked p a)) (sym at)

    pub masked-is : b ≡ masked p a
    unfolding cell
    masked-is = ext_get_or 0 b (masked p a) (same ∙ sym masked-length) (λ i h. cell-is i)

-- what is said of the numbers below 64 decides
pub masked_same : (p q : ℕ → ℕ → Bool) (a : List ℕ) → schema_needed ≤ length a → ((t o : ℕ) → t < 64 → o < 64 → p t o ≡ q t o)
    → masked p a ≡ masked q a
masked_same p q a room e =
    let same : (t : ℕ) → t < 64 → bits_of (p t) 64 ≡ bits_of (q t) 64 = λ t h. bits_same (p t) (q t) 64 (λ o k. e t o h k) in
    masked-is q a room (masked p a) (masked-length p a room) (masked-front p a room) (masked-behind p a room)
    (λ t h. masked_low p a room t h ∙ ap (λ (m : ℕ). m % cell_size) (same t h))
    (λ t h. masked-high p a room t h ∙ ap (λ (m : ℕ). m / cell_size) (same t h))

-- no bit is set where zeros stand
pub masked-none : (a : List ℕ) → schema_needed ≤ length a → ((i : ℕ) → masks_from ≤ i → i < schema_needed → cell a i ≡ 0) → masked (λ _ _. false) a ≡ a
masked-none a room blank =
    let z : bits_of (λ _. false) 64 ≡ 0 = bits_none (λ _. false) 64 (λ o h. refl) in
    sym
    (masked-is (λ _ _. false) a room a refl (λ i h. refl) (λ i h. refl)
    (λ t h. blank (masks_from + 2 * t) (omega arith) (omega arith) ∙ sym (ap (λ (m : ℕ). m % cell_size) z))
    (λ t h. blank (masks_from + 2 * t + 1) (omega arith) (omega arith) ∙ sym (ap (λ (m : ℕ). m / cell_size) z)))
