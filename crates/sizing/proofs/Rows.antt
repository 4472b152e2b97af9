-- Rows of multiplicities in an area: a row cleared, the first row, and numbers added at nodes. Assumes nothing.
use Prim.Native.Nat.{ℕ, ◌+◌, ◌*◌, ◌-◌, ◌≤◌, ◌<◌}
use native.Mathlib.Nat.{zero-add, mul-zero, mul-add, mul-one}
use native.Mathlib.Decide.{dec_lt, ℕ_discrete}
use native.Mathlib.Omega.{arith}
use mathlib.Core.Path.{◌≡◌, refl, sym, ap, ap₂, ◌∙◌}
use mathlib.Core.List.{List, [], ◌∷◌, ◌++◌, map}
use lib.Dec.{eqb}
use lib.ListN.{length, get_or, take, drop, set, replicate, length-set, length-take, length-drop, length-map, length-replicate}
use lib.ListN.{get_or-replicate}
use lib.Seq.{drop-drop, ext_get_or, get_or-take, get_or-drop, get_or-set_same, get_or-set_other}
use borrow.Rule.Slice.PartMut.{put_mid}
use borrow.Author.Tests.{eq-eqb, ne_eqb}
use Rattle.rules.specs.Lists.{times, count_up, one_if}
use Rattle.rules.specs.World.{World}
use Rattle.rules.specs.Sizing.{start, cap, most}
use Rattle.rules.proofs.Cap.{cap_at_left}
use Rattle.rules.proofs.Size.{length-count_up}
use Rattle.rules.proofs.Sums.{Below}
use Rattle.rules.proofs.Visited.{get_or_up}
use Rattle.tables.specs.Layout.{laid}
use Rattle.tables.proofs.Laid.{laid-length, laid_in, laid-before, laid-behind}
use Rattle.sizing.specs.Measure.{row_in, pushed}

-- ---- a row cleared

abbrev pub zeros : ℕ → List ℕ
zeros n = replicate n 0

pub zeros-length : (n : ℕ) → length (zeros n) ≡ n
zeros-length n = length-replicate n 0

-- z is what a part of n numbers, from place b on, holds once it is filled with zeros
pub part_zeroed : (b j k n : ℕ) (l z : List ℕ) → j ≡ n → k ≡ n → z ≡ zeros k → put_mid b j l z ≡ laid b (zeros n) l
unfolding laid
part_zeroed b j k n l z s t e =
    let row : z ≡ zeros n = e ∙ ap zeros t in
    let behind : drop j (drop b l) ≡ drop (b + length (zeros n)) l =
    drop-drop j b l ∙ ap (λ (i : ℕ). drop i l) (omega (arith, zeros-length n)) in
    ap₂ (λ (x y : List ℕ). take b l ++ (x ++ y)) row behind

pub zeroed-length : (b n : ℕ) (l m : List ℕ) → m ≡ laid b (zeros n) l → b + n ≤ length l → length m ≡ length l
zeroed-length b n l m e h = ap length e ∙ laid-length b (zeros n) l (omega (arith, zeros-length n))

-- ---- a row read

pub row_get : (l : List ℕ) (b n v : ℕ) → v < n → get_or (row_in l b n) v 0 ≡ get_or l (b + v) 0
unfolding row_in
row_get l b n v h = get_or-take n (drop b l) v 0 h ∙ get_or-drop b l v 0

pub row-length : (l : List ℕ) (b n : ℕ) → b + n ≤ length l → length (row_in l b n) ≡ n
unfolding row_in
row-length l b n h = simp (length-take, length-drop) (omega arith)

-- a row of two areas that agree there
pub row_same : (l m : List ℕ) (b n : ℕ) → b + n ≤ length l → length m ≡ length l
    → ((v : ℕ) → v < n → get_or m (b + v) 0 ≡ get_or l (b + v) 0) → row_in m b n ≡ row_in l b n
row_same l m b n h same agree = ext_get_or 0 (row_in m b n) (row_in l b n) (wide ∙ sym (row-length l b n h)) each
  where
    wide : length (row_in m b n) ≡ n
    wide = row-length m b n (omega arith)

    each : (v : ℕ) → v < length (row_in m b n) → get_or (row_in m b n) v 0 ≡ get_or (row_in l b n) v 0
    each v k =
        let d : v < n = omega (arith, wide) in
        row_get m b n v d ∙ agree v d ∙ sym (row_get l b n v d)

-- ---- an area of which a row is known number by number

-- place i is none of the row of n numbers from place b on
abbrev pub Outside : ℕ → ℕ → ℕ → Type 0
Outside b n i = (w : ℕ) → w < n → i ≡ b + w → ⊥

pub row_laid : (f : ℕ → ℕ) (b n : ℕ) (l m : List ℕ) → b + n ≤ length l → length m ≡ length l
    → ((v : ℕ) → v < n → get_or m (b + v) 0 ≡ f v) → ((i : ℕ) → Outside b n i → get_or m i 0 ≡ get_or l i 0)
    → m ≡ laid b (map f (count_up 0 n)) l
row_laid f b n l m h same inside outside = ext_get_or 0 m (laid b row l) (omega (arith, laid-length b row l fits)) each
  where
    row : List ℕ
    row = map f (count_up 0 n)

    wide : length row ≡ n
    wide = length-map (count_up 0 n) f ∙ length-count_up 0 n

    fits : b + length row ≤ length l
    fits = omega (arith, wide)

    within : (v : ℕ) → v < n → get_or m (b + v) 0 ≡ get_or (laid b row l) (b + v) 0
    within v k =
        inside v k ∙ ap f (sym (zero-add v)) ∙ sym (get_or_up f 0 n v k) ∙ sym (laid_in b row l v (omega arith) (omega (arith, wide)))

    behind : (i : ℕ) → b ≤ i → Dec (i < b + n) → get_or m i 0 ≡ get_or (laid b row l) i 0
    behind i k (yes d) =
        let e : b + (i - b) ≡ i = omega arith in
        rw e at (within (i - b) (omega arith))
    behind i k (no d) =
        outside i (λ w y z. omega arith) ∙ sym (laid-behind b row l i (omega arith) (omega (arith, wide)))

    go : (i : ℕ) → Dec (i < b) → get_or m i 0 ≡ get_or (laid b row l) i 0
    go i (yes d) = outside i (λ w y z. omega arith) ∙ sym (laid-before b row l i (omega arith) d)
    go i (no d) = behind i (omega arith) (dec_lt i (b + n))

    each : (i : ℕ) → i < length m → get_or m i 0 ≡ get_or (laid b row l) i 0
    each i k = go i (dec_lt i b)

-- ---- the first row

pub first-laid : (W : World) (r t n : ℕ) (l m : List ℕ) → W.size ≡ n → r < n → n ≤ length l
    → m ≡ laid 0 (zeros n) l → t ≡ r → set m t 1 ≡ laid 0 (start W r) l
first-laid W r t n l m s h k e is =
    ap (λ (j : ℕ). set m j 1) is
    ∙ row_laid f 0 n l (set m r 1) (omega arith) (length-set m r 1 ∙ same) (λ v y. shift v ∙ at v y (ℕ_discrete v r)) apart
    ∙ ap (λ (j : ℕ). laid 0 (map f (count_up 0 j)) l) (sym s)
  where
    f : ℕ → ℕ
    f v = one_if (eqb v r)

    wide : length (zeros n) ≡ n
    wide = zeros-length n

    same : length m ≡ length l
    same = zeroed-length 0 n l m e (omega arith)

    shift : (v : ℕ) → get_or (set m r 1) (0 + v) 0 ≡ get_or (set m r 1) v 0
    shift v = ap (λ (j : ℕ). get_or (set m r 1) j 0) (zero-add v)

    at : (v : ℕ) → v < n → Dec (v ≡ r) → get_or (set m r 1) v 0 ≡ f v
    at v y (yes d) =
        ap (λ (j : ℕ). get_or (set m r 1) j 0) d ∙ get_or-set_same m r 1 0 (omega (arith, same)) ∙ sym (ap one_if (eq-eqb v r d))
    at v y (no d) =
        get_or-set_other m r v 1 0 d ∙ ap (λ (x : List ℕ). get_or x v 0) e ∙ ap (λ (j : ℕ). get_or (laid 0 (zeros n) l) j 0) (sym (zero-add v))
        ∙ laid_in 0 (zeros n) l v (omega arith) (omega (arith, wide))
        ∙ get_or-replicate n v 0 0 y ∙ sym (ap one_if (ne_eqb v r d))

    past : (i : ℕ) → Outside 0 n i → Dec (i < n) → n ≤ i
    past i o (yes d) = absurd (o i d (omega arith))
    past i o (no d) = omega arith

    apart : (i : ℕ) → Outside 0 n i → get_or (set m r 1) i 0 ≡ get_or l i 0
    apart i o =
        let u = past i o (dec_lt i n) in
        get_or-set_other m r i 1 0 (omega arith)
        ∙ ap (λ (x : List ℕ). get_or x i 0) e
        ∙ laid-behind 0 (zeros n) l i (omega arith) (omega (arith, wide))

-- ---- a number added at some nodes

module _ (b x : ℕ) where
  pub pushed_none : (m : List ℕ) → pushed b x [] m ≡ m
  unfolding pushed
  pushed_none m = refl

  pub pushed-first : (v : ℕ) (vs m : List ℕ) → pushed b x (v ∷ vs) m ≡ pushed b x vs (set m (b + v) (cap (get_or m (b + v) 0 + x)))
  unfolding pushed
  pushed-first v vs m = refl

  pub pushed-length : (vs m : List ℕ) → length (pushed b x vs m) ≡ length m
  unfolding pushed
  pushed-length [] m = refl
  pushed-length (v ∷ vs) m =
      pushed-length vs (set m (b + v) (cap (get_or m (b + v) 0 + x))) ∙ length-set m (b + v) (cap (get_or m (b + v) 0 + x))

  -- the number at a node of the row, the capped sum y before
  pub pushed_at : (vs m : List ℕ) (v y : ℕ) → b + v < length m → get_or m (b + v) 0 ≡ cap y
      → get_or (pushed b x vs m) (b + v) 0 ≡ cap (y + x * times v vs)
  unfolding pushed
  pushed_at [] m v y h e =
      let z : y ≡ y + x * 0 = omega (arith, mul-zero x) in
      e ∙ ap cap z
  pushed_at (w ∷ ws) m v y h e = go (λ z k. pushed_at ws (set m (b + w) p) v z (omega (arith, length-set m (b + w) p)) k) (ℕ_discrete v w)
    where
      p : ℕ
      p = cap (get_or m (b + w) 0 + x)

      go : ((z : ℕ) → get_or (set m (b + w) p) (b + v) 0 ≡ cap z
          → get_or (pushed b x ws (set m (b + w) p)) (b + v) 0 ≡ cap (z + x * times v ws))
          → Dec (v ≡ w) → get_or (pushed b x (w ∷ ws) m) (b + v) 0 ≡ cap (y + x * times v (w ∷ ws))
      go ih (yes d) =
          let s : b + v ≡ b + w = omega arith in
          let c : p ≡ cap (y + x) = ap (λ (i : ℕ). cap (get_or m i 0 + x)) (sym s) ∙ ap (λ (i : ℕ). cap (i + x)) e ∙ cap_at_left most y x in
          let k : get_or (set m (b + w) p) (b + v) 0 ≡ cap (y + x) =
          ap (λ (i : ℕ). get_or (set m (b + w) p) i 0) s ∙ get_or-set_same m (b + w) p 0 (omega arith) ∙ c in
          let o : times v (w ∷ ws) ≡ 1 + times v ws = ap (λ i. one_if i + times v ws) (eq-eqb v w d) in
          let q : y + x + x * times v ws ≡ y + x * times v (w ∷ ws) = rw o (omega (arith, mul-add x 1 (times v ws), mul-one x)) in
          ih (y + x) k ∙ ap cap q
      go ih (no d) =
          let k : get_or (set m (b + w) p) (b + v) 0 ≡ cap y = get_or-set_other m (b + w) (b + v) p 0 (omega arith) ∙ e in
          let o : times v (w ∷ ws) ≡ times v ws = ap (λ i. one_if i + times v ws) (ne_eqb v w d) ∙ omega arith in
          ih y k ∙ ap (λ (i : ℕ). cap (y + x * i)) (sym o)

  -- what stands outside the row
  pub pushed_out : (n : ℕ) (vs m : List ℕ) (i : ℕ) → Below n vs → Outside b n i → get_or (pushed b x vs m) i 0 ≡ get_or m i 0
  unfolding pushed
  pushed_out n [] m i u o = refl
  pushed_out n (v ∷ vs) m i u o =
      let p = cap (get_or m (b + v) 0 + x) in
      pushed_out n vs (set m (b + v) p) i u.1 o ∙ get_or-set_other m (b + v) i p 0 (o v u.0)
