-- The algebra of writing tokens: nothing, one run after another, what is left to write, and brackets. Assumes nothing.
use mathlib.Core.Path.{◌≡◌, refl, sym, ap, subst, subst₂, ◌∙◌}
use mathlib.Core.List.{List, [], ◌∷◌, ◌++◌, append_assoc, append-nil}
use Prim.Native.Nat.{ℕ, ◌+◌, ◌≤◌}
use native.Mathlib.Nat.{add-zero}
use native.Mathlib.Omega.{arith}
use lib.ListN.{length, take, drop, length-append, length-drop, take-append-drop}
use lib.Seq.{take_at, drop_at, drop-drop, length-take-le}
use Rattle.evaluate.specs.Write.{Room, Wrote}

-- ---- nothing, and one run after another

pub wrote_none : (o : List ℕ) (at : ℕ) → Wrote o at [] o at
wrote_none o at = record { place = sym (add-zero at); content = sym (rw (add-zero, take-append-drop)) }

pub wrote_then : {o o₁ o₂ a b : List ℕ} {at p r : ℕ} → at + length a + length b ≤ length o
    → Wrote o at a o₁ p → Wrote o₁ p b o₂ r → Wrote o at (a ++ b) o₂ r
wrote_then {o} {o₁} {o₂} {a} {b} {at} {p} {r} h v w =
    let n : length (take at o ++ a) ≡ p = simp (length-append, length-take-le at o (omega arith)) (sym v.place) in
    let s : o₁ ≡ (take at o ++ a) ++ drop p o = v.content ∙ rw (v.place, append_assoc) in
    let t : take p o₁ ≡ take at o ++ a = rw s (take_at (take at o ++ a) (drop p o) p n) in
    let e : drop p o₁ ≡ drop p o = rw s (drop_at (take at o ++ a) (drop p o) p n) in
    let m = length b in
    let d : drop (p + m) o₁ ≡ drop (p + m) o = sym (drop-drop m p o₁) ∙ ap (drop m) e ∙ drop-drop m p o in
    let l : at + length (a ++ b) ≡ p + length b = rw (length-append, v.place) (omega arith) in
    record { place = w.place ∙ sym l; content = w.content ∙ rw (t, d, l, append_assoc (take at o) a, append_assoc a b) }

-- writing leaves the length
pub wrote_length : {o o₁ a : List ℕ} {at p : ℕ} → Room o at a → Wrote o at a o₁ p → length o₁ ≡ length o
wrote_length {o} {o₁} {a} {at} {p} h v =
    ap length v.content ∙ simp (length-append, length-take-le at o (omega arith), length-drop) (omega arith)

-- the same tokens under another name
pub room-same : {o a b : List ℕ} {at : ℕ} → a ≡ b → Room o at a → Room o at b
room-same {o} {a} {b} {at} e h = subst (λ (x : List ℕ). Room o at x) e h

pub wrote_same : {o a b o₁ : List ℕ} {at p : ℕ} → a ≡ b → Wrote o at b o₁ p → Wrote o at a o₁ p
wrote_same {o} {a} {b} {o₁} {at} {p} e w = subst (λ (x : List ℕ). Wrote o at x o₁ p) (sym e) w

-- the room for one token is that for any other
pub room-one : {o : List ℕ} {at x y : ℕ} → Room o at (x ∷ []) → Room o at (y ∷ [])
room-one h = record { fits = h.fits }

-- ---- what is left to write

-- r is a, and then s: a record, so that antt can read a and s off it
pub record Then (r a s : List ℕ) : Type 0 where
  pub eq : r ≡ a ++ s

-- what is to be written, `all`, is written up to `rest`
pub record Part (o : List ℕ) (at : ℕ) (all rest o' : List ℕ) (p : ℕ) : Type 0 where
  pub done : List ℕ
  pub split : all ≡ done ++ rest
  pub wrote : Wrote o at done o' p

pub part_none : (o : List ℕ) (at : ℕ) (all : List ℕ) → Part o at all all o at
part_none o at all = record { done = []; split = refl; wrote = wrote_none o at }

pub part_same : {o all r r' o' : List ℕ} {at p : ℕ} → r ≡ r' → Part o at all r o' p → Part o at all r' o' p
part_same {o} {all} {r} {r'} {o'} {at} {p} q v = subst (λ (x : List ℕ). Part o at all x o' p) q v

-- there is room for what comes next
part_fits : {o all o' : List ℕ} {at p : ℕ} (a s : List ℕ) → Room o at all
    → (v : Part o at all (a ++ s) o' p) → at + length v.done + length a ≤ length o
part_fits a s h v = omega (arith, simp length-append at (ap length v.split))

pub part_length : {o all r o' : List ℕ} {at p : ℕ} → Room o at all → Part o at all r o' p → length o' ≡ length o
part_length h v = wrote_length (record { fits = omega (arith, simp length-append at (ap length v.split)) }) v.wrote

pub part_room : {o all r a s o' : List ℕ} {at p : ℕ} → Room o at all → Then r a s → Part o at all r o' p → Room o' p a
part_room {o} {all} {r} {a} {s} {o'} h q v =
    let u = part_same q.eq v in
    record { fits = omega (arith, part_fits a s h u, part_length h u, u.wrote.place) }

pub part_step : {o all r a s o₁ o₂ : List ℕ} {at p n : ℕ} → Room o at all → Then r a s
    → Part o at all r o₁ p → Wrote o₁ p a o₂ n → Part o at all s o₂ n
part_step {o} {all} {r} {a} {s} h q v w =
    let u = part_same q.eq v in
    let both = wrote_then (part_fits a s h u) u.wrote w in
    record { done = u.done ++ a; split = u.split ∙ sym (append_assoc u.done a s); wrote = both }

-- nothing is left
pub part_end : {o all r o' : List ℕ} {at p : ℕ} → r ≡ [] → Part o at all r o' p → Wrote o at all o' p
part_end q v = let u = part_same q v in wrote_same (u.split ∙ append-nil u.done) u.wrote

-- what comes next is the last
last : (r : List ℕ) → Then r r []
last r = record { eq = sym (append-nil r) }

pub part_room_last : {o all r o' : List ℕ} {at p : ℕ} → Room o at all → Part o at all r o' p → Room o' p r
part_room_last {o} {all} {r} h v = part_room h (last r) v

pub part_last : {o all r o₁ o₂ : List ℕ} {at p n : ℕ} → Room o at all
    → Part o at all r o₁ p → Wrote o₁ p r o₂ n → Wrote o at all o₂ n
part_last {o} {all} {r} h v w = part_end refl (part_step h (last r) v w)

-- where ways meet: the values that one of them left
pub part_at : {o all r o₁ o₂ : List ℕ} {at p n : ℕ} → o₂ ≡ o₁ → n ≡ p → Part o at all r o₁ p → Part o at all r o₂ n
part_at {o} {all} {r} {at = at} q e v = subst₂ (λ (x : List ℕ) (y : ℕ). Part o at all r x y) (sym q) (sym e) v

-- ---- brackets

-- r is a token, what stands inside, and a token
pub record Between (r : List ℕ) (x : ℕ) (inside : List ℕ) (y : ℕ) : Type 0 where
  pub eq : r ≡ x ∷ inside ++ (y ∷ [])

module _ {o all inside : List ℕ} {at x y : ℕ} (h : Room o at all) (b : Between all x inside y) where
  opening : Then all (x ∷ []) (inside ++ (y ∷ []))
  opening = record { eq = b.eq }

  -- room for each in turn, and then all is written
  module _ {o₁ : List ℕ} {p : ℕ} (w : Wrote o at (x ∷ []) o₁ p) where
    opened : Part o at all (inside ++ (y ∷ [])) o₁ p
    opened = part_step h opening (part_none o at all) w

    pub between_inside : Room o₁ p inside
    between_inside = part_room {a = inside} {s = y ∷ []} h (record { eq = refl }) opened

    module _ {o₂ : List ℕ} {n : ℕ} (v : Wrote o₁ p inside o₂ n) where
      filled : Part o at all (y ∷ []) o₂ n
      filled = part_step {a = inside} {s = y ∷ []} h (record { eq = refl }) opened v

      pub between_last : Room o₂ n (y ∷ [])
      between_last = part_room_last h filled

      pub between_all : {o₃ : List ℕ} {r : ℕ} → Wrote o₂ n (y ∷ []) o₃ r → Wrote o at all o₃ r
      between_all w' = part_last h filled w'
