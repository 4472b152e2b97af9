-- The numbers of a line, however many, read one after another and laid over an area. Assumes nothing.
use Prim.Native.Nat.{ℕ, suc, ◌+◌, ◌-◌, ◌≤◌, ◌<◌}
use native.Mathlib.Omega.{arith}
use mathlib.Core.Path.{◌≡◌, refl, sym, ap, ◌∙◌}
use mathlib.Core.Bool.{Bool}
use mathlib.Core.List.{List, [], ◌∷◌}
use lib.ListN.{length, drop, set, length-set, drop_of_length-le}
use lib.Seq.{drop-drop, drop-nil}
use borrow.Author.Tests.{eq-eqb, ne_eqb}
use Rattle.rules.specs.Text.{Line, fields, leading, row_of, row}
use Rattle.text.specs.declared.Row.{Row as Read}
use Rattle.text.specs.Number.{field_of, number_to, stopped_at, number_at, ByteAt}
use Rattle.text.specs.Line.{line_at, row_from, unread_row}
use Rattle.text.proofs.Tools.{by_order}
use Rattle.text.proofs.Lines.{line-is}
use Rattle.text.proofs.Bytes.{first-is}
use Rattle.text.proofs.Fields.{left_of, left_drop, fields_left, leading-more, leading-stop, fields_split, value-here, fault-here, left_at, ends}
use Rattle.tables.specs.Layout.{laid}
use Rattle.tables.specs.Fill.{whole, Plain}
use Rattle.tables.proofs.Laid.{laid_nil, laid-append}
use Rattle.tables.proofs.Stores.{run_stored}

-- the numbers that are left at a position at which a field has ended
pub numbers_left : List ℕ → ℕ → List ℕ
numbers_left s i = leading (fields_left (drop i s))

-- ---- all numbers of a line: those behind its letter

one_letter : (f : List ℕ) (fs : List (List ℕ)) (e : Bool) → (row_from (f ∷ fs) e 1).next ≡ 1 → (length f ≡ 1) × ((row_of (f ∷ fs)).numbers ≡ leading fs)
unfolding row_from unread_row
one_letter [] [] e h = absurd (omega arith)
one_letter [] (g ∷ fs) e h = absurd (omega arith)
one_letter (b ∷ []) fs e h = (refl, refl)
one_letter (b ∷ c ∷ f) fs e h = absurd (omega arith)

pub all_left : (s : List ℕ) (at : ℕ) → Plain (line_at s at) → (row (line_at s at)).numbers ≡ numbers_left s (at + 1)
unfolding numbers_left whole
all_left s at p =
    let bs = drop at s in
    let e : fields (line_at s at).bytes ≡ field_of bs ∷ fields_left (left_of bs) =
    ap (λ (l : Line). fields l.bytes) (line-is s at) ∙ fields_split bs in
    let n : (row_from (fields (line_at s at).bytes) (line_at s at).ended 1).next ≡ 1 = ap (λ (r : Read). r.next) (p.read 1) in
    let o = one_letter (field_of bs) (fields_left (left_of bs)) (line_at s at).ended (rw e at n) in
    let d : left_of bs ≡ drop (at + 1) s = left_drop bs ∙ ap (λ (k : ℕ). drop k bs) o.0 ∙ drop-drop 1 at s in
    ap (λ (fs : List (List ℕ)). (row_of fs).numbers) e ∙ o.1 ∙ ap (λ (x : List ℕ). leading (fields_left x)) d

-- ---- one of them

-- at position i a tab stands, and behind it the number v, whose field ends at n
pub record Next (s : List ℕ) (i v n : ℕ) : Type 0 where
  pub left : numbers_left s i ≡ v ∷ numbers_left s n
  pub after : i < n
  pub inside : n ≤ length s

module _ {s : List ℕ} {i b : ℕ} (h : ByteAt s i b) where
  fields-here : b ≡ 9 → fields_left (drop i s) ≡ field_of (drop (i + 1) s) ∷ fields_left (left_of (drop (i + 1) s))
  unfolding fields_left
  fields-here e =
      ap fields_left (first-is s i b h (h.inside (omega arith))) ∙ simp (eq-eqb b 9 e) (fields_split (drop (i + 1) s))

  pub none_left : (b ≡ 9 → ⊥) → numbers_left s i ≡ []
  unfolding numbers_left fields_left
  none_left t =
      by_order i (length s)
      (λ q. ap (λ (bs : List ℕ). leading (fields_left bs)) (first-is s i b h q) ∙ simp (ne_eqb b 9 t))
      (λ q. ap (λ (bs : List ℕ). leading (fields_left bs)) (drop_of_length-le s q))

  module _ (t : b ≡ 9) where
    pub fault_left : {k : ℕ} → stopped_at k ≡ number_at s (i + 1) → numbers_left s i ≡ []
    unfolding numbers_left
    fault_left {k} q =
        ap leading (fields-here t)
        ∙ leading-stop (field_of (drop (i + 1) s)) (fields_left (left_of (drop (i + 1) s))) (fault-here s (i + 1) k q)

    module _ {v n : ℕ} (q : number_to v n ≡ number_at s (i + 1)) where
      number_left : numbers_left s i ≡ v ∷ numbers_left s n
      unfolding numbers_left
      number_left =
          let w = value-here s (i + 1) v n q in
          ap leading (fields-here t)
          ∙ leading-more (field_of (drop (i + 1) s)) (fields_left (left_of (drop (i + 1) s))) w.good
          ∙ ap (λ (m : ℕ). m ∷ leading (fields_left (left_of (drop (i + 1) s)))) (sym w.value)
          ∙ ap (λ (bs : List ℕ). v ∷ leading (fields_left bs)) (left_at s (i + 1) v n w)

      pub next-number : Next s i v n
      next-number =
          let y = h.inside (omega arith) in
          let z = ends s (i + 1) v n q (omega arith) in
          let a = z.after in
          record { left = number_left; after = omega arith; inside = z.inside }

-- ---- laying them

-- `want` are the numbers to lay; k were read, of which the first `skip` are not laid, and what is left of them goes to `place`
pub record Putting (s want : List ℕ) (skip base : ℕ) (area₀ area : List ℕ) (i k place : ℕ) : Type 0 where
  pub done : laid base want area₀ ≡ laid place (drop (skip - k) (numbers_left s i)) area
  pub count : base + length want ≡ place + length (drop (skip - k) (numbers_left s i))
  pub room : place + length (drop (skip - k) (numbers_left s i)) ≤ length area
  pub same : length area ≡ length area₀
  pub under : k ≤ i
  pub inside : i ≤ length s

pub putting_start : (s : List ℕ) (at skip base : ℕ) (area : List ℕ) → at < length s → Plain (line_at s at)
    → base + length (drop skip (row (line_at s at)).numbers) ≤ length area
    → Putting s (drop skip (row (line_at s at)).numbers) skip base area area (at + 1) 0 base
putting_start s at skip base area h p r =
    let z : skip ≡ skip - 0 = omega arith in
    let e : drop skip (row (line_at s at)).numbers ≡ drop (skip - 0) (numbers_left s (at + 1)) =
    ap (drop skip) (all_left s at p) ∙ ap (λ (j : ℕ). drop j (numbers_left s (at + 1))) z in
    record {
      done = ap (λ (l : List ℕ). laid base l area) e;
      count = ap (λ (l : List ℕ). base + length l) e;
      room = omega (arith, ap length e);
      same = refl;
      under = omega arith;
      inside = omega arith;
    }

module _ {s want : List ℕ} {skip base : ℕ} {area₀ area : List ℕ} {i k place : ℕ} (f : Putting s want skip base area₀ area i k place) where
  module _ {v n : ℕ} (w : Next s i v n) where
    put_left : skip ≤ k → drop (skip - k) (numbers_left s i) ≡ v ∷ drop (skip - (k + 1)) (numbers_left s n)
    put_left h =
        let y : skip - k ≡ 0 = omega arith in
        let z : 0 ≡ skip - (k + 1) = omega arith in
        ap (λ (j : ℕ). drop j (numbers_left s i)) y ∙ w.left ∙ ap (λ (j : ℕ). v ∷ drop j (numbers_left s n)) z

    pub putting_room : skip ≤ k → place < length area
    putting_room h = let r = f.room in omega (arith, ap length (put_left h))

    pub putting_on : skip ≤ k → Putting s want skip base area₀ (set area place v) n (k + 1) (place + 1)
    putting_on h =
        let rest = drop (skip - (k + 1)) (numbers_left s n) in
        let p = ap length (put_left h) in
        let r = f.room in
        let c = f.count in
        let u = f.under in
        let g = w.after in
        record {
          done =
              f.done
              ∙ ap (λ (l : List ℕ). laid place l area) (put_left h)
              ∙ laid-append place (v ∷ []) rest area (omega arith)
              ∙ ap (laid (place + 1) rest) (sym (run_stored (v ∷ []) area place (omega arith)));
          count = omega arith;
          room = omega (arith, length-set area place v);
          same = length-set area place v ∙ f.same;
          under = omega arith;
          inside = w.inside;
        }

    pub putting_by : k < skip → Putting s want skip base area₀ area n (k + 1) place
    putting_by h =
        let z : skip - k ≡ suc (skip - (k + 1)) = omega arith in
        let d : drop (skip - k) (numbers_left s i) ≡ drop (skip - (k + 1)) (numbers_left s n) =
        ap (λ (j : ℕ). drop j (numbers_left s i)) z ∙ ap (drop (suc (skip - (k + 1)))) w.left in
        let u = f.under in
        let g = w.after in
        record {
          done = f.done ∙ ap (λ (l : List ℕ). laid place l area) d;
          count = f.count ∙ ap (λ (l : List ℕ). place + length l) d;
          room = let r = f.room in omega (arith, ap length d);
          same = f.same;
          under = omega arith;
          inside = w.inside;
        }

  module _ (e : numbers_left s i ≡ []) where
    nothing : drop (skip - k) (numbers_left s i) ≡ []
    nothing = ap (drop (skip - k)) e ∙ drop-nil (skip - k)

    pub putting_count : place ≡ base + length want
    putting_count = let c = f.count in omega (arith, ap length nothing)

    pub putting_all : area ≡ laid base want area₀
    putting_all = sym (f.done ∙ ap (λ (l : List ℕ). laid place l area) nothing ∙ laid_nil place area)
