-- Stores into an area, one after another, and numbers copied into a part of it. Assumes nothing.
use Prim.Native.Nat.{ℕ, ◌+◌, ◌≤◌, ◌<◌}
use native.Mathlib.Omega.{arith}
use native.Mathlib.Numerals.{add-one, add-two}
use mathlib.Core.Path.{◌≡◌, sym, ap, ◌∙◌}
use mathlib.Core.List.{List, [], ◌∷◌, ◌++◌, append-nil, append_assoc}
use lib.ListN.{length, get_or, take, drop, set, replicate, drop_of_length-le}
use lib.Seq.{drop-drop, sets, sets-eq}
use borrow.Rule.Slice.PartMut.{put_mid}
use Rattle.tables.specs.Layout.{laid}
use Rattle.tables.proofs.Laid.{laid-append, laid_more}

-- ---- stores of numbers that are written out

pub run_stored : (vs l : List ℕ) (p : ℕ) → p + length vs ≤ length l → sets l p vs ≡ laid p vs l
unfolding laid
run_stored vs l p h = sets-eq vs l p h ∙ append_assoc (take p l) vs (drop (p + length vs) l)

pub two-stored : (p a b : ℕ) (l : List ℕ) → p + 2 ≤ length l → set (set l p a) (p + 1) b ≡ laid p (a ∷ b ∷ []) l
two-stored p a b l h = rw (add-one p) (run_stored (a ∷ b ∷ []) l p h)

pub three_stored : (p a b c : ℕ) (l : List ℕ) → p + 3 ≤ length l
    → set (set (set l p a) (p + 1) b) (p + 2) c ≡ laid p (a ∷ b ∷ c ∷ []) l
three_stored p a b c l h = rw (add-one p, add-two p) (run_stored (a ∷ b ∷ c ∷ []) l p h)

-- a head, from place 0 on
pub head_stored : (vs l : List ℕ) → length vs ≤ length l → sets l 0 vs ≡ laid 0 vs l
head_stored vs l h = run_stored vs l 0 (omega arith)

-- ---- numbers copied into a part

pub run_copied : (p n : ℕ) (ys l : List ℕ) → n ≡ length ys → put_mid p n l ys ≡ laid p ys l
unfolding laid
run_copied p n ys l e = ap (λ (r : List ℕ). take p l ++ (ys ++ r)) (drop-drop n p l ∙ ap (λ (k : ℕ). drop (p + k) l) e)

-- behind two cells, which make the row whole
pub wide_copied : (p a b n : ℕ) (ns l : List ℕ) → n ≡ length ns → p + 2 + length ns ≤ length l
    → put_mid (p + 2) n (set (set l p a) (p + 1) b) ns ≡ laid p (a ∷ b ∷ ns) l
wide_copied p a b n ns l e h =
    run_copied (p + 2) n ns (set (set l p a) (p + 1) b) e
    ∙ ap (laid (p + 2) ns) (two-stored p a b l (omega arith))
    ∙ sym (laid-append p (a ∷ b ∷ []) ns l (omega arith))
