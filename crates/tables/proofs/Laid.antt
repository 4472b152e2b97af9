-- Laws of `laid`: some numbers laid over an area from a place on. Assumes nothing.
use Prim.Native.Nat.{ℕ, zero, suc, ◌+◌, ◌-◌, ◌≤◌, ◌<◌}
use native.Mathlib.Omega.{arith}
use mathlib.Core.Path.{◌≡◌, sym, ap, ◌∙◌}
use mathlib.Core.List.{List, [], ◌∷◌, ◌++◌, append_assoc}
use lib.ListN.{length, get_or, take, drop, set, length-append, length-drop, take-append-drop, get_or-append}
use lib.Seq.{length-take-le, take-append-le, drop-append-le, drop_at, take_at, drop-drop, drop-append-add, get_or-append-add, get_or-take, get_or-drop, set_split}
use Rattle.tables.specs.Layout.{laid}

-- nothing laid changes nothing
pub laid_nil : (p : ℕ) (l : List ℕ) → laid p [] l ≡ l
unfolding laid
laid_nil p l =
    let e : p + 0 ≡ p = omega arith in
    rw e (take-append-drop p l)

-- an area keeps its length
pub laid-length : (p : ℕ) (xs l : List ℕ) → p + length xs ≤ length l → length (laid p xs l) ≡ length l
unfolding laid
laid-length p xs l h =
    let f : p ≤ length l = omega arith in
    simp (length-append, length-drop) (omega (arith, length-take-le p l f))

-- what stands at a place of the numbers laid
pub laid_in : (p : ℕ) (xs l : List ℕ) (k : ℕ) → p ≤ length l → k < length xs → get_or (laid p xs l) (p + k) 0 ≡ get_or xs k 0
unfolding laid
laid_in p xs l k f h =
    let e : p + k ≡ length (take p l) + k = omega (arith, length-take-le p l f) in
    ap (λ (i : ℕ). get_or (laid p xs l) i 0) e
    ∙ get_or-append-add (take p l) (xs ++ drop (p + length xs) l) k 0
    ∙ get_or-append xs (drop (p + length xs) l) 0 k h

-- what stands before them
pub laid-before : (p : ℕ) (xs l : List ℕ) (i : ℕ) → p ≤ length l → i < p → get_or (laid p xs l) i 0 ≡ get_or l i 0
unfolding laid
laid-before p xs l i f h =
    let t = length-take-le p l f in
    get_or-append (take p l) (xs ++ drop (p + length xs) l) 0 i (omega arith) ∙ get_or-take p l i 0 h

-- what stands behind them
pub laid-behind : (p : ℕ) (xs l : List ℕ) (i : ℕ) → p ≤ length l → p + length xs ≤ i → get_or (laid p xs l) i 0 ≡ get_or l i 0
unfolding laid
laid-behind p xs l i f h =
    let t = length-take-le p l f in
    let k = i - (p + length xs) in
    let e : i ≡ length (take p l) + (length xs + k) = omega arith in
    let g : p + length xs + k ≡ i = omega arith in
    ap (λ (j : ℕ). get_or (laid p xs l) j 0) e
    ∙ get_or-append-add (take p l) (xs ++ drop (p + length xs) l) (length xs + k) 0
    ∙ get_or-append-add xs (drop (p + length xs) l) k 0
    ∙ get_or-drop (p + length xs) l k 0
    ∙ ap (λ (j : ℕ). get_or l j 0) g

-- more numbers laid behind those laid before
pub laid-append : (p : ℕ) (xs ys l : List ℕ) → p + (length xs + length ys) ≤ length l
    → laid p (xs ++ ys) l ≡ laid (p + length xs) ys (laid p xs l)
unfolding laid
laid-append p xs ys l h =
    let t = length-take-le p l (omega arith) in
    let front = take p l ++ xs in
    let back = drop (p + length xs) l in
    let n : length front ≡ p + length xs = length-append (take p l) xs ∙ omega arith in
    let m : p + length (xs ++ ys) ≡ p + length xs + length ys = omega (arith, length-append xs ys) in
    let s : laid p xs l ≡ front ++ back = sym (append_assoc (take p l) xs back) in
    let a : take (p + length xs) (laid p xs l) ≡ front = ap (take (p + length xs)) s ∙ take_at front back (p + length xs) n in
    let b : drop (p + length xs) (laid p xs l) ≡ back = ap (drop (p + length xs)) s ∙ drop_at front back (p + length xs) n in
    let c : drop (p + length xs + length ys) (laid p xs l) ≡ drop (p + length (xs ++ ys)) l =
    sym (drop-drop (length ys) (p + length xs) (laid p xs l)) ∙ ap (drop (length ys)) b ∙ drop-drop (length ys) (p + length xs) l
    ∙ ap (λ (k : ℕ). drop k l) (sym m) in
    ap (λ (r : List ℕ). take p l ++ r) (append_assoc xs ys (drop (p + length (xs ++ ys)) l))
    ∙ sym (append_assoc (take p l) xs (ys ++ drop (p + length (xs ++ ys)) l))
    ∙ ap (λ (r : List ℕ). r ++ (ys ++ drop (p + length (xs ++ ys)) l)) (sym a)
    ∙ ap (λ (r : List ℕ). take (p + length xs) (laid p xs l) ++ (ys ++ r)) (sym c)

-- behind a number that stays, and with a number in its place
laid_cons : (p : ℕ) (xs : List ℕ) (x : ℕ) (l : List ℕ) → laid (suc p) xs (x ∷ l) ≡ x ∷ laid p xs l
unfolding laid
laid_cons p xs x l =
    let e : suc p + length xs ≡ suc (p + length xs) = omega arith in
    ap (λ (k : ℕ). x ∷ (take p l ++ (xs ++ drop k (x ∷ l)))) e

laid-first : (y : ℕ) (ys : List ℕ) (x : ℕ) (l : List ℕ) → laid 0 (y ∷ ys) (x ∷ l) ≡ y ∷ laid 0 ys l
unfolding laid
laid-first y ys x l =
    let e : 0 + suc (length ys) ≡ suc (0 + length ys) = omega arith in
    ap (λ (k : ℕ). y ∷ (ys ++ drop k (x ∷ l))) e

-- numbers laid in two places that lie apart, in either order
pub laid-apart : (p q : ℕ) (xs ys l : List ℕ) → q + length ys ≤ p → p + length xs ≤ length l
    → laid p xs (laid q ys l) ≡ laid q ys (laid p xs l)
laid-apart p zero xs [] l h k = ap (laid p xs) (laid_nil 0 l) ∙ sym (laid_nil 0 (laid p xs l))
laid-apart zero zero xs (y ∷ ys) l h k = absurd (omega arith)
laid-apart (suc p) zero xs (y ∷ ys) [] h k = absurd (omega arith)
laid-apart (suc p) zero xs (y ∷ ys) (x ∷ l) h k =
    ap (laid (suc p) xs) (laid-first y ys x l)
    ∙ laid_cons p xs y (laid 0 ys l)
    ∙ ap (λ (r : List ℕ). y ∷ r) (laid-apart p 0 xs ys l (omega arith) (omega arith))
    ∙ sym (laid-first y ys x (laid p xs l))
    ∙ ap (laid 0 (y ∷ ys)) (sym (laid_cons p xs x l))
laid-apart zero (suc q) xs ys l h k = absurd (omega arith)
laid-apart (suc p) (suc q) xs ys [] h k = absurd (omega arith)
laid-apart (suc p) (suc q) xs ys (x ∷ l) h k =
    ap (laid (suc p) xs) (laid_cons q ys x l)
    ∙ laid_cons p xs x (laid q ys l)
    ∙ ap (λ (r : List ℕ). x ∷ r) (laid-apart p q xs ys l (omega arith) (omega arith))
    ∙ sym (laid_cons q ys x (laid p xs l))
    ∙ ap (laid (suc q) ys) (sym (laid_cons p xs x l))

-- one number laid is one number stored
laid_one : (p x : ℕ) (l : List ℕ) → p < length l → laid p (x ∷ []) l ≡ set l p x
unfolding laid
laid_one p x l h =
    let e : p + 1 ≡ suc p = omega arith in
    rw e (sym (set_split l p x h))

-- one more number laid is one more number stored
pub laid_more : (p : ℕ) (xs l : List ℕ) (x : ℕ) → p + length xs < length l
    → laid p (xs ++ (x ∷ [])) l ≡ set (laid p xs l) (p + length xs) x
laid_more p xs l x h =
    laid-append p xs (x ∷ []) l (omega arith)
    ∙ laid_one (p + length xs) x (laid p xs l) (omega (arith, laid-length p xs l (omega arith)))

-- a part of the numbers laid
pub laid_part : (p : ℕ) (xs l : List ℕ) (k n : ℕ) → p ≤ length l → k + n ≤ length xs
    → take n (drop (p + k) (laid p xs l)) ≡ take n (drop k xs)
unfolding laid
laid_part p xs l k n f h =
    let e : p + k ≡ length (take p l) + k = omega (arith, length-take-le p l f) in
    let g : n ≤ length (drop k xs) = simp length-drop (omega arith) in
    ap (λ (i : ℕ). take n (drop i (laid p xs l))) e
    ∙ ap (take n) (drop-append-add (take p l) (xs ++ drop (p + length xs) l) k)
    ∙ ap (take n) (drop-append-le k xs (drop (p + length xs) l) (omega arith))
    ∙ take-append-le n (drop k xs) (drop (p + length xs) l) g

-- all that stands from a place behind them on
pub laid-drop : (p : ℕ) (xs l : List ℕ) (i : ℕ) → p ≤ length l → p + length xs ≤ i → drop i (laid p xs l) ≡ drop i l
unfolding laid
laid-drop p xs l i f h =
    let t = length-take-le p l f in
    let k = i - (p + length xs) in
    let e : i ≡ length (take p l) + (length xs + k) = omega arith in
    let g : p + length xs + k ≡ i = omega arith in
    ap (λ (j : ℕ). drop j (laid p xs l)) e
    ∙ drop-append-add (take p l) (xs ++ drop (p + length xs) l) (length xs + k)
    ∙ drop-append-add xs (drop (p + length xs) l) k
    ∙ drop-drop k (p + length xs) l
    ∙ ap (λ (j : ℕ). drop j l) g
