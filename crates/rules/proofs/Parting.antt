-- Theorem 8: "One record a line, fields parted by one tab, each line ended by one newline": nothing of a text is lost or added. Assumes nothing.
use Prim.Native.Nat.{ℕ}
use mathlib.Core.Path.{◌≡◌, refl, sym, ap, ◌∙◌}
use mathlib.Core.Bool.{Bool, true, false, false≢true}
use mathlib.Core.List.{List, [], ◌∷◌, ◌++◌}
use lib.Dec.{eqb}
use borrow.Author.Tests.{eqb-true}
use Rattle.rules.specs.Lists.{each}
use Rattle.rules.specs.Text.{Line, on_first_line, lines, on_first_field, fields, tab, newline}
use Rattle.rules.proofs.Clean.{Each}

-- ---- lines

-- the lines, each with the newline that ends it
abbrev pub joined : List Line → List ℕ
joined ls = each (λ l. l.bytes ++ (newline ∷ [])) ls

join_first : (b : ℕ) (s : List ℕ) (ls : List Line) → Each (λ l. l.ended ≡ true) (on_first_line b ls) → (Each (λ l. l.ended ≡ true) ls → joined ls ≡ s)
    → joined (on_first_line b ls) ≡ b ∷ s
join_first b s [] e ih = absurd (false≢true e.0)
join_first b s (l ∷ ls) e ih = ap (λ (r : List ℕ). b ∷ r) (ih e)

pub lines-joined : (s : List ℕ) → Each (λ l. l.ended ≡ true) (lines s) → joined (lines s) ≡ s
lines-joined [] e = refl
lines-joined (b ∷ s) e = go (λ k. lines-joined s k) (eqb b newline) refl
  where
    go : (Each (λ l. l.ended ≡ true) (lines s) → joined (lines s) ≡ s) → (t : Bool) → eqb b newline ≡ t → joined (lines (b ∷ s)) ≡ b ∷ s
    go ih true q =
        let k = rw (q, lines) at e in
        rw (q, lines) (ap (λ (r : List ℕ). newline ∷ r) (ih k.1) ∙ ap (λ (n : ℕ). n ∷ s) (sym (eqb-true b newline q)))
    go ih false q = rw (q, lines) (join_first b s (lines s) (rw (q, lines) at e) ih)

-- ---- fields

-- the fields, parted by one tab
abbrev pub parted : List (List ℕ) → List ℕ
parted [] = []
parted (f ∷ []) = f
parted (f ∷ g ∷ fs) = f ++ (tab ∷ parted (g ∷ fs))

abbrev pub Filled : List (List ℕ) → Type 0
Filled [] = ⊥
Filled (f ∷ fs) = Unit {0}

first-filled : (b : ℕ) (fs : List (List ℕ)) → Filled (on_first_field b fs)
first-filled b [] = tt
first-filled b (f ∷ fs) = tt

pub fields-filled : (s : List ℕ) → Filled (fields s)
fields-filled [] = tt
fields-filled (b ∷ s) = go (eqb b tab) refl
  where
    go : (t : Bool) → eqb b tab ≡ t → Filled (fields (b ∷ s))
    go true q = rw (q, fields) tt
    go false q = rw (q, fields) (first-filled b (fields s))

part_tab : (s : List ℕ) (fs : List (List ℕ)) → Filled fs → parted fs ≡ s → parted ([] ∷ fs) ≡ tab ∷ s
part_tab s [] h e = absurd h
part_tab s (f ∷ fs) h e = ap (λ (r : List ℕ). tab ∷ r) e

part_first : (b : ℕ) (s : List ℕ) (fs : List (List ℕ)) → parted fs ≡ s → parted (on_first_field b fs) ≡ b ∷ s
part_first b s [] e = ap (λ (r : List ℕ). b ∷ r) e
part_first b s (f ∷ []) e = ap (λ (r : List ℕ). b ∷ r) e
part_first b s (f ∷ g ∷ fs) e = ap (λ (r : List ℕ). b ∷ r) e

-- the fields of any line, parted by one tab, are the line
pub line-is_fields : (s : List ℕ) → parted (fields s) ≡ s
line-is_fields [] = refl
line-is_fields (b ∷ s) = go (line-is_fields s) (eqb b tab) refl
  where
    go : parted (fields s) ≡ s → (t : Bool) → eqb b tab ≡ t → parted (fields (b ∷ s)) ≡ b ∷ s
    go ih true q = rw (q, fields) (part_tab s (fields s) (fields-filled s) ih ∙ ap (λ (n : ℕ). n ∷ s) (sym (eqb-true b tab q)))
    go ih false q = rw (q, fields) (part_first b s (fields s) ih)
