-- The loop over the lines of a text: the first line that breaks its form. Assumes nothing.
use Prim.Native.Nat.{ℕ, zero, suc, ◌+◌, ◌≤◌, ◌<◌}
use mathlib.Core.Path.{◌≡◌, refl, sym, ap, ◌∙◌}
use mathlib.Core.Bool.{Bool, true, false, not, cond}
use mathlib.Core.List.{List, [], ◌∷◌}
use Rattle.std.specs.Prelude.{Option, None, Some}
use native.Mathlib.Omega.{arith}
use lib.Dec.{eqb, eqb-suc-zero}
use lib.ListN.{length, drop}
use Rattle.rules.specs.Text.{Line, lines, fields, tab, is_number, on_first_field}
use Rattle.rules.specs.Search.{worse, fault_if, fault, spot, first_from, first_line}
use Rattle.rules.specs.Forms.{Form, breaks}
use Rattle.rules.specs.declared.Spot.{Spot}
use Rattle.rules.proofs.Bools.{some-none}
use Rattle.rules.proofs.Clean.{worse_left, worse_right}
use Rattle.text.specs.declared.Row.{Row}
use Rattle.text.specs.Line.{line_at, next_at, bad_field, is_letter, unread_row, read_row, row_from, row_at}
use Rattle.text.proofs.Lines.{lines-here, next-inside, lines_end}
use Rattle.text.proofs.Tools.{by_test}
use Rattle.rules.specs.Kinds.{forms_of}
use Rattle.rules.specs.declared.TextKind.{TextKind}
use Rattle.form.specs.Form.{form_fault, line_fault}
use Rattle.form.proofs.Lawful.{line_lawful}

-- ---- the search, which needs no lines but the one it looks at

abbrev spot_on : ℕ → Option ℕ → Option Spot → Option Spot
spot_on n None p = p
spot_on n (Some f) p = Some (spot n f)

unfoldable pub broken_from : List Form → ℕ → List Line → Option Spot
broken_from fs n [] = None
broken_from fs n (l ∷ ls) = spot_on n (fault (breaks fs [] l [])) (broken_from fs (suc n) ls)

first-is : (fs : List Form) (before : List Line) (n : ℕ) (ls : List Line) → first_from (breaks fs) before n ls ≡ broken_from fs n ls
unfolding broken_from
first-is fs before n [] = refl
first-is fs before n (l ∷ ls) = go (first-is fs (l ∷ before) (suc n) ls) (fault (breaks fs before l ls))
  where
    go : first_from (breaks fs) (l ∷ before) (suc n) ls ≡ broken_from fs (suc n) ls → (o : Option ℕ)
        → elim o [ None ↦ first_from (breaks fs) (l ∷ before) (suc n) ls | Some f ↦ Some (spot n f) ] ≡ spot_on n o (broken_from fs (suc n) ls)
    go ih None = ih
    go ih (Some f) = refl

-- ---- what the reader's row gives

module _ (e : Bool) (n : ℕ) where
  bad_most : (k : ℕ) (fs : List (List ℕ)) → bad_field k fs ≤ k + length fs
  unfolding bad_field
  bad_most k [] = omega arith
  bad_most k (f ∷ fs) = by_test (is_number f) (λ t. simp t (omega (arith, bad_most (suc k) fs))) (λ t. simp t (omega arith))

  from_bad : (ss : List (List ℕ)) → (row_from ss e n).bad ≤ 1 + length ss
  unfolding row_from unread_row read_row
  from_bad [] = omega arith
  from_bad ([] ∷ []) = omega arith
  from_bad ([] ∷ f ∷ fs) = omega arith
  from_bad ((b ∷ []) ∷ fs) = by_test (is_letter b) (λ t. simp t (omega (arith, bad_most 2 fs))) (λ t. simp t (omega arith))
  from_bad ((b ∷ c ∷ s) ∷ fs) = omega arith

  module _ (kind : TextKind) where
    read_next : (bad : ℕ) (x y : Option ℕ) → worse x (worse (fault_if (not (eqb bad 0)) bad) y) ≡ None → cond (eqb bad 0) n 0 ≡ n
    read_next zero x y h = refl
    read_next (suc k) x y h =
        absurd
        (some-none
        (simp (eqb-suc-zero k) at
        (worse_left (fault_if (not (eqb (suc k) 0)) (suc k)) y (worse_right x (worse (fault_if (not (eqb (suc k) 0)) (suc k)) y) h))))

    letter_next : (b : ℕ) (fs : List (List ℕ)) → line_fault kind (read_row b fs e n) ≡ None → (read_row b fs e n).next ≡ n
    unfolding line_fault read_row
    letter_next b fs h =
        by_test (eqb b 0)
        (λ t. absurd (some-none (simp t at h)))
        (λ t. let r = read_row b fs e n in
        read_next (bad_field 2 fs) (fault_if (not r.ended) 0) (form_fault kind b r.count r.nums) (simp t at h))

    module _ (b : ℕ) (fs : List (List ℕ)) where
      row-lettered : is_letter b ≡ true → row_from ((b ∷ []) ∷ fs) e n ≡ read_row b fs e n
      unfolding row_from
      row-lettered t = simp t

      row-unlettered : is_letter b ≡ false → row_from ((b ∷ []) ∷ fs) e n ≡ unread_row 1
      unfolding row_from
      row-unlettered t = simp t

    -- of a line without fault the row says where the next line starts
    from_next : (ss : List (List ℕ)) → line_fault kind (row_from ss e n) ≡ None → (row_from ss e n).next ≡ n
    unfolding line_fault row_from unread_row
    from_next [] h = absurd (some-none h)
    from_next ([] ∷ []) h = absurd (some-none h)
    from_next ([] ∷ f ∷ fs) h = absurd (some-none h)
    from_next ((b ∷ []) ∷ fs) h =
        by_test (is_letter b)
        (λ t. ap (λ (q : Row). q.next) (row-lettered b fs t) ∙ letter_next b fs (sym (ap (line_fault kind) (row-lettered b fs t)) ∙ h))
        (λ t. absurd (some-none (sym (ap (line_fault kind) (row-unlettered b fs t)) ∙ h)))
    from_next ((b ∷ c ∷ s) ∷ fs) h = absurd (some-none h)

-- a line has at most one field more than bytes
first-length : (b : ℕ) (fs : List (List ℕ)) → length (on_first_field b fs) ≤ 1 + length fs
first-length b [] = omega arith
first-length b (f ∷ fs) = omega arith

fields-length : (s : List ℕ) → length (fields s) ≤ 1 + length s
fields-length [] = omega arith
fields-length (b ∷ s) =
    by_test (eqb b tab)
    (λ t. rw (t, fields) (omega (arith, fields-length s)))
    (λ t. rw (t, fields) (omega (arith, fields-length s, first-length b (fields s))))

-- ---- the loop

abbrev pub BrokenLeft : TextKind → List ℕ → ℕ → ℕ → Type 0
BrokenLeft kind s at line = first_line (breaks (forms_of kind)) (lines s) ≡ broken_from (forms_of kind) line (lines (drop at s))

pub broken-start : (kind : TextKind) (s : List ℕ) → BrokenLeft kind s 0 1
broken-start kind s = first-is (forms_of kind) [] 1 (lines s)

pub broken-done : (kind : TextKind) (s : List ℕ) (at line : ℕ) → BrokenLeft kind s at line → length s ≤ at
    → None ≡ first_line (breaks (forms_of kind)) (lines s)
unfolding broken_from
broken-done kind s at line k h = sym (k ∙ ap (broken_from (forms_of kind) line) (lines_end s at h))

module _ (s : List ℕ) (at : ℕ) (r : Row) (h : at < length s) (e : r ≡ row_at s at) where
  bytes_inside : length (line_at s at).bytes ≤ length s
  unfolding next_at
  bytes_inside = omega (arith, (next-inside s at h).1)

  pub row_fits : length s ≤ 65535 → r.bad ≤ 100000
  unfolding row_at
  row_fits m =
      let b = ap (λ (q : Row). q.bad) e in
      omega (arith, from_bad (line_at s at).ended (next_at s at) (fields (line_at s at).bytes), fields-length (line_at s at).bytes, bytes_inside)

  module _ (kind : TextKind) where
    told : fault (breaks (forms_of kind) [] (line_at s at) []) ≡ line_fault kind r
    unfolding row_at
    told = sym (line_lawful kind (line_at s at) (next_at s at) [] []) ∙ sym (ap (line_fault kind) e)

    here : (line : ℕ) → BrokenLeft kind s at line
        → first_line (breaks (forms_of kind)) (lines s)
        ≡ spot_on line (line_fault kind r) (broken_from (forms_of kind) (suc line) (lines (drop (next_at s at) s)))
    unfolding broken_from
    here line k =
        k
        ∙ ap (broken_from (forms_of kind) line) (lines-here s at h)
        ∙ ap (λ (o : Option ℕ). spot_on line o (broken_from (forms_of kind) (suc line) (lines (drop (next_at s at) s)))) told

    pub broken-stop : (line g : ℕ) → BrokenLeft kind s at line → Some g ≡ line_fault kind r
        → Some (spot line g) ≡ first_line (breaks (forms_of kind)) (lines s)
    broken-stop line g k b = cc (here line k)

    module _ (b : None ≡ line_fault kind r) where
      next-is : r.next ≡ next_at s at
      unfolding row_at
      next-is =
          ap (λ (q : Row). q.next) e
          ∙ from_next (line_at s at).ended (next_at s at) kind (fields (line_at s at).bytes) (sym (ap (line_fault kind) e) ∙ sym b)

      pub next-within : r.next ≤ length s
      next-within = omega (arith, next-is, next-inside s at h)

      pub next-after : at < r.next
      next-after = omega (arith, next-is, next-inside s at h)

      pub broken-on : (line : ℕ) → BrokenLeft kind s at line → BrokenLeft kind s r.next (line + 1)
      broken-on line k =
          let l : suc line ≡ line + 1 = omega arith in
          here line k
          ∙ ap (λ (o : Option ℕ). spot_on line o (broken_from (forms_of kind) (suc line) (lines (drop (next_at s at) s)))) (sym b)
          ∙ ap (λ (n : ℕ). broken_from (forms_of kind) (suc line) (lines (drop n s))) (sym next-is)
          ∙ ap (λ (n : ℕ). broken_from (forms_of kind) n (lines (drop r.next s))) l

pub ruleset broken_laws = (broken-start, row_fits, broken-stop, broken-done, broken-on, next-within, next-after)
