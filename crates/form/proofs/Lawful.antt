-- The text form of a line that was read is the rules': `line_fault` of a line's row is what `breaks` says of the line. Assumes nothing.
use Prim.Native.Nat.{ℕ, zero, suc, ◌+◌, ◌*◌, ◌≤◌}
use mathlib.Core.Path.{◌≡◌, refl, sym, ap, subst, ◌∙◌}
use mathlib.Core.Bool.{Bool, true, false, not, cond, ◌&&◌}
use mathlib.Core.List.{List, [], ◌∷◌, ◌++◌}
use Rattle.std.specs.Prelude.{Option, Some}
use native.Mathlib.Omega.{arith}
use lib.Dec.{eqb, ltb, eqb-suc-zero}
use lib.ListN.{length, get_or, take, drop}
use borrow.Author.Tests.{eqb-true, ltb-false}
use Rattle.rules.specs.Text.{Line, Row, Pair, arg_no, fields, tab, is_number, leading, pairs, on_first_field}
use Rattle.rules.specs.Text.{A, E, F, G, H, I, M, N, O, P, Q, S, T, U}
use Rattle.rules.specs.Search.{Test, test_each, ◌#◌, worse, fault_if, fault_of, fault}
use Rattle.rules.specs.Forms.{Form, schema_forms, graph_forms, query_forms, rising_pairs, with_pairs, labelled, valued}
use Rattle.rules.specs.Forms.{form_tests, field_tests, line_tests, breaks}
use Rattle.rules.proofs.Clean.{Each}
use Rattle.rules.proofs.Bools.{clash}
use Rattle.rules.proofs.Parting.{Filled, fields-filled}
use Rattle.text.specs.Line.{padded, bad_field, is_letter, unread_row, read_row, row_from}
use Rattle.text.proofs.Rows.{padded-at}
use Rattle.text.proofs.Tools.{by_test}
use Rattle.rules.specs.Kinds.{forms_of}
use Rattle.rules.specs.declared.TextKind.{TextKind}
use Rattle.rules.specs.declared.TextKind.TheVariants.{Schema, Graph, Query}
use Rattle.form.specs.Form.{count_fault, mark_fault, pairs_fault, labelled_fault, valued_fault}
use Rattle.form.specs.Form.{schema_fault, graph_fault, query_fault, form_fault, line_fault}
use Rattle.form.proofs.Faults.{worse-none, worse_assoc, worse_comm, fault-append, gives_way, gives_way_to, same-twice}
use Rattle.form.proofs.Faults.{wins, from_less, each_from, pairs-from}

-- ---- the row of the rules, of a letter and numbers

abbrev row_with : ℕ → List ℕ → Row
row_with l ns = record { letter = l; numbers = ns }

-- ---- a letter that no form has

pub no_form : (fs : List Form) (r : Row) → Each (λ f. eqb r.letter f.letter ≡ false) fs
    → form_tests fs r ≡ (1 # true) ∷ []
no_form [] r e = refl
no_form (f ∷ fs) r e = rw (e.0, form_tests) (no_form fs r e.1)

-- the letters of the forms are capitals
abbrev Capitals : List Form → Type 0
Capitals fs = Each (λ f. is_letter f.letter ≡ true) fs

no_capital : (l : ℕ) (fs : List Form) → is_letter l ≡ false → Capitals fs → Each (λ f. eqb l f.letter ≡ false) fs
no_capital l [] n c = tt
no_capital l (f ∷ fs) n c = (
  by_test (eqb l f.letter)
      (λ t. absurd (clash (ap is_letter (eqb-true l f.letter t) ∙ c.0) n))
      (λ t. t),
  no_capital l fs n c.1,
)

schema-capitals : Capitals schema_forms
unfolding is_letter
schema-capitals = (refl, (refl, (refl, (refl, (refl, (refl, (refl, (refl, (refl, (refl, tt))))))))))

graph-capitals : Capitals graph_forms
unfolding is_letter
graph-capitals = (refl, (refl, (refl, tt)))

query-capitals : Capitals query_forms
unfolding is_letter
query-capitals = (refl, (refl, tt))

capitals : (kind : TextKind) → Capitals (forms_of kind)
unfolding forms_of
capitals Schema = schema-capitals
capitals Graph = graph-capitals
capitals Query = query-capitals

pub no_letter : (kind : TextKind) (l : ℕ) (ns : List ℕ) → is_letter l ≡ false → form_tests (forms_of kind) (row_with l ns) ≡ (1 # true) ∷ []
no_letter kind l ns n = no_form (forms_of kind) (row_with l ns) (no_capital l (forms_of kind) n (capitals kind))

-- ---- fields that are no numbers: the first of them is the smallest

abbrev bad_tests : ℕ → List (List ℕ) → Option ℕ
bad_tests f fs = fault_of (test_each (λ n. not (is_number n)) 1 f fs)

bad_is : (f : ℕ) (fs : List (List ℕ)) → bad_tests (suc f) fs ≡ fault_if (not (eqb (bad_field (suc f) fs) 0)) (bad_field (suc f) fs)
unfolding bad_field
bad_is f [] = refl
bad_is f (s ∷ ss) =
    let e : 1 + suc f ≡ suc (suc f) = omega arith in
    by_test (is_number s)
    (λ t. simp t (ap (λ (k : ℕ). bad_tests k ss) e ∙ bad_is (suc f) ss))
    (λ t. simp t
    (wins (suc f) (bad_tests (1 + suc f) ss) (omega arith)
    (from_less (suc f) (1 + suc f) (bad_tests (1 + suc f) ss) (omega arith) (each_from (λ n. not (is_number n)) (1 + suc f) ss))
    ∙ sym (ap (λ (b : Bool). fault_if (not b) (suc f)) (eqb-suc-zero f))))

-- ---- the pairs: at most four of them stand in the first twelve numbers

take-padded : (k : ℕ) (ns : List ℕ) → take (length ns) (padded k ns) ≡ take k ns
unfolding padded
take-padded zero [] = refl
take-padded zero (n ∷ ns) = refl
take-padded (suc k) [] = refl
take-padded (suc k) (n ∷ ns) = ap (λ (xs : List ℕ). n ∷ xs) (take-padded k ns)

drop-take_four : (ns : List ℕ) → drop 4 (take 12 ns) ≡ take 8 (drop 4 ns)
drop-take_four [] = refl
drop-take_four (a ∷ []) = refl
drop-take_four (a ∷ b ∷ []) = refl
drop-take_four (a ∷ b ∷ c ∷ []) = refl
drop-take_four (a ∷ b ∷ c ∷ d ∷ ns) = refl

pairs-take : (n k : ℕ) (ns : List ℕ) → 2 * n ≤ k → pairs n (take k ns) ≡ pairs n ns
pairs-take zero k ns h = refl
pairs-take (suc n) zero ns h = absurd (omega arith)
pairs-take (suc n) (suc zero) ns h = absurd (omega arith)
pairs-take (suc n) (suc (suc k)) [] h = refl
pairs-take (suc n) (suc (suc k)) (a ∷ []) h = refl
pairs-take (suc n) (suc (suc k)) (a ∷ v ∷ ns) h =
    ap (λ (ps : List Pair). record { arg = arg_no a; value = v } ∷ ps) (pairs-take n k ns (omega arith))

pairs-padded : (n : ℕ) (ns : List ℕ) → n ≤ 4 → pairs n (drop 4 (take (length ns) (padded 12 ns))) ≡ pairs n (drop 4 ns)
pairs-padded n ns h =
    ap (λ (xs : List ℕ). pairs n (drop 4 xs)) (take-padded 12 ns) ∙ ap (pairs n) (drop-take_four ns) ∙ pairs-take n 8 (drop 4 ns) (omega arith)

module _ (l : ℕ) (ns : List ℕ) where
  with_pairs_lem : pairs_fault (length ns) (padded 12 ns) ≡ fault_of (with_pairs (row_with l ns))
  unfolding pairs_fault
  with_pairs_lem =
      rw (padded-at 12 ns 3 (omega arith))
      (by_test (ltb 4 (get_or ns 3 0))
      (λ t. let ps = pairs (get_or ns 3 0) (drop 4 ns) in
      simp t (sym (wins 5 (fault_of (rising_pairs ps)) (omega arith) (from_less 5 8 (fault_of (rising_pairs ps)) (omega arith) (pairs-from ps)))))
      (λ t. simp t (ap (λ (ps : List Pair). fault_of (rising_pairs ps)) (pairs-padded (get_or ns 3 0) ns (ltb-false 4 (get_or ns 3 0) t)))))

  labelled-form : labelled_fault (length ns) (padded 12 ns) ≡ fault_of (labelled (row_with l ns))
  unfolding labelled_fault count_fault
  labelled-form =
      rw (padded-at 12 ns 3 (omega arith))
      (worse_comm (pairs_fault (length ns) (padded 12 ns)) (fault_if (not (eqb (length ns) (4 + 2 * get_or ns 3 0))) 0)
      ∙ ap (worse (fault_if (not (eqb (length ns) (4 + 2 * get_or ns 3 0))) 0)) with_pairs_lem)

  valued-form : valued_fault (length ns) (padded 12 ns) ≡ fault_of (valued (row_with l ns))
  unfolding valued_fault mark_fault
  valued-form =
      let a : Option ℕ = fault_if (eqb (get_or ns 2 0) 0 && not (eqb (length ns) (5 + 2 * get_or ns 3 0))) 0 in
      let b : Option ℕ = fault_if (ltb (length ns) (4 + 2 * get_or ns 3 0)) 0 in
      rw (padded-at 12 ns 2 (omega arith), padded-at 12 ns 3 (omega arith))
      (ap (worse (fault_if (ltb 1 (get_or ns 2 0)) 4))
      (worse_comm (pairs_fault (length ns) (padded 12 ns)) (worse a b)
      ∙ worse_assoc a b (pairs_fault (length ns) (padded 12 ns))
      ∙ ap (λ (x : Option ℕ). worse a (worse b x)) with_pairs_lem))

  -- ---- letter by letter

  counted-form : (n : ℕ) → count_fault n (length ns) ≡ fault_of ((0 # not (eqb (length ns) n)) ∷ [])
  unfolding count_fault
  counted-form n = sym (worse-none (fault_if (not (eqb (length ns) n)) 0))

by_letter : (R : ℕ → Type 0) (l k : ℕ) → R k → (eqb l k ≡ false → R l) → R l
by_letter R l k y n = by_test (eqb l k) (λ t. subst R (sym (eqb-true l k t)) y) n

abbrev Agrees : (ℕ → ℕ → List ℕ → Option ℕ) → List Form → List ℕ → ℕ → Type 0
Agrees f forms ns l = f l (length ns) (padded 12 ns) ≡ fault_of (form_tests forms (row_with l ns))

module _ (ns : List ℕ) (l : ℕ) where
  graph-form : Agrees graph_fault graph_forms ns l
  unfolding graph_fault
  graph-form =
      by_letter (Agrees graph_fault graph_forms ns) l N (counted-form N ns 1)
      (λ n. by_letter (Agrees graph_fault graph_forms ns) l E (labelled-form E ns)
      (λ e. by_letter (Agrees graph_fault graph_forms ns) l P (valued-form P ns)
      (λ p. simp (n, e, p) (sym (ap fault_of (no_form graph_forms (row_with l ns) (n, (e, (p, tt)))))))))

  query-form : Agrees query_fault query_forms ns l
  unfolding query_fault
  query-form =
      by_letter (Agrees query_fault query_forms ns) l F (labelled-form F ns)
      (λ f. by_letter (Agrees query_fault query_forms ns) l T (counted-form T ns 2)
      (λ t. simp (f, t) (sym (ap fault_of (no_form query_forms (row_with l ns) (f, (t, tt)))))))

  schema-F : Agrees schema_fault schema_forms ns F
  unfolding schema_fault mark_fault
  schema-F = rw (padded-at 12 ns 1 (omega arith)) (ap (worse (fault_if (ltb 1 (get_or ns 1 0)) 3)) (counted-form F ns 2))

  schema-form : Agrees schema_fault schema_forms ns l
  unfolding schema_fault
  schema-form =
      by_letter R l S (counted-form S ns 2)
      (λ s. by_letter R l O (counted-form O ns 0)
      (λ o. by_letter R l I (counted-form I ns 0)
      (λ i. by_letter R l U (counted-form U ns 0)
      (λ u. by_letter R l F schema-F
      (λ f. by_letter R l A (counted-form A ns 1)
      (λ a. by_letter R l H (counted-form H ns 2)
      (λ h. by_letter R l G (counted-form G ns 2)
      (λ g. by_letter R l M (counted-form M ns 2)
      (λ m. by_letter R l Q (counted-form Q ns 1)
      (λ q. simp (s, o, i, u, f, a, h, g, m, q)
      (sym (ap fault_of (no_form schema_forms (row_with l ns) (s, (o, (i, (u, (f, (a, (h, (g, (m, (q, tt)))))))))))))))))))))))
    where
      R : ℕ → Type 0
      R k = Agrees schema_fault schema_forms ns k

  pub form_lawful : (kind : TextKind) → form_fault kind l (length ns) (padded 12 ns) ≡ fault_of (form_tests (forms_of kind) (row_with l ns))
  unfolding form_fault forms_of
  form_lawful Schema = schema-form
  form_lawful Graph = graph-form
  form_lawful Query = query-form

-- ---- a line, from its fields

not-zero : (l : ℕ) → is_letter l ≡ true → eqb l 0 ≡ false
unfolding is_letter
not-zero l h = by_test (eqb l 0) (λ t. absurd (clash h (ap is_letter (eqb-true l 0 t)))) (λ t. t)

module _ (kind : TextKind) (ended : Bool) (n : ℕ) where
  abbrev Told : List (List ℕ) → Option ℕ
  Told ss = worse (fault_if (not ended) 0) (fault_of (field_tests (forms_of kind) ss))

  -- without a capital letter in front the letter is at fault
  unlettered : (l : ℕ) (fs : List (List ℕ)) (ns : List ℕ) → is_letter l ≡ false
      → worse (fault_if (not ended) 0) (fault_of (test_each (λ s. not (is_number s)) 1 2 fs ++ form_tests (forms_of kind) (row_with l ns))) ≡ Some 1
  unlettered l fs ns h =
      ap (worse (fault_if (not ended) 0))
      (fault-append (test_each (λ s. not (is_number s)) 1 2 fs) (form_tests (forms_of kind) (row_with l ns))
      ∙ ap (λ (ts : List Test). worse (bad_tests 2 fs) (fault_of ts)) (no_letter kind l ns h)
      ∙ worse_comm (bad_tests 2 fs) (Some 1)
      ∙ wins 1 (bad_tests 2 fs) (omega arith) (from_less 1 2 (bad_tests 2 fs) (omega arith) (each_from (λ s. not (is_number s)) 2 fs)))
      ∙ gives_way (not ended) 0

  -- a line with a letter: where a field is no number, whether a newline ends the line does not matter
  read_join : (bad : ℕ) (x : Option ℕ)
      → worse (fault_if (not (cond (eqb bad 0) ended true)) 0) (worse (fault_if (not (eqb bad 0)) bad) x)
      ≡ worse (fault_if (not ended) 0) (worse (fault_if (not (eqb bad 0)) bad) x)
  read_join zero x = refl
  read_join (suc k) x = simp (eqb-suc-zero k) (sym (gives_way_to (not ended) k x))

  lettered : (l : ℕ) (fs : List (List ℕ)) → is_letter l ≡ true → line_fault kind (read_row l fs ended n) ≡ Told ((l ∷ []) ∷ fs)
  unfolding line_fault read_row
  lettered l fs h =
      simp (not-zero l h)
      (read_join (bad_field 2 fs) (form_fault kind l (length (leading fs)) (padded 12 (leading fs)))
      ∙ ap (worse (fault_if (not ended) 0))
      (ap (λ (x : Option ℕ). worse x (form_fault kind l (length (leading fs)) (padded 12 (leading fs)))) (sym (bad_is 1 fs))
      ∙ ap (worse (bad_tests 2 fs)) (form_lawful (leading fs) l kind)
      ∙ sym (fault-append (test_each (λ s. not (is_number s)) 1 2 fs) (form_tests (forms_of kind) (row_with l (leading fs))))))

  -- the fields of a line that is not empty
  Written : List (List ℕ) → Type 0
  Written [] = ⊥
  Written ([] ∷ []) = ⊥
  Written ([] ∷ f ∷ fs) = Unit {0}
  Written ((b ∷ s) ∷ fs) = Unit {0}

  fields_lawful : (ss : List (List ℕ)) → Written ss → line_fault kind (row_from ss ended n) ≡ Told ss
  unfolding line_fault row_from unread_row is_letter Written
  fields_lawful [] w = absurd w
  fields_lawful ([] ∷ []) w = absurd w
  fields_lawful ([] ∷ f ∷ fs) w = sym (unlettered 0 (f ∷ fs) [] refl)
  fields_lawful ((b ∷ []) ∷ fs) w =
      by_test (is_letter b) (λ t. simp t (lettered b fs t)) (λ t. simp t (sym (unlettered b fs (leading fs) t)))
  fields_lawful ((b ∷ c ∷ s) ∷ fs) w = sym (unlettered 0 fs [] refl)

  first_some : (b : ℕ) (fs : List (List ℕ)) → Filled fs → Written (on_first_field b fs)
  unfolding Written
  first_some b [] w = tt
  first_some b (f ∷ fs) w = tt

  tab-some : (fs : List (List ℕ)) → Filled fs → Written ([] ∷ fs)
  unfolding Written
  tab-some [] w = w
  tab-some (f ∷ fs) w = tt

  fields-some : (b : ℕ) (s : List ℕ) → Written (fields (b ∷ s))
  fields-some b s =
      by_test (eqb b tab)
      (λ t. rw (t, fields) (tab-some (fields s) (fields-filled s)))
      (λ t. rw (t, fields) (first_some b (fields s) (fields-filled s)))

  bytes_lawful : (s : List ℕ) → line_fault kind (row_from (fields s) ended n) ≡ worse (fault_if (not ended) 0) (fault_of (line_tests (forms_of kind) s))
  unfolding line_fault row_from unread_row
  bytes_lawful [] = sym (same-twice (not ended))
  bytes_lawful (b ∷ s) = fields_lawful (fields (b ∷ s)) (fields-some b s)

-- what the code's definition says of a line's row is what the rules say of the line
pub line_lawful : (kind : TextKind) (l : Line) (n : ℕ) (before after : List Line)
    → line_fault kind (row_from (fields l.bytes) l.ended n) ≡ fault (breaks (forms_of kind) before l after)
line_lawful kind l n before after =
    bytes_lawful kind l.ended n l.bytes
    ∙ sym (worse-none (worse (fault_if (not l.ended) 0) (fault_of (line_tests (forms_of kind) l.bytes))))
