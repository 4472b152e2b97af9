-- The faults of a record and of a line, test by test, as the code makes the tests. Assumes nothing.
use Prim.Native.Nat.{ℕ, ◌+◌, ◌*◌, ◌≤◌, ◌<◌}
use mathlib.Core.Path.{◌≡◌, refl, sym, ap, subst, ◌∙◌}
use mathlib.Core.Logic.{inl, inr}
use mathlib.Core.Bool.{Bool, true, false, not, ◌&&◌, ◌||◌}
use mathlib.Core.List.{List, [], ◌∷◌}
use Rattle.std.specs.Prelude.{Option, Some}
use Rattle.std.specs.Bool.{then_some}
use native.Mathlib.Omega.{arith}
use lib.Dec.{eqb, ltb}
use lib.ListN.{get_or}
use mir.Syntax.{w32, w64}
use mir.Val.{Fits}
use types.Run.{OneOf}
use borrow.Author.Tests.{eq-eqb, ne_eqb, eqb-true, eqb-false, ltb-true}
use Rattle.rules.proofs.Clean.{Each}
use Rattle.rules.specs.Text.{A, E, F, G, H, I, M, N, O, P, Q, S, T, U}
use Rattle.rules.specs.Search.{worse, fault_if}
use Rattle.text.proofs.Tools.{by_test}
use Rattle.form.specs.Form.{count_fault, mark_fault, pairs_fault, labelled_fault, valued_fault}
use Rattle.form.specs.Form.{schema_fault, graph_fault, query_fault}
use Rattle.form.proofs.Faults.{flagged}

-- ---- records that have pairs

-- how many numbers such a record needs fits
module _ (n : ℕ) (h : Fits w32 n) where
  pub double_fits : Fits w64 (2 * n)
  double_fits = let k : n < 4294967296 = h.fits in record { fits = omega arith }

  pub front_fits : Fits w64 (4 + 2 * n)
  front_fits = let k : n < 4294967296 = h.fits in record { fits = omega arith }

  pub value-fits : Fits w64 (4 + 2 * n + 1)
  value-fits = let k : n < 4294967296 = h.fits in record { fits = omega arith }

pub ruleset front_laws = (double_fits, front_fits, value-fits)

zeros : (a b : Bool) → worse (fault_if a 0) (fault_if b 0) ≡ fault_if (a || b) 0
zeros true true = refl
zeros true false = refl
zeros false b = refl

module _ (count : ℕ) (nums : List ℕ) where
  -- "list 0 has exactly one value, list 1 has none or more"
  wrong_count : Bool
  wrong_count = (eqb (get_or nums 2 0) 0 && not (eqb count (5 + 2 * get_or nums 3 0))) || ltb count (4 + 2 * get_or nums 3 0)

  valued_by : (b : Bool) (m p k w r : Option ℕ) → wrong_count ≡ b → m ≡ then_some (ltb 1 (get_or nums 2 0)) 4 → p ≡ pairs_fault count nums
      → k ≡ fault_if b 0 → w ≡ worse p k → r ≡ worse m w → r ≡ valued_fault count nums
  unfolding valued_fault mark_fault wrong_count
  valued_by b m p k w r c e f g h i =
      let z = zeros (eqb (get_or nums 2 0) 0 && not (eqb count (5 + 2 * get_or nums 3 0))) (ltb count (4 + 2 * get_or nums 3 0)) in
      let d = ap (λ (t : Bool). fault_if t 0) c in
      cc (flagged m (ltb 1 (get_or nums 2 0)) 4 e, z, d)

  one_value : get_or nums 2 0 ≡ 0 → wrong_count ≡ not (eqb count (4 + 2 * get_or nums 3 0 + 1))
  unfolding wrong_count
  one_value z =
      let s : 4 + 2 * get_or nums 3 0 + 1 ≡ 5 + 2 * get_or nums 3 0 = omega arith in
      by_test (ltb count (4 + 2 * get_or nums 3 0))
      (λ t. let l = ltb-true count (4 + 2 * get_or nums 3 0) t in
      simp (s, t, eq-eqb (get_or nums 2 0) 0 z, ne_eqb count (5 + 2 * get_or nums 3 0) (λ e. omega arith)))
      (λ t. simp (s, t, eq-eqb (get_or nums 2 0) 0 z) (or-false-r (not (eqb count (5 + 2 * get_or nums 3 0)))))
    where
      or-false-r : (b : Bool) → (b || false) ≡ b
      or-false-r true = refl
      or-false-r false = refl

  pub valued_one : (m p k w r : Option ℕ) → get_or nums 2 0 ≡ 0 → m ≡ then_some (ltb 1 (get_or nums 2 0)) 4 → p ≡ pairs_fault count nums
      → k ≡ count_fault (4 + 2 * get_or nums 3 0 + 1) count → w ≡ worse p k → r ≡ worse m w → r ≡ valued_fault count nums
  unfolding count_fault
  valued_one m p k w r z e f g h i = valued_by (not (eqb count (4 + 2 * get_or nums 3 0 + 1))) m p k w r (one_value z) e f g h i

  pub valued_list : (m p k w r : Option ℕ) → (get_or nums 2 0 ≡ 0 → ⊥) → m ≡ then_some (ltb 1 (get_or nums 2 0)) 4 → p ≡ pairs_fault count nums
      → k ≡ then_some (ltb count (4 + 2 * get_or nums 3 0)) 0 → w ≡ worse p k → r ≡ worse m w → r ≡ valued_fault count nums
  unfolding wrong_count
  valued_list m p k w r z e f g h i =
      valued_by (ltb count (4 + 2 * get_or nums 3 0)) m p k w r (simp (ne_eqb (get_or nums 2 0) 0 z)) e f
      (flagged k (ltb count (4 + 2 * get_or nums 3 0)) 0 g) h i

pub ruleset valued_laws = (valued_one, valued_list, front_laws)

-- ---- the records of each text, letter by letter

-- one of some letters that all have a property has it
one_of : (P : ℕ → Type 0) (l : ℕ) (ks : List ℕ) → OneOf ks l → Each P ks → P l
one_of P l [] h e = absurd h
one_of P l (k ∷ []) h e = subst P (sym h) e.0
one_of P l (k ∷ k' ∷ ks) (inl h) e = subst P (sym h) e.0
one_of P l (k ∷ k' ∷ ks) (inr h) e = one_of P l (k' ∷ ks) h e.1

module _ (l count : ℕ) (nums : List ℕ) where
  -- a letter whose record has n numbers and no other test
  abbrev Counts : ℕ → ℕ → Type 0
  Counts n k = schema_fault k count nums ≡ count_fault n count

  module _ (r : (Option ℕ)) where
    schema-count : (n : ℕ) → Counts n l → r ≡ (count_fault n count) → r ≡ (schema_fault l count nums)
    schema-count n s f = f ∙ sym s

    pub schema-none : OneOf (I ∷ O ∷ U ∷ []) l → r ≡ (count_fault 0 count) → r ≡ (schema_fault l count nums)
    unfolding schema_fault
    schema-none k = schema-count 0 (one_of (Counts 0) l (I ∷ O ∷ U ∷ []) k (refl, (refl, (refl, tt))))

    pub schema-one : OneOf (A ∷ Q ∷ []) l → r ≡ (count_fault 1 count) → r ≡ (schema_fault l count nums)
    unfolding schema_fault
    schema-one k = schema-count 1 (one_of (Counts 1) l (A ∷ Q ∷ []) k (refl, (refl, tt)))

    schema-two : OneOf (G ∷ H ∷ M ∷ S ∷ []) l → r ≡ (count_fault 2 count) → r ≡ (schema_fault l count nums)
    unfolding schema_fault
    schema-two k = schema-count 2 (one_of (Counts 2) l (G ∷ H ∷ M ∷ S ∷ []) k (refl, (refl, (refl, (refl, tt)))))

    -- the code's `match` tests M and S by themselves, and G and H as those between F and I
    pub schema_far : OneOf (M ∷ S ∷ []) l → r ≡ (count_fault 2 count) → r ≡ (schema_fault l count nums)
    schema_far k = schema-two (inr (inr k))

    pub schema_near : (l ≡ F → ⊥) → F ≤ l → l < I → r ≡ (count_fault 2 count) → r ≡ (schema_fault l count nums)
    schema_near f p q =
        by_test (eqb l G)
        (λ t. schema-two (inl (eqb-true l G t)))
        (λ t. let n = eqb-false l G t in let h : l ≡ H = omega arith in schema-two (inr (inl h)))

  pub schema-F : (m k r : Option ℕ) → l ≡ F → m ≡ then_some (ltb 1 (get_or nums 1 0)) 3 → k ≡ count_fault 2 count → r ≡ worse m k
      → r ≡ schema_fault l count nums
  unfolding schema_fault mark_fault
  schema-F m k r e f g h = cc (ap (λ (x : ℕ). schema_fault x count nums) e, flagged m (ltb 1 (get_or nums 1 0)) 3 f)

  pub schema_other : (OneOf (I ∷ O ∷ U ∷ []) l → ⊥) → (OneOf (A ∷ Q ∷ []) l → ⊥) → (OneOf (M ∷ S ∷ []) l → ⊥) → (l ≡ F → ⊥)
      → (F ≤ l → l < I → ⊥) → Some 1 ≡ (schema_fault l count nums)
  unfolding schema_fault
  schema_other zero-numbers one far f near =
      simp (
        ne_eqb l I (λ e. zero-numbers (inl e)),
        ne_eqb l O (λ e. zero-numbers (inr (inl e))),
        ne_eqb l U (λ e. zero-numbers (inr (inr e))),
        ne_eqb l A (λ e. one (inl e)),
        ne_eqb l Q (λ e. one (inr e)),
        ne_eqb l M (λ e. far (inl e)),
        ne_eqb l S (λ e. far (inr e)),
        ne_eqb l G (λ e. near (omega arith) (omega arith)),
        ne_eqb l H (λ e. near (omega arith) (omega arith)),
        ne_eqb l F f,
      )

  pub graph-N : (r : (Option ℕ)) → l ≡ N → r ≡ (count_fault 1 count) → r ≡ (graph_fault l count nums)
  unfolding graph_fault
  graph-N r e f = f ∙ ap (λ (x : ℕ). (graph_fault x count nums)) (sym e)

  pub graph-E : (r : (Option ℕ)) → l ≡ E → r ≡ (labelled_fault count nums) → r ≡ (graph_fault l count nums)
  unfolding graph_fault
  graph-E r e f = f ∙ ap (λ (x : ℕ). (graph_fault x count nums)) (sym e)

  pub graph-P : (r : (Option ℕ)) → l ≡ P → r ≡ (valued_fault count nums) → r ≡ (graph_fault l count nums)
  unfolding graph_fault
  graph-P r e f = f ∙ ap (λ (x : ℕ). (graph_fault x count nums)) (sym e)

  pub graph_other : (l ≡ N → ⊥) → (l ≡ E → ⊥) → (l ≡ P → ⊥) → Some 1 ≡ (graph_fault l count nums)
  unfolding graph_fault
  graph_other n e p = simp (ne_eqb l N n, ne_eqb l E e, ne_eqb l P p)

  pub query-F : (r : (Option ℕ)) → l ≡ F → r ≡ (labelled_fault count nums) → r ≡ (query_fault l count nums)
  unfolding query_fault
  query-F r e f = f ∙ ap (λ (x : ℕ). (query_fault x count nums)) (sym e)

  pub query-T : (r : (Option ℕ)) → l ≡ T → r ≡ (count_fault 2 count) → r ≡ (query_fault l count nums)
  unfolding query_fault
  query-T r e f = f ∙ ap (λ (x : ℕ). (query_fault x count nums)) (sym e)

  pub query_other : (l ≡ F → ⊥) → (l ≡ T → ⊥) → Some 1 ≡ (query_fault l count nums)
  unfolding query_fault
  query_other f t = simp (ne_eqb l F f, ne_eqb l T t)

pub ruleset schema_laws = (schema-none, schema-one, schema-F, schema_other)

pub ruleset graph_laws = (graph-N, graph-E, graph-P, graph_other)

pub ruleset query_laws = (query-F, query-T, query_other)
