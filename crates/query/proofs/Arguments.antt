-- The loop over an entry's arguments: what the pairs from the i-th on say. Assumes nothing.
use Prim.Native.Nat.{ℕ, suc, ◌+◌, ◌*◌, ◌-◌, ◌≤◌, ◌<◌}
use mathlib.Core.Path.{◌≡◌, refl, sym, ap, ◌∙◌}
use mathlib.Core.List.{List, ◌∷◌}
use mathlib.Core.Bool.{Bool, true, false, not}
use Rattle.std.specs.Prelude.{Option, None, Some}
use native.Mathlib.Omega.{arith}
use native.Mathlib.Numerals.{unary_clauses}
use lib.ListN.{drop}
use lib.Seq.{drop-cons}
use Rattle.rules.specs.Text.{Pair, at, pairs, pairs_of, arg_no}
use Rattle.rules.specs.Search.{test_each, fault_of}
use Rattle.rules.specs.Schema.{Schema, takes_arg}
use Rattle.rules.specs.declared.ArgNo.{ArgNo}
use Rattle.rules.specs.declared.FieldNo.{FieldNo}
use Rattle.rules.proofs.Rising.{Behind, behind-each, each-stop, each_on}
use Rattle.tables.specs.Read.{cell, wide_at, numbers_at, schema_at}
use Rattle.query.specs.Entries.{QueryHeld, entry_at}
use Rattle.query.specs.Faults.{arg_passes, args_fault}
use Rattle.query.specs.declared.EntryCheck.{EntryCheck}
use Rattle.query.specs.declared.EntryCheck.TheVariants.{Depths, Numbers, Validity}
use Rattle.query.proofs.Cells.{number_at, count_at, numbers_long}

abbrev pub arg_test : (ArgNo → Bool) → Pair → Bool
arg_test ok p = not (ok p.arg)

module _ (ok : ArgNo → Bool) (q : List ℕ) (k : ℕ) where
  unfoldable pub args_from : ℕ → Option ℕ
  args_from i = fault_of (test_each (arg_test ok) 2 (6 + 2 * i) (pairs (wide_at q 8 k 5 - i) (drop (4 + 2 * i) (numbers_at q 8 k))))

  args-all : fault_of (test_each (arg_test ok) 2 6 (pairs_of (entry_at q k))) ≡ args_from 0
  unfolding args_from entry_at
  args-all = rw (count_at q k) (simp unary_clauses)

  args_late : Behind 6 (args_from 0)
  unfolding args_from
  args_late = behind-each (arg_test ok) 2 6 (pairs (wide_at q 8 k 5 - 0) (drop 4 (numbers_at q 8 k)))

  -- the two numbers of pair i, and those behind
  ahead : (i : ℕ) → QueryHeld q → k < cell q 0 → i < wide_at q 8 k 5
      → drop (4 + 2 * i) (numbers_at q 8 k)
      ≡ wide_at q 8 k (6 + 2 * i) ∷ at (entry_at q k) (suc (4 + 2 * i)) ∷ drop (4 + 2 * (i + 1)) (numbers_at q 8 k)
  unfolding entry_at
  ahead i h l p =
      let n = numbers_long q k h l in
      let m = h.pairs k l in
      let x : at (entry_at q k) (4 + 2 * i) ≡ wide_at q 8 k (4 + 2 * i + 2) = number_at q k (4 + 2 * i) (omega arith) in
      let e : 4 + 2 * i + 2 ≡ 6 + 2 * i = omega arith in
      let g : suc (suc (4 + 2 * i)) ≡ 4 + 2 * (i + 1) = omega arith in
      let y : wide_at q 8 k (4 + 2 * i + 2) ≡ wide_at q 8 k (6 + 2 * i) = ap (wide_at q 8 k) e in
      let rest : ℕ → List ℕ = λ j. drop j (numbers_at q 8 k) in
      let z : rest (suc (suc (4 + 2 * i))) ≡ rest (4 + 2 * (i + 1)) = ap rest g in
      let u = drop-cons (numbers_at q 8 k) (4 + 2 * i) 0 (omega arith) in
      let v = drop-cons (numbers_at q 8 k) (suc (4 + 2 * i)) 0 (omega arith) in
      cc

  abbrev here : (i : ℕ) → Pair
  here i = record { arg = arg_no (wide_at q 8 k (6 + 2 * i)); value = at (entry_at q k) (suc (4 + 2 * i)) }

  abbrev behind_it : (i : ℕ) → List Pair
  behind_it i = pairs (wide_at q 8 k 5 - (i + 1)) (drop (4 + 2 * (i + 1)) (numbers_at q 8 k))

  turn : (i : ℕ) → QueryHeld q → k < cell q 0 → i < wide_at q 8 k 5
      → args_from i ≡ fault_of (test_each (arg_test ok) 2 (6 + 2 * i) (here i ∷ behind_it i))
  unfolding args_from
  turn i h l p =
      let e : wide_at q 8 k 5 - i ≡ suc (wide_at q 8 k 5 - (i + 1)) = omega arith in
      rw (e, ahead i h l p)

  -- the code found b at argument i, whose number is x
  module _ (n i x : ℕ) (b : Bool) (total : Option ℕ) (h : QueryHeld q) (l : k < cell q 0) (en : n ≡ wide_at q 8 k 5) (p : i < n)
      (t : total ≡ args_from i) (e : x ≡ wide_at q 8 k (6 + 2 * i)) (f : b ≡ ok (arg_no x)) where
    found : ok (arg_no (wide_at q 8 k (6 + 2 * i))) ≡ b
    found = ap (λ (m : ℕ). ok (arg_no m)) (sym e) ∙ sym f

    pub args-stop : b ≡ false → Some (6 + 2 * i) ≡ total
    args-stop g =
        let stops = each-stop (arg_test ok) 2 (6 + 2 * i) (here i) (behind_it i) (omega arith) (ap not (found ∙ g)) in
        sym (t ∙ turn i h l (omega arith) ∙ stops)

    pub args-on : b ≡ true → total ≡ args_from (i + 1)
    unfolding args_from
    args-on g =
        let on = each_on (arg_test ok) 2 (6 + 2 * i) (here i) (behind_it i) (ap not (found ∙ g)) in
        let z : 2 + (6 + 2 * i) ≡ 6 + 2 * (i + 1) = omega arith in
        t ∙ turn i h l (omega arith) ∙ on ∙ ap (λ (m : ℕ). fault_of (test_each (arg_test ok) 2 m (behind_it i))) z

  pub args-done : (n i : ℕ) (total : Option ℕ) → total ≡ args_from i → n ≡ wide_at q 8 k 5 → n ≤ i → None ≡ total
  unfolding args_from
  args-done n i total t en h =
      let z : wide_at q 8 k 5 - i ≡ 0 = omega arith in
      let y : args_from i ≡ None = rw z in
      sym (t ∙ y)

pub args-few : (q : List ℕ) (k n : ℕ) → QueryHeld q → k < cell q 0 → n ≡ wide_at q 8 k 5 → n ≤ 4
args-few q k n h l e = omega (arith, h.pairs k l)

-- the test of the code: with a number, of field f
module _ (n : EntryCheck) (a q : List ℕ) (k : ℕ) (f : FieldNo) where
  pub fault-all : args_fault n a q k f ≡ args_from (arg_passes n (schema_at a) f) q k 0
  unfolding args_fault
  fault-all = args-all (arg_passes n (schema_at a) f) q k

  pub fault_late : Behind 6 (args_fault n a q k f)
  fault_late = rw fault-all (args_late (arg_passes n (schema_at a) f) q k)

-- what is no check of numbers asks the field
pub other_taken : (n : EntryCheck) (s : Schema) (f : FieldNo) (x : ArgNo) → (n ≡ Numbers → ⊥) → takes_arg s f x ≡ arg_passes n s f x
unfolding arg_passes
other_taken Depths s f x h = refl
other_taken Numbers s f x h = absurd (h refl)
other_taken Validity s f x h = refl

pub ruleset arg_laws = (args-few, fault-all)
