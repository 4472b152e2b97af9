-- The rules are met exactly when no check is offended, and a refusal has the place that they fix. Assumes nothing.
use Prim.Native.Nat.{ℕ, ◌≤◌}
use mathlib.Core.Path.{◌≡◌, refl, sym, ap, subst}
use mathlib.Core.Logic.{inl, inr, ◌↔◌}
use mathlib.Core.Bool.{Bool, true, false, not}
use mathlib.Core.List.{List, [], ◌∷◌}
use Rattle.std.specs.Prelude.{Some}
use lib.Dec.{eqb, ltb}
use lib.ListN.{length}
use borrow.Author.Tests.{eqb-true, ltb-true, ltb-false, le-ltb}
use Rattle.rules.specs.Lists.{those}
use Rattle.rules.specs.Text.{Row, lines, Q}
use Rattle.rules.specs.Search.{spot, whole}
use Rattle.rules.specs.Forms.{Form, schema_forms, graph_forms, query_forms, breaks, longest, text_form}
use Rattle.rules.specs.Schema.{is, query_type, check11, check12, check13, check14, check15}
use Rattle.rules.specs.Graph.{nodes_of, check21, check22, check23, check24, check25, check26}
use Rattle.rules.specs.Query.{check31, steps, check32, check33, check34}
use Rattle.rules.specs.Eval.{meets_fork}
use Rattle.rules.specs.Answer.{Texts, world_of, schema_rows, graph_rows, query_rows, schema_in, graph_in, tree_of, root_of}
use Rattle.rules.specs.Answer.{Numbered, schema_checks, graph_checks, query_checks, checks, answer_checks, largest_room}
use Rattle.rules.specs.Contract.{place_of, Passed}
use Rattle.rules.specs.declared.Spot.{Spot}
use Rattle.rules.proofs.Bools.{some-same, some-none}
use Rattle.rules.proofs.Clean.{Each, whole-none}
use Rattle.rules.proofs.Places.{Passes, passes_at, passed-tail, place_is_first}
use Rattle.rules.proofs.Outcomes.{answer-checks_rise}
use Rattle.rules.proofs.Single.{no_fork_met}
use Rattle.response.proofs.Passing.{◌then◌}
use Rattle.sodgravel.specs.Ruled.{RulesMet, FormPlace, StepPlace, PlaceFixed, at_1, at_2, at_40}
use Rattle.sodgravel.specs.Ruled.{at_10, at_11, at_12, at_13, at_14, at_15, at_16}
use Rattle.sodgravel.specs.Ruled.{at_20, at_21, at_22, at_23, at_24, at_25, at_26, at_27}
use Rattle.sodgravel.specs.Ruled.{at_30, at_31, at_32, at_33, at_34}

-- ---- the rules met

module _ (short : Bool) (x : Texts) where
  from-passed : Passed (checks short x) → (short ≡ false) × RulesMet x
  from-passed p = (
    whole-none short (p 2),
    record {
      schema = passes_at (schema_checks x.schema) (p 10 then p 11 then p 12 then p 13 then p 14 then p 15 then p 16 then tt);
      graph =
          passes_at (graph_checks (schema_in x) x.graph)
          (p 20 then p 21 then p 22 then p 23 then p 24 then p 25 then p 26 then p 27 then tt);
      query = passes_at (query_checks (schema_in x) x.query) (p 30 then p 31 then p 32 then p 33 then p 34 then tt);
    },
  )

  -- the evaluation's check is passed where those of the graph are
  all_pass : short ≡ false → RulesMet x → Passes (checks short x)
  all_pass h r =
      let s : Passed (schema_checks x.schema) = r.schema in
      let g : Passed (graph_checks (schema_in x) x.graph) = r.graph in
      let q : Passed (query_checks (schema_in x) x.query) = r.query in
      let met = no_fork_met (schema_in x) (graph_rows x) (g 25) (g 26) (tree_of x) (root_of x) in
      ap whole h
      then s 10 then s 11 then s 12 then s 13 then s 14 then s 15 then s 16
      then g 20 then g 21 then g 22 then g 23 then g 24 then g 25 then g 26 then g 27
      then q 30 then q 31 then q 32 then q 33 then q 34
      then ap whole met then tt

  -- no check is offended exactly when no area is too short and the rules are met;
  pub passed_exactly : Passed (checks short x) ↔ ((short ≡ false) × RulesMet x)
  passed_exactly = (from-passed, λ r. passes_at (checks short x) (all_pass r.0 r.1))

  -- in answering, the room is not above 16,384 besides
  pub answer-passed_exactly : (room : ℕ) → Passed (answer_checks short x room) ↔ ((room ≤ 16384) × (short ≡ false) × RulesMet x)
  answer-passed_exactly room = (
    λ p. let r = from-passed (behind p) in (ltb-false largest_room room (whole-none (ltb largest_room room) (p 1)), r.0, r.1),
    λ r. passes_at (answer_checks short x room) (ap whole (le-ltb largest_room room r.0), all_pass r.1 r.2),
  )
    where
      behind : Passed (answer_checks short x room) → Passed (checks short x)
      behind p = passed-tail 0 _ (checks short x) (answer-checks_rise short x room []) p

-- ---- the place fixed

whole_place : (b : Bool) (p : Spot) → whole b ≡ Some p → p ≡ spot 0 0
whole_place true p h = sym (some-same (spot 0 0) p h)
whole_place false p h = absurd (some-none (sym h))

form_place : (fs : List Form) (text : List ℕ) (p : Spot) → text_form fs text ≡ Some p → FormPlace fs text p
form_place fs text p h = go (ltb longest (length text)) refl
  where
    go : (b : Bool) → ltb longest (length text) ≡ b → FormPlace fs text p
    go true e = inl (ltb-true longest (length text) e, sym (some-same (spot 0 0) p (rw e at h)))
    go false e = inr (ltb-false longest (length text) e, (place_is_first (breaks fs) (lines text) p).0 (rw e at h))

step_place : (rs : List Row) (p : Spot) → check32 rs ≡ Some p → StepPlace rs p
step_place [] p h = inl (refl, sym (some-same (spot 0 0) p h))
step_place (r ∷ rs) p h = inr ((place_is_first steps (r ∷ rs) p).0 h)

-- the checks of a list, each with its place fixed
abbrev pub Fixes : Texts → Numbered → Type 0
Fixes x c = (p : Spot) → c.place ≡ Some p → PlaceFixed x c.number p

pub place_fixed : (x : Texts) (cs : List Numbered) → Each (Fixes x) cs → (n : ℕ) (p : Spot) → place_of n cs ≡ Some p → PlaceFixed x n p
place_fixed x [] f n p h = absurd (some-none (sym h))
place_fixed x (c ∷ cs) f n p h = go (λ k. place_fixed x cs f.1 n p k) (eqb c.number n) refl
  where
    go : (place_of n cs ≡ Some p → PlaceFixed x n p) → (b : Bool) → eqb c.number n ≡ b → PlaceFixed x n p
    go ih true e = subst (λ (k : ℕ). PlaceFixed x k p) (eqb-true c.number n e) (f.0 p (rw (e, place_of) at h))
    go ih false e = ih (rw (e, place_of) at h)

module _ (short : Bool) (x : Texts) where
  pub checks_fixed : Each (Fixes x) (checks short x)
  checks_fixed =
      (λ p h. at_2 (whole_place short p h))
      then (λ p h. at_10 (form_place schema_forms x.schema p h))
      then (λ p h. at_11 ((place_is_first check11 (schema_rows x) p).0 h))
      then (λ p h. at_12 ((place_is_first (check12 (schema_in x)) (schema_rows x) p).0 h))
      then (λ p h. at_13 ((place_is_first check13 (schema_rows x) p).0 h))
      then (λ p h. at_14 ((place_is_first (check14 (schema_in x)) (schema_rows x) p).0 h))
      then (λ p h. at_15 ((place_is_first (check15 (schema_in x)) (schema_rows x) p).0 h))
      then (λ p h. at_16 (whole_place (not (eqb (length (those (is Q) (schema_rows x))) 1)) p h))
      then (λ p h. at_20 (form_place graph_forms x.graph p h))
      then (λ p h. at_21 ((place_is_first check21 (graph_rows x) p).0 h))
      then (λ p h. at_22 ((place_is_first (check22 (schema_in x) (graph_in x)) (graph_rows x) p).0 h))
      then (λ p h. at_23 ((place_is_first (check23 (schema_in x) (graph_in x)) (graph_rows x) p).0 h))
      then (λ p h. at_24 ((place_is_first (check24 (schema_in x) (graph_in x)) (graph_rows x) p).0 h))
      then (λ p h. at_25 ((place_is_first (check25 (schema_in x) (graph_in x)) (graph_rows x) p).0 h))
      then (λ p h. at_26 ((place_is_first check26 (graph_rows x) p).0 h))
      then (λ p h. at_27 (whole_place (not (eqb (length (nodes_of (graph_in x) (query_type (schema_in x)))) 1)) p h))
      then (λ p h. at_30 (form_place query_forms x.query p h))
      then (λ p h. at_31 ((place_is_first check31 (query_rows x) p).0 h))
      then (λ p h. at_32 (step_place (query_rows x) p h))
      then (λ p h. at_33 ((place_is_first (check33 (schema_in x)) (query_rows x) p).0 h))
      then (λ p h. at_34 ((place_is_first (check34 (schema_in x)) (query_rows x) p).0 h))
      then (λ p h. at_40 (whole_place (meets_fork (world_of x) (tree_of x) (root_of x)) p h))
      then tt

  pub answer-checks_fixed : (room : ℕ) → Each (Fixes x) (answer_checks short x room)
  answer-checks_fixed room = (λ p h. at_1 (whole_place (ltb largest_room room) p h), checks_fixed)
