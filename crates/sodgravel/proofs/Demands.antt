-- The three demands follow from the contracts of `size` and `answer` alone. Assumes nothing.
use Prim.Native.Nat.{ℕ, ◌≤◌, ◌<◌}
use native.Mathlib.Decide.{dec_lt}
use native.Mathlib.Omega.{arith}
use mathlib.Core.Path.{◌≡◌, refl, sym, ap, ◌∙◌, subst}
use mathlib.Core.Logic.{◌⊎◌, inl, inr, ◌↔◌}
use mathlib.Core.Bool.{Bool, false}
use mathlib.Core.List.{List, [], ◌∷◌}
use lib.ListN.{length, get_or}
use lib.Seq.{get_or-take}
use Rattle.rules.specs.World.{Shape}
use Rattle.rules.specs.Eval.{label, answer as shownBehind}
use Rattle.rules.specs.Sizing.{cap}
use Rattle.rules.specs.Answer.{Texts, world_of, response, visits_in}
use Rattle.rules.specs.Answer.{Numbered, checks, answer_checks, areas_after, refused, sized, answered, space}
use Rattle.rules.specs.Contract.{Passed, Least, Shows, Exact, Exceeds, Fits, Written, AllZeros, Answers}
use Rattle.rules.specs.declared.Spot.{Spot}
use Rattle.rules.specs.declared.Outcome.{Outcome}
use Rattle.rules.proofs.Clean.{Each}
use Rattle.rules.proofs.Facts.{Facts, facts}
use Rattle.rules.proofs.Accepted.{response-size, visits-met, visits_in_order, no_visit_twice}
use Rattle.rules.proofs.Outcomes.{SizeCase, size-case, sized-passed, accepted_exactly, size_exact, size_above, visits-told}
use Rattle.rules.proofs.Outcomes.{AnswerCase, answer-case, answer-accepted_exactly, fifty_exactly}
use Rattle.rules.proofs.Outcomes.SizeCase.{accepts as sizes, refuses as refusesSize}
use Rattle.rules.proofs.Outcomes.AnswerCase.{accepts as fits, overflows, refuses as refusesAnswer}
use Rattle.rules.proofs.Unique.{sizing_meets, answering_meets}
use Rattle.judge.specs.Texts.{work_areas}
use Rattle.response.specs.Calls.{areas_of, any_short, sized_in, answered_in, buffer_in}
use Rattle.sodgravel.specs.Cleared.{cleared}
use Rattle.sodgravel.specs.Ruled.{RulesMet}
use Rattle.sodgravel.specs.Demands.{Given, Left, AreasEnsured, SizeEnsured, AnswerEnsured, areas_in, short_in, areas_left}
use Rattle.sodgravel.specs.Demands.{Refused, TooLarge, Demand1, Demand2, Demand3}
use Rattle.response.proofs.Telling.{unwritten}
use Rattle.sodgravel.proofs.Rules.{passed_exactly, answer-passed_exactly, Fixes, place_fixed, checks_fixed, answer-checks_fixed}

-- ---- that they are met

refused_as_lem : (x : Texts) (cs : List Numbered) → Each (Fixes x) cs → (o : Outcome) (n : ℕ) (p : Spot)
    → Least cs n p → 0 < n → o ≡ refused n p → Refused x cs o
refused_as_lem x cs f o n p l h e =
    subst (Refused x cs) (sym e)
    (record {
      spot = p;
      above = h;
      least = l;
      fixed = place_fixed x cs f n p l.offended;
      place = refl;
      size = refl;
      visits = refl;
    })

within : (n room : ℕ) (buffer : List ℕ) → (n ≤ space room buffer) ↔ Fits n room buffer
within n room buffer = (λ h. record { given = omega arith; held = omega arith }, λ f. omega (arith, f.given, f.held))

beyond : (n room : ℕ) (buffer : List ℕ) → (space room buffer < n) ↔ Exceeds n room buffer
beyond n room buffer = (λ h. go h (dec_lt room n), back)
  where
    go : space room buffer < n → Dec (room < n) → Exceeds n room buffer
    go h (yes k) = inl k
    go h (no k) = inr (omega arith)

    back : Exceeds n room buffer → space room buffer < n
    back (inl h) = omega arith
    back (inr h) = omega arith

all-cleared : (g : Given) (l : Left) → AreasEnsured g l → areas_left l ≡ areas_after (areas_in g)
unfolding areas_of work_areas cleared
all-cleared g l a = λ i. a.schema i ∷ a.nodes i ∷ a.properties i ∷ a.values i ∷ a.index i ∷ a.query i ∷ a.rows i ∷ []

module _ (g : Given) (size answer : Left) (buffer : List ℕ) (es : SizeEnsured g size) (ea : AnswerEnsured g answer buffer) where
  abbrev x : Texts
  x = g.texts

  abbrev short : Bool
  short = short_in g

  sized-is : size.outcome ≡ sized short x
  unfolding sized_in
  sized-is = es.returned

  answered-is : answer.outcome ≡ answered short x g.room g.buffer
  unfolding answered_in
  answered-is = ea.returned

  sized-number : size.outcome.number ≡ (sized short x).number
  sized-number = ap (λ (o : Outcome). o.number) sized-is

  answered-number : answer.outcome.number ≡ (answered short x g.room g.buffer).number
  answered-number = ap (λ (o : Outcome). o.number) answered-is

  -- the contract's words, of what was returned and left
  abbrev Met : Outcome → List ℕ → List (List ℕ) → Type 0
  Met o b ls = Answers (areas_in g) x g.room g.buffer o b ls

  answers : Met answer.outcome buffer (areas_left answer)
  unfolding any_short answered_in buffer_in
  answers =
      let o = answered_in g.areas g.rows x g.room g.buffer in
      let b = buffer_in g.areas g.rows x g.room g.buffer in
      let meets : Met o b (areas_after (areas_in g)) = answering_meets (areas_in g) x g.room g.buffer in
      let clears : Met o b (areas_left answer) = subst (Met o b) (sym (all-cleared g answer ea.areas)) meets in
      let writes : Met o buffer (areas_left answer) = subst (λ (l : List ℕ). Met o l (areas_left answer)) (sym ea.written) clears in
      subst (λ (r : Outcome). Met r buffer (areas_left answer)) (sym ea.returned) writes

  accepted : answer.outcome.number ≡ 0 → Passed (answer_checks short x g.room) × (length (response x) ≤ space g.room g.buffer)
  accepted z = (answer-accepted_exactly short x g.room g.buffer).0 (sym answered-number ∙ z)

  shows-accepted : answer.outcome.number ≡ 0
      → Shows answer.outcome 0 0 (length (response x)) (length (visits_in x)) × Written (response x) g.buffer buffer
  unfolding any_short
  shows-accepted z = let a = accepted z in answers.accepts a.0 ((within _ g.room g.buffer).0 a.1)

  too_large : answer.outcome.number ≡ 50 → Passed (answer_checks short x g.room) × (space g.room g.buffer < length (response x))
  too_large z = (fifty_exactly short x g.room g.buffer).0 (sym answered-number ∙ z)

  shows-large : answer.outcome.number ≡ 50
      → (k : ℕ) × Exact (length (response x)) k × Shows answer.outcome 50 0 k (length (visits_in x)) × (buffer ≡ g.buffer)
  unfolding any_short
  shows-large z = let a = too_large z in answers.too_large a.0 ((beyond _ g.room g.buffer).0 a.1)

  known : RulesMet x → Facts x
  known r = facts false x ((passed_exactly false x).1 (refl, r))

  pub demand_1 : Demand1 g size answer buffer
  unfolding buffer_in answered_in
  demand_1 =
      record {
        size_accepts_or_refuses = by_size (size-case short x);
        answer_accepts_or_refuses = by_answer (answer-case short x g.room g.buffer);
        refusal_leaves_buffer = λ h. ea.written ∙ unwritten _ (response x) g.buffer (λ z. h (answered-number ∙ z));
        size_zeroes = subst (AllZeros (areas_in g)) (sym (all-cleared g size es.areas)) (sizing_meets (areas_in g) x).clears;
        answer_zeroes = answers.clears;
      }
    where
      by_size : SizeCase short x → (size.outcome.number ≡ 0) ⊎ Refused x (checks short x) size.outcome
      by_size (sizes p e) = inl (ap (λ (o : Outcome). o.number) (sized-is ∙ e))
      by_size (refusesSize n p l h e) = inr (refused_as_lem x (checks short x) (checks_fixed short x) size.outcome n p l h (sized-is ∙ e))

      by_answer : AnswerCase short x g.room g.buffer → (answer.outcome.number ≡ 0)
          ⊎ (TooLarge answer.outcome ⊎ Refused x (answer_checks short x g.room) answer.outcome)
      by_answer (fits p l e) = inl (ap (λ (o : Outcome). o.number) (answered-is ∙ e))
      by_answer (overflows p l e) =
          let is = answered-is ∙ e in
          inr (inl (record { number = ap (λ (o : Outcome). o.number) is; place = ap (λ (o : Outcome). o.place) is }))
      by_answer (refusesAnswer n p l h e) =
          let cs = answer_checks short x g.room in
          inr (inr (refused_as_lem x cs (answer-checks_fixed short x g.room) answer.outcome n p l h (answered-is ∙ e)))

  pub demand_2 : Demand2 g size answer buffer
  demand_2 =
      record {
        size_accepts_exactly = (
          λ z. (passed_exactly short x).0 ((accepted_exactly short x).0 (sym sized-number ∙ z)),
          λ r. sized-number ∙ (accepted_exactly short x).1 ((passed_exactly short x).1 r),
        );
        answer_accepts_exactly = (
          λ z. let a = accepted z in ((answer-passed_exactly short x g.room).0 a.0, (within _ g.room g.buffer).0 a.1),
          λ r. answered-number
              ∙ (answer-accepted_exactly short x g.room g.buffer).1
              ((answer-passed_exactly short x g.room).1 r.0, (within _ g.room g.buffer).1 r.1),
        );
        response_written = λ z. (shows-accepted z).1;
        number_for_number = λ z i h. sym (get_or-take (length (response x)) buffer i 0 h)
            ∙ ap (λ (r : List ℕ). get_or r i 0) (shows-accepted z).1.front;
        definition_6 = refl;
        lists_in_edge_order = λ n u l below h.
            ap (λ (s : Shape). label n ∷ shownBehind s ((world_of x).lookup u l) ((world_of x).targets u l) below) h;
      }

  pub demand_3 : Demand3 g size answer
  demand_3 =
      record {
        size_exact = λ z. let p = sym sized-number ∙ z in
            let e = ap (λ (o : Outcome). o.size) sized-is in
            record { upto = λ h. e ∙ size_exact short x p h; above = λ h. e ∙ size_above short x p h };
        refused_for_size_exactly = (
          λ z. let a = too_large z in ((answer-passed_exactly short x g.room).0 a.0, (beyond _ g.room g.buffer).0 a.1),
          λ r. answered-number
              ∙ (fifty_exactly short x g.room g.buffer).1
              ((answer-passed_exactly short x g.room).1 r.0, (beyond _ g.room g.buffer).1 r.1),
        );
        exactly_the_pairs_met = λ r i v. visits-met x (known r) i v;
        none_twice = λ r. no_visit_twice x (known r);
        in_order = λ r. visits_in_order x (known r);
        size_rests_on_the_list = λ z. let p = (accepted_exactly short x).0 (sym sized-number ∙ z) in
            ap (λ (o : Outcome). o.size) (sized-is ∙ sized-passed short x p) ∙ ap cap (response-size x (facts short x p));
        size_counts_the_list = λ z. ap (λ (o : Outcome). o.visits) sized-is ∙ visits-told short x (sym sized-number ∙ z);
        answer_size = λ z. (shows-accepted z).0.size;
        answer_counts_the_list = λ z. (shows-accepted z).0.visits;
        refused_size_exact = λ z. let s = shows-large z in subst (Exact (length (response x))) (sym s.2.size) s.1;
        refused_counts_the_list = λ z. (shows-large z).2.visits;
      }
