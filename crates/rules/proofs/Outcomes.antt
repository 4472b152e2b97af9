-- Theorems 2, 3 and 7 of the outcomes: what sizing and answering show, case by case, for every input. Assumes nothing.
use Prim.Native.Nat.{ℕ, suc, ◌≤◌, ◌<◌}
use native.Mathlib.Decide.{dec_lt}
use native.Mathlib.Omega.{arith}
use mathlib.Core.Path.{◌≡◌, refl, sym, ap, ◌∙◌, subst}
use mathlib.Core.Logic.{◌↔◌, ◌≢◌}
use mathlib.Core.Bool.{Bool, false}
use mathlib.Core.List.{List, [], ◌∷◌}
use Rattle.std.specs.Prelude.{Option, None, Some}
use lib.Dec.{ltb}
use lib.ListN.{length}
use borrow.Author.Tests.{ltb-false, lt-ltb, le-ltb}
use Rattle.rules.specs.Search.{whole, spot}
use Rattle.rules.specs.Sizing.{most, cap}
use Rattle.rules.specs.Answer.{Texts, schema_in, graph_rows, root_of, tree_of, response, visits_in, Numbered, checks, answer_checks, largest_room, verdict, outcome, refused, told, sized, space, fitted, answered}
use Rattle.rules.specs.Contract.{place_of, Passed, Least}
use Rattle.rules.specs.declared.Spot.{Spot}
use Rattle.rules.specs.declared.Outcome.{Outcome}
use Rattle.rules.proofs.Bools.{some-none}
use Rattle.rules.proofs.Clean.{whole-none}
use Rattle.rules.proofs.Places.{Rises, rising, passes_at, passed-tail, offended_above, Decided, passed as allPass, refused as oneRefuses, decided, verdict-passes, least_refuses, passed-accepts}
use Rattle.rules.proofs.Single.{no_fork_met}
use Rattle.rules.proofs.Facts.{facts}
use Rattle.rules.proofs.Accepted.{response-size}

-- ---- sizing

module _ (short : Bool) (x : Texts) where
  -- "Checks run in ascending number": 2, 10 to 16, 20 to 27, 30 to 34, 40
  pub checks_rise : Rises 0 (checks short x)
  checks_rise = rising 0 (checks short x) refl

  -- what is shown of texts that pass: the response's length, capped, and the visit list's length
  abbrev pub shown : Outcome
  shown = outcome 0 0 (cap (length (response x))) (length (visits_in x))

  told_is : Passed (checks short x) → told x ≡ shown
  told_is p = ap (λ (n : ℕ). outcome 0 0 (cap n) (length (visits_in x))) (sym (response-size x (facts short x p)))

  pub data SizeCase : Type 0 where
    accepts : Passed (checks short x) → sized short x ≡ shown → SizeCase
    refuses : (n : ℕ) (p : Spot) → Least (checks short x) n p → 0 < n → sized short x ≡ refused n p → SizeCase

  -- for every input, one of the two
  pub size-case : SizeCase
  size-case = go (decided refused (told x) 0 (checks short x) checks_rise)
    where
      go : Decided refused (told x) (checks short x) → SizeCase
      go (allPass ps) =
          let p = passes_at (checks short x) ps in
          accepts p (verdict-passes refused (told x) (checks short x) ps ∙ told_is p)
      go (oneRefuses n p l v) = refuses n p l (offended_above 0 (checks short x) checks_rise n p l.offended) v

  -- 2: accepted exactly when no check is offended;
  pub sized-passed : Passed (checks short x) → sized short x ≡ shown
  sized-passed p = passed-accepts refused (told x) 0 (checks short x) checks_rise p ∙ told_is p

  pub accepted_exactly : ((sized short x).number ≡ 0) ↔ Passed (checks short x)
  accepted_exactly = (λ h. go h size-case, λ p. ap (λ (o : Outcome). o.number) (sized-passed p))
    where
      go : (sized short x).number ≡ 0 → SizeCase → Passed (checks short x)
      go h (accepts p e) = p
      go h (refuses n p l above e) = absurd (omega (arith, ap (λ (o : Outcome). o.number) e))

  -- the least check that is offended refuses, with its place,
  pub sized-refuses : (n : ℕ) (p : Spot) → Least (checks short x) n p → sized short x ≡ refused n p
  sized-refuses n p l = least_refuses refused (told x) 0 (checks short x) checks_rise n p l

  -- and a refusal is by the least check that is offended, with its place
  pub refused_exactly : (n : ℕ) → 0 < n → (sized short x).number ≡ n → (p : Spot) × Least (checks short x) n p × (sized short x ≡ refused n p)
  refused_exactly n h q = go size-case
    where
      go : SizeCase → (p : Spot) × Least (checks short x) n p × (sized short x ≡ refused n p)
      go (accepts p e) = absurd (omega (arith, ap (λ (o : Outcome). o.number) e))
      go (refuses m p l above e) =
          let same : m ≡ n = sym (ap (λ (o : Outcome). o.number) e) ∙ q in
          (p, subst (λ (k : ℕ). Least (checks short x) k p) same l, e ∙ ap (λ (k : ℕ). refused k p) same)

  -- 3: the size is exact to 1,000,000, and 1,000,001 above
  pub size_exact : (sized short x).number ≡ 0 → length (response x) ≤ most → (sized short x).size ≡ length (response x)
  size_exact h l =
      let e = ap (λ (o : Outcome). o.size) (sized-passed (accepted_exactly.0 h)) in
      omega arith

  pub size_above : (sized short x).number ≡ 0 → most < length (response x) → (sized short x).size ≡ suc most
  size_above h l =
      let e = ap (λ (o : Outcome). o.size) (sized-passed (accepted_exactly.0 h)) in
      omega arith

  -- 4: the count reported is the visit list's length
  pub visits-told : (sized short x).number ≡ 0 → (sized short x).visits ≡ length (visits_in x)
  visits-told h = ap (λ (o : Outcome). o.visits) (sized-passed (accepted_exactly.0 h))

  -- 7: 40 is never given
  pub never_40 : (sized short x).number ≢ 40
  never_40 h =
      let r = refused_exactly 40 (omega arith) h in
      let less : (m : ℕ) → m < 40 → place_of m (checks short x) ≡ None = r.1.none_less in
      let met = no_fork_met (schema_in x) (graph_rows x) (less 25 (omega arith)) (less 26 (omega arith)) (tree_of x) (root_of x) in
      some-none (sym r.1.offended ∙ ap whole met)

-- ---- answering

module _ (short : Bool) (x : Texts) (room : ℕ) (buffer : List ℕ) where
  -- 1 stands before them all
  pub answer-checks_rise : Rises 0 (answer_checks short x room)
  answer-checks_rise = rising 0 (answer_checks short x room) refl

  pub passed-checks : Passed (answer_checks short x room) → Passed (checks short x)
  passed-checks p = passed-tail 0 _ (checks short x) answer-checks_rise p

  pub room_small : Passed (answer_checks short x room) → room ≤ largest_room
  room_small p = ltb-false largest_room room (whole-none (ltb largest_room room) (p 1))

  -- the two ways in which texts that pass are answered
  abbrev pub fits : Outcome
  fits = outcome 0 0 (length (response x)) (length (visits_in x))

  abbrev pub exceeds : Outcome
  exceeds = outcome 50 0 (cap (length (response x))) (length (visits_in x))

  told-fits : Passed (answer_checks short x room) → length (response x) ≤ space room buffer → fitted (space room buffer) (told x) ≡ fits
  told-fits p l =
      let n = length (response x) in
      let small : room ≤ 16384 = room_small p in
      let exact : cap n ≡ n = omega arith in
      ap (fitted (space room buffer)) (told_is short x (passed-checks p))
      ∙ rw (le-ltb (space room buffer) (cap n) (omega arith), fitted) (ap (λ (k : ℕ). outcome 0 0 k (length (visits_in x))) exact)

  told-exceeds : Passed (answer_checks short x room) → space room buffer < length (response x) → fitted (space room buffer) (told x) ≡ exceeds
  told-exceeds p l =
      let n = length (response x) in
      let small : room ≤ 16384 = room_small p in
      ap (fitted (space room buffer)) (told_is short x (passed-checks p)) ∙ rw (lt-ltb (space room buffer) (cap n) (omega arith), fitted)

  pub data AnswerCase : Type 0 where
    accepts : Passed (answer_checks short x room) → length (response x) ≤ space room buffer → answered short x room buffer ≡ fits → AnswerCase
    overflows : Passed (answer_checks short x room) → space room buffer < length (response x) → answered short x room buffer ≡ exceeds → AnswerCase
    refuses : (n : ℕ) (p : Spot) → Least (answer_checks short x room) n p → 0 < n → answered short x room buffer ≡ refused n p → AnswerCase

  -- what answering shows of texts that pass, and of others
  pub answered-fits : Passed (answer_checks short x room) → length (response x) ≤ space room buffer → answered short x room buffer ≡ fits
  answered-fits p l = passed-accepts refused (fitted (space room buffer) (told x)) 0 (answer_checks short x room) answer-checks_rise p ∙ told-fits p l

  pub answered-exceeds : Passed (answer_checks short x room) → space room buffer < length (response x) → answered short x room buffer ≡ exceeds
  answered-exceeds p l =
      passed-accepts refused (fitted (space room buffer) (told x)) 0 (answer_checks short x room) answer-checks_rise p ∙ told-exceeds p l

  pub answered-refuses : (n : ℕ) (p : Spot) → Least (answer_checks short x room) n p → answered short x room buffer ≡ refused n p
  answered-refuses n p l = least_refuses refused (fitted (space room buffer) (told x)) 0 (answer_checks short x room) answer-checks_rise n p l

  -- for every input, one of the three
  pub answer-case : AnswerCase
  answer-case = go (decided refused (fitted (space room buffer) (told x)) 0 (answer_checks short x room) answer-checks_rise)
    where
      by_size : Passed (answer_checks short x room) → Dec (space room buffer < length (response x)) → AnswerCase
      by_size p (yes l) = overflows p l (answered-exceeds p l)
      by_size p (no l) = accepts p (omega arith) (answered-fits p (omega arith))

      go : Decided refused (fitted (space room buffer) (told x)) (answer_checks short x room) → AnswerCase
      go (allPass ps) = by_size (passes_at (answer_checks short x room) ps) (dec_lt (space room buffer) (length (response x)))
      go (oneRefuses n p l v) = refuses n p l (offended_above 0 (answer_checks short x room) answer-checks_rise n p l.offended) v

  -- 2 and 3: accepted exactly when no check is offended and the response fits the room;
  pub answer-accepted_exactly : ((answered short x room buffer).number ≡ 0)
      ↔ (Passed (answer_checks short x room) × (length (response x) ≤ space room buffer))
  answer-accepted_exactly = (λ h. go h answer-case, λ p. ap (λ (o : Outcome). o.number) (answered-fits p.0 p.1))
    where
      go : (answered short x room buffer).number ≡ 0 → AnswerCase → Passed (answer_checks short x room) × (length (response x) ≤ space room buffer)
      go h (accepts p l e) = (p, l)
      go h (overflows p l e) = absurd (omega (arith, ap (λ (o : Outcome). o.number) e))
      go h (refuses n p l above e) = absurd (omega (arith, ap (λ (o : Outcome). o.number) e))

  -- 50 exactly when no check is offended and the response's length exceeds the room
  pub fifty_exactly : ((answered short x room buffer).number ≡ 50)
      ↔ (Passed (answer_checks short x room) × (space room buffer < length (response x)))
  fifty_exactly = (λ h. go h answer-case, λ p. ap (λ (o : Outcome). o.number) (answered-exceeds p.0 p.1))
    where
      go : (answered short x room buffer).number ≡ 50 → AnswerCase → Passed (answer_checks short x room) × (space room buffer < length (response x))
      go h (accepts p l e) = absurd (omega (arith, ap (λ (o : Outcome). o.number) e))
      go h (overflows p l e) = (p, l)
      go h (refuses n p l above e) =
          let fifty : n ≡ 50 = sym (ap (λ (o : Outcome). o.number) e) ∙ h in
          absurd (some-none (sym (subst (λ (k : ℕ). place_of k (answer_checks short x room) ≡ Some p) fifty l.offended)))

  -- ---- by sizing: what the code does

  refused-fits : (k n : ℕ) (p : Spot) → refused n p ≡ fitted k (refused n p)
  refused-fits k n p = rw (le-ltb k 0 (omega arith), fitted)

  fitted-verdict : (k : ℕ) (o : Outcome) (cs : List Numbered) → verdict refused (fitted k o) cs ≡ fitted k (verdict refused o cs)
  fitted-verdict k o [] = refl
  fitted-verdict k o (c ∷ cs) = go (fitted-verdict k o cs) c.place refl
    where
      go : verdict refused (fitted k o) cs ≡ fitted k (verdict refused o cs) → (q : Option Spot) → c.place ≡ q
          → verdict refused (fitted k o) (c ∷ cs) ≡ fitted k (verdict refused o (c ∷ cs))
      go ih None e = rw (e, verdict) ih
      go ih (Some p) e = rw (e, verdict) (refused-fits k c.number p)

  -- A room that is not above 16,384 is answered by the outcome of sizing, held against the room.
  pub answered-by_sizing : room ≤ largest_room → answered short x room buffer ≡ fitted (space room buffer) (sized short x)
  answered-by_sizing h =
      let small : ltb largest_room room ≡ false = le-ltb largest_room room h in
      let first : verdict refused (fitted (space room buffer) (told x)) (answer_checks short x room)
      ≡ verdict refused (fitted (space room buffer) (told x)) (checks short x) = rw (ap whole small, verdict) in
      first ∙ fitted-verdict (space room buffer) (told x) (checks short x)

  pub answered_too_large_room : largest_room < room → answered short x room buffer ≡ refused 1 (spot 0 0)
  answered_too_large_room h = rw (ap whole (lt-ltb largest_room room h), verdict)
