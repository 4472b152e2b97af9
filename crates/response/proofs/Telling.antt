-- What the calls return, from the verdict on the texts, from sizing and from the room. Assumes nothing.
use Prim.Native.Nat.{ℕ, zero, suc, ◌+◌, ◌≤◌, ◌<◌}
use native.Mathlib.Omega.{arith}
use mathlib.Core.Path.{◌≡◌, refl, sym, ap, ◌∙◌, subst}
use mathlib.Core.Bool.{Bool, true, false}
use mathlib.Core.List.{List, [], ◌∷◌, ◌++◌}
use Rattle.std.specs.Prelude.{Option, None, Some, Err}
use Rattle.rules.specs.declared.Refusal.{Refusal}
use lib.Dec.{leb}
use lib.ListN.{length, take, drop}
use borrow.Author.Tests.{lt-ltb, le-ltb, leb-true, leb-false, le-leb, lt-leb}
use Rattle.rules.specs.Search.{spot}
use Rattle.rules.specs.Tree.{Entry, siblings}
use Rattle.rules.specs.World.{World}
use Rattle.rules.specs.Eval.{eval}
use Rattle.rules.specs.Sizing.{start, visits, total, cap}
use Rattle.rules.specs.Answer.{Texts, query_rows, world_of, root_of, response}
use Rattle.rules.specs.Answer.{Numbered, checks, eval_checks, verdict, outcome, refused, told, sized, space, fitted, written}
use Rattle.rules.specs.Contract.{Passed}
use Rattle.rules.specs.declared.Spot.{Spot}
use Rattle.rules.specs.declared.Outcome.{Outcome}
use Rattle.rules.proofs.Clean.{Each, whole-none}
use Rattle.rules.proofs.Places.{passed-accepts}
use Rattle.rules.proofs.Outcomes.{checks_rise, sized-passed, accepted_exactly, answered-by_sizing, answered_too_large_room}
use Rattle.checks.specs.Verdict.{Verdict, accepted, judged, text_checks}
use Rattle.checks.proofs.Judging.{refusal, refused_as, judged-at, judged-past, judged-none as no-checks}
use Rattle.query.specs.Entries.{entries_at}
use Rattle.judge.specs.Texts.{Lent, too_short_of, Judged}
use Rattle.judge.proofs.Texts.{Long, long-areas}
use Rattle.sizing.specs.declared.Tally.{Tally}
use Rattle.sizing.specs.Measure.{measured}
use Rattle.evaluate.specs.Evaluate.{selected}
use Rattle.evaluate.specs.Write.{Room, Wrote}
use Rattle.response.specs.Calls.{any_short, sized_in, limited_in, answered_in, buffer_in, refused_by, Measured, Responded}
use Rattle.response.proofs.Passing.{rows_short, rows_long, texts-long, passed-all, judged-none}
use Rattle.response.proofs.Ready.{world_in, root_in, Readable, readable}

-- ---- the room

module _ (size room : ℕ) (buffer : List ℕ) where
  pub above_room : room < size → false ≡ leb size (space room buffer)
  above_room h = sym (lt-leb size (space room buffer) (omega arith))

  pub within-room : size ≤ room → leb size (length buffer) ≡ leb size (space room buffer)
  within-room h = go (leb size (length buffer)) refl
    where
      go : (b : Bool) → leb size (length buffer) ≡ b → leb size (length buffer) ≡ leb size (space room buffer)
      go true e = e ∙ sym (le-leb size (space room buffer) (omega (arith, leb-true size (length buffer) e)))
      go false e = e ∙ sym (lt-leb size (space room buffer) (omega (arith, leb-false size (length buffer) e)))

module _ (room : ℕ) (buffer : List ℕ) (o : Outcome) where
  abbrev k : ℕ
  k = space room buffer

  -- an outcome whose size exceeds the room, and one whose size does not
  pub limited : leb o.size k ≡ false → outcome 50 0 o.size o.visits ≡ limited_in room buffer o
  unfolding limited_in
  limited h = sym (rw (lt-ltb k o.size (leb-false o.size k h), fitted))

  pub unlimited : leb o.size k ≡ true → o ≡ limited_in room buffer o
  unfolding limited_in
  unlimited h = sym (rw (le-ltb k o.size (leb-true o.size k h), fitted))

  -- what is accepted in the room
  within-size : (limited_in room buffer o).number ≡ 0 → o.size ≤ k
  within-size = go (leb o.size k) refl
    where
      go : (b : Bool) → leb o.size k ≡ b → (limited_in room buffer o).number ≡ 0 → o.size ≤ k
      go true e z = leb-true o.size k e
      go false e z = absurd (omega (arith, ap (λ (u : Outcome). u.number) (limited e)))

  within_same : (limited_in room buffer o).number ≡ 0 → o ≡ limited_in room buffer o
  within_same z = unlimited (le-leb o.size k (within-size z))

-- ---- a refusal writes nothing

pub unwritten : (n : ℕ) (r buffer : List ℕ) → (n ≡ 0 → ⊥) → written n r buffer ≡ buffer
unwritten zero r buffer h = absurd (h refl)
unwritten (suc n) r buffer h = refl

-- ---- a refusal by the checks of the texts decides

verdict-past : (t : Outcome) (c : Numbered) (cs : List Numbered) → c.place ≡ None → verdict refused t (c ∷ cs) ≡ verdict refused t cs
verdict-past t c cs e = rw (e, verdict)

verdict-at : (t : Outcome) (c : Numbered) (cs : List Numbered) (p : Spot) → c.place ≡ Some p
    → verdict refused t (c ∷ cs) ≡ refused c.number p
verdict-at t c cs p e = rw (e, verdict)

abbrev shown_as : Refusal → Outcome
shown_as r = refused r.number r.spot

refused-front : (t : Outcome) (cs ds : List Numbered) (r : Refusal) → judged cs ≡ Err r → verdict refused t (cs ++ ds) ≡ shown_as r
refused-front t [] ds r h = absurd (refusal (sym h ∙ no-checks))
refused-front t (c ∷ cs) ds r h = go (λ k. refused-front t cs ds r k) c.place refl
  where
    go : (judged cs ≡ Err r → verdict refused t (cs ++ ds) ≡ shown_as r) → (o : Option Spot) → c.place ≡ o
        → verdict refused t (c ∷ (cs ++ ds)) ≡ shown_as r
    go ih None e = verdict-past t c (cs ++ ds) e ∙ ih (sym (judged-past c.number c.place cs e) ∙ h)
    go ih (Some p) e =
        verdict-at t c (cs ++ ds) p e ∙ ap shown_as (refused_as c.number p r (sym (judged-at c.number c.place cs p e) ∙ h))

-- ---- no check has the number 0

abbrev Positive : Numbered → Type 0
Positive c = 0 < c.number

numbered : (cs : List Numbered) (r : Refusal) → Each Positive cs → judged cs ≡ Err r → 0 < r.number
numbered [] r p h = absurd (refusal (sym h ∙ no-checks))
numbered (c ∷ cs) r p h = go (λ k. numbered cs r p.1 k) c.place refl
  where
    go : (judged cs ≡ Err r → 0 < r.number) → (o : Option Spot) → c.place ≡ o → 0 < r.number
    go ih None e = ih (sym (judged-past c.number c.place cs e) ∙ h)
    go ih (Some s) e =
        let said = refused_as c.number s r (sym (judged-at c.number c.place cs s e) ∙ h) in
        omega (arith, p.0, ap (λ (q : Refusal). q.number) said)

-- the numbers of the checks of the texts
numbers : (short : Bool) (x : Texts) → Each Positive (text_checks short x)
unfolding text_checks
numbers short x = (
  omega arith,
  (
    omega arith,
    (
      omega arith,
      (
        omega arith,
        (
          omega arith,
          (
            omega arith,
            (
              omega arith,
              (
                omega arith,
                (
                  omega arith,
                  (
                    omega arith,
                    (
                      omega arith,
                      (
                        omega arith,
                        (
                          omega arith,
                          (
                            omega arith,
                            (
                              omega arith,
                              (
                                omega arith,
                                (omega arith, (omega arith, (omega arith, (omega arith, (omega arith, tt))))),
                              ),
                            ),
                          ),
                        ),
                      ),
                    ),
                  ),
                ),
              ),
            ),
          ),
        ),
      ),
    ),
  ),
)

-- ---- sizing

-- what sizing gives, by the entries
abbrev tally_of : World → List Entry → ℕ → Tally
tally_of w es root =
    let vs = visits w (siblings es 0) (start w root) in
    record { size = cap (total w vs); visits = length vs }

module _ (x : Texts) (before after : Lent) (m : List ℕ) (o : Outcome) where
  -- an area of rows that is too short
  pub measured-short : length m < 8192 → o ≡ refused_by 2 → Measured x before after m o
  unfolding sized_in refused_by
  measured-short h e =
      record {
        is = e ∙ sym (ap (λ (b : Bool). sized b x) (rows_short before m h));
        held = λ z. absurd (omega (arith, ap (λ (u : Outcome). u.number) e));
      }

  module _ (v : Verdict) (j : Judged x before after v) (long : 8192 ≤ length m) where
    same-sized : sized_in before m x ≡ sized (too_short_of before) x
    unfolding sized_in
    same-sized = ap (λ (b : Bool). sized b x) (rows_long before m long)

    -- a refusal of the texts
    pub measured-refused : (r : Refusal) → v ≡ Err r → o ≡ shown_as r → Measured x before after m o
    unfolding text_checks
    measured-refused r h e =
        let cs = text_checks (too_short_of before) x in
        let said : judged cs ≡ Err r = sym j.is ∙ h in
        let first : sized (too_short_of before) x ≡ shown_as r = refused-front (told x) cs (eval_checks x) r said in
        record {
          is = e ∙ sym (same-sized ∙ first);
          held = λ z. absurd (omega (arith, numbered cs r (numbers (too_short_of before) x) said, ap (λ (u : Outcome). u.number) (sym e) ∙ z));
        }

    -- what the sizing of the tables gives
    module _ (z : v ≡ accepted) where
      abbrev ready : Readable x after
      ready = readable x before after v j z

      tallied : measured (world_in after) (entries_at after.query) (root_in after)
          ≡ measured (world_of x) (query_rows x) (root_of x)
      unfolding measured
      tallied = λ i. tally_of (ready.world i) (ready.entered i) (ready.start i)

      pub measured-told : (t : Tally)
          → t ≡ measured (world_in after) (entries_at after.query) (root_in after)
          → o ≡ outcome 0 0 t.size t.visits → Measured x before after m o
      unfolding measured
      measured-told t s e =
          let p = passed-all x before after v j z in
          let passing : sized (too_short_of before) x ≡ told x =
          passed-accepts refused (told x) 0 (checks (too_short_of before) x) (checks_rise (too_short_of before) x) p in
          record {
            is = e ∙ ap (λ (u : Tally). outcome 0 0 u.size u.visits) (s ∙ tallied) ∙ sym (same-sized ∙ passing);
            held = λ _. j.held z;
          }

-- ---- what is written from the head of the buffer on

from-head : (r buffer : List ℕ) → take 0 buffer ++ (r ++ drop (0 + length r) buffer) ≡ r ++ drop (length r) buffer
from-head r buffer =
    let same : 0 + length r ≡ length r = omega arith in
    ap (λ (n : ℕ). r ++ drop n buffer) same

-- ---- answering

module _ (x : Texts) (before : Lent) (m : List ℕ) (room : ℕ) (buffer : List ℕ) (o : Outcome) where
  refused_as_lem : o ≡ answered_in before m x room buffer → (o.number ≡ 0 → ⊥) → Responded x before m room buffer buffer o
  unfolding answered_in buffer_in
  refused_as_lem e h =
      record { is = e; left = sym (unwritten _ (response x) buffer (λ z. h (ap (λ (u : Outcome). u.number) e ∙ z))) }

  -- a room that is too large
  pub responded_large : 16384 < room → o ≡ refused_by 1 → Responded x before m room buffer buffer o
  unfolding answered_in refused_by
  responded_large h e =
      refused_as_lem (e ∙ sym (answered_too_large_room (any_short before m) x room buffer h)) (λ z. omega (arith, ap (λ (u : Outcome). u.number) e))

-- from the outcome of sizing
module _ (x : Texts) (before after : Lent) (m : List ℕ) (s : Outcome) (measures : Measured x before after m s)
    (room : ℕ) (buffer : List ℕ) (small : room ≤ 16384) (o : Outcome) (limits : o ≡ limited_in room buffer s) where
  answered-is : o ≡ answered_in before m x room buffer
  unfolding answered_in sized_in limited_in
  answered-is =
      limits ∙ ap (limited_in room buffer) measures.is ∙ sym (answered-by_sizing (any_short before m) x room buffer small)

  -- a refusal by the checks or for size
  pub responded_refused : (o.number ≡ 0 → ⊥) → Responded x before m room buffer buffer o
  responded_refused h = refused_as_lem x before m room buffer o answered-is h

  module _ (z : o.number ≡ 0) where
    within : (limited_in room buffer s).number ≡ 0
    within = ap (λ (u : Outcome). u.number) (sym limits) ∙ z

    sized-accepted : s.number ≡ 0
    sized-accepted = ap (λ (u : Outcome). u.number) (within_same room buffer s within) ∙ within

    passed : Passed (checks (any_short before m) x)
    unfolding sized_in
    passed = (accepted_exactly (any_short before m) x).0 (ap (λ (u : Outcome). u.number) (sym measures.is) ∙ sized-accepted)

    none-short : any_short before m ≡ false
    none-short = whole-none (any_short before m) (passed 2)

    -- the areas were long enough, and the tables can still be read
    pub still_long : Long before
    still_long = long-areas before (texts-long before m none-short)

    pub still_readable : Readable x after
    still_readable =
        let same : any_short before m ≡ too_short_of before = none-short ∙ sym (texts-long before m none-short) in
        let j : Judged x before after accepted =
        record {
          is = sym (judged-none (too_short_of before) x (subst (λ (b : Bool). Passed (checks b x)) same passed));
          held = λ _. measures.held sized-accepted;
        } in
        readable x before after accepted j refl

    -- the response is as long as the size says, for the room is below the cap
    response-fits : length (response x) ≤ length buffer
    unfolding sized_in
    response-fits =
        let e = measures.is ∙ sized-passed (any_short before m) x passed in
        let k : s.size ≡ cap (length (response x)) = ap (λ (u : Outcome). u.size) e in
        omega (arith, within-size room buffer s within)

    module _ (root : ℕ) (from : root ≡ root_in after) where
      abbrev tokens : List ℕ
      tokens = selected (world_in after) after.query 0 0 root

      selected-response : tokens ≡ response x
      unfolding selected
      selected-response = let y = still_readable in λ i. eval (y.world i) (siblings (y.entered i) 0) ((from ∙ y.start) i)

      pub has_room : Room buffer 0 tokens
      has_room = record { fits = omega (arith, ap length selected-response, response-fits) }

      pub responded_written : (left : List ℕ) (behind : ℕ) → Wrote buffer 0 tokens left behind → Responded x before m room buffer left o
      unfolding answered_in buffer_in
      responded_written left behind w =
          record {
            is = answered-is;
            left = w.content ∙ from-head tokens buffer ∙ ap (λ (r : List ℕ). r ++ drop (length r) buffer) selected-response
                ∙ sym (ap (λ (n : ℕ). written n (response x) buffer) (ap (λ (u : Outcome). u.number) (sym answered-is) ∙ z));
          }
