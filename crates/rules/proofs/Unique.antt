-- Theorem 6: the definitions meet the contract's words, and whatever meets them is identical. Assumes nothing.
use Prim.Native.Nat.{ℕ, zero, suc, ◌≤◌, ◌<◌}
use native.Mathlib.Decide.{dec_lt}
use native.Mathlib.Omega.{arith}
use mathlib.Core.Path.{◌≡◌, refl, sym, ap, ap₂, ◌∙◌, subst}
use mathlib.Core.Logic.{inl, inr}
use mathlib.Core.List.{List, [], ◌∷◌, ◌++◌}
use lib.ListN.{length, drop, take-append-drop, length-append, length-drop, length-replicate, get_or-replicate}
use lib.Seq.{ext_get_or, take-append_seam, drop-append_seam}
use Rattle.rules.specs.Sizing.{cap}
use Rattle.rules.specs.Answer.{Texts, response, answer_checks, sized, answered, written, buffer_after, space, Area, too_short, zeroed, areas_after, outcome}
use Rattle.rules.specs.Contract.{Least, Shows, Exact, Exceeds, Fits, Written, Zeros, AllZeros, Sizes, Answers}
use Rattle.rules.specs.declared.Spot.{Spot}
use Rattle.rules.specs.declared.Outcome.{Outcome}
use Rattle.rules.proofs.Places.{offended_above}
use Rattle.rules.proofs.Outcomes.{answer-checks_rise, SizeCase, size-case, sized-passed, sized-refuses, AnswerCase, answer-case, answered-fits, answered-exceeds, answered-refuses}
use Rattle.rules.proofs.Outcomes.SizeCase.{accepts as sizes, refuses as refusesSize}
use Rattle.rules.proofs.Outcomes.AnswerCase.{accepts as fits, overflows, refuses as refusesAnswer}

-- ---- the parts

shows : {o : Outcome} (n p k v : ℕ) → o ≡ outcome n p k v → Shows o n p k v
shows n p k v e =
    record {
      number = ap (λ (x : Outcome). x.number) e;
      place = ap (λ (x : Outcome). x.place) e;
      size = ap (λ (x : Outcome). x.size) e;
      visits = ap (λ (x : Outcome). x.visits) e;
    }

same_outcome : (o o' : Outcome) (n p k v : ℕ) → Shows o n p k v → Shows o' n p k v → o ≡ o'
same_outcome o o' n p k v a b =
    λ i. record {
      number = (a.number ∙ sym b.number) i;
      place = (a.place ∙ sym b.place) i;
      size = (a.size ∙ sym b.size) i;
      visits = (a.visits ∙ sym b.visits) i;
    }

same_size : {o : Outcome} {n p k j v : ℕ} → k ≡ j → Shows o n p k v → Shows o n p j v
same_size e h = record { number = h.number; place = h.place; size = h.size ∙ e; visits = h.visits }

exact : (n : ℕ) → Exact n (cap n)
exact n = record { upto = λ h. omega arith; above = λ h. omega arith }

same-exact : (n k j : ℕ) → Exact n k → Exact n j → k ≡ j
same-exact n k j a b = go (dec_lt 1000000 n)
  where
    go : Dec (1000000 < n) → k ≡ j
    go (yes h) = a.above h ∙ sym (b.above h)
    go (no h) = a.upto (omega arith) ∙ sym (b.upto (omega arith))

fits-space : (n room : ℕ) (buffer : List ℕ) → Fits n room buffer → n ≤ space room buffer
fits-space n room buffer f = omega (arith, f.given, f.held)

exceeds-space : (n room : ℕ) (buffer : List ℕ) → Exceeds n room buffer → space room buffer < n
exceeds-space n room buffer (inl h) = omega arith
exceeds-space n room buffer (inr h) = omega arith

space-exceeds : (n room : ℕ) (buffer : List ℕ) → space room buffer < n → Exceeds n room buffer
space-exceeds n room buffer h = go (dec_lt room n)
  where
    go : Dec (room < n) → Exceeds n room buffer
    go (yes k) = inl k
    go (no k) = inr (omega arith)

is-written : (r buffer : List ℕ) → Written r buffer (r ++ drop (length r) buffer)
is-written r buffer = record { front = take-append_seam r (drop (length r) buffer); rest = drop-append_seam r (drop (length r) buffer) }

same-buffer : (r buffer a b : List ℕ) → Written r buffer a → Written r buffer b → a ≡ b
same-buffer r buffer a b p q =
    sym (take-append-drop (length r) a)
    ∙ ap₂ (λ (x y : List ℕ). x ++ y) (p.front ∙ sym q.front) (p.rest ∙ sym q.rest)
    ∙ take-append-drop (length r) b

is-zeros : (a : List ℕ) → Zeros a (zeroed a)
is-zeros a =
    record {
      long = length-replicate (length a) 0;
      zero = λ i h. get_or-replicate (length a) i 0 0 (omega (arith, length-replicate (length a) (zero)));
    }

all-zeros : (areas : List Area) → AllZeros areas (areas_after areas)
all-zeros [] = tt
all-zeros (a ∷ more) = (is-zeros a.held, all-zeros more)

same-zeros : (a b c : List ℕ) → Zeros a b → Zeros a c → b ≡ c
same-zeros a b c p q =
    ext_get_or 0 b c (p.long ∙ sym q.long) (λ i h. p.zero i h ∙ sym (q.zero i (omega (arith, p.long, q.long))))

same-areas : (areas : List Area) (bs cs : List (List ℕ)) → AllZeros areas bs → AllZeros areas cs → bs ≡ cs
same-areas [] [] [] p q = refl
same-areas [] [] (c ∷ cs) p q = absurd q
same-areas [] (b ∷ bs) cs p q = absurd p
same-areas (a ∷ more) [] cs p q = absurd p
same-areas (a ∷ more) (b ∷ bs) [] p q = absurd q
same-areas (a ∷ more) (b ∷ bs) (c ∷ cs) p q =
    ap₂ (λ (x : List ℕ) (xs : List (List ℕ)). x ∷ xs) (same-zeros a.held b c p.0 q.0) (same-areas more bs cs p.1 q.1)

-- ---- sizing

module _ (areas : List Area) (x : Texts) where
  -- The definition of sizing meets the words,
  pub sizing_meets : Sizes areas x (sized (too_short areas) x) (areas_after areas)
  sizing_meets =
      record {
        accepts = λ p. (cap (length (response x)), exact (length (response x)), shows _ _ _ _ (sized-passed (too_short areas) x p));
        refuses = λ n p l. shows _ _ _ _ (sized-refuses (too_short areas) x n p l);
        clears = all-zeros areas;
      }

  -- and whatever meets them is the same.
  pub sizing_unique : (o o' : Outcome) (as' as'' : List (List ℕ)) → Sizes areas x o as' → Sizes areas x o' as'' → (o ≡ o') × (as' ≡ as'')
  sizing_unique o o' as' as'' a b = (go (size-case (too_short areas) x), same-areas areas as' as'' a.clears b.clears)
    where
      go : SizeCase (too_short areas) x → o ≡ o'
      go (sizes p e) =
          let u = a.accepts p in
          let v = b.accepts p in
          same_outcome o o' _ _ _ _ u.2 (same_size (same-exact (length (response x)) v.0 u.0 v.1 u.1) v.2)
      go (refusesSize n p l above e) = same_outcome o o' _ _ _ _ (a.refuses n p l) (b.refuses n p l)

-- ---- answering

module _ (areas : List Area) (x : Texts) (room : ℕ) (buffer : List ℕ) where
  abbrev result : Outcome
  result = answered (too_short areas) x room buffer

  refused_above : (n : ℕ) (p : Spot) → Least (answer_checks (too_short areas) x room) n p → 0 < n
  refused_above n p l =
      offended_above 0 (answer_checks (too_short areas) x room) (answer-checks_rise (too_short areas) x room buffer) n p l.offended

  unchanged : (n p k v : ℕ) → 0 < n → result ≡ outcome n p k v → buffer_after (too_short areas) x room buffer ≡ buffer
  unchanged zero p k v h e = absurd (omega arith)
  unchanged (suc n) p k v h e = ap (λ (o : Outcome). written o.number (response x) buffer) e

  changed : (p k v : ℕ) → result ≡ outcome 0 p k v → buffer_after (too_short areas) x room buffer ≡ response x ++ drop (length (response x)) buffer
  changed p k v e = ap (λ (o : Outcome). written o.number (response x) buffer) e

  -- The definition of answering meets the words,
  pub answering_meets : Answers areas x room buffer result (buffer_after (too_short areas) x room buffer) (areas_after areas)
  answering_meets =
      record {
        accepts = λ p f.
            let e = answered-fits (too_short areas) x room buffer p (fits-space (length (response x)) room buffer f) in
            (shows _ _ _ _ e, subst (Written (response x) buffer) (sym (changed _ _ _ e)) (is-written (response x) buffer));
        too_large = λ p l.
            let e = answered-exceeds (too_short areas) x room buffer p (exceeds-space (length (response x)) room buffer l) in
            (cap (length (response x)), exact (length (response x)), shows _ _ _ _ e, unchanged 50 _ _ _ (omega arith) e);
        refuses = λ n p l.
            let e = answered-refuses (too_short areas) x room buffer n p l in
            (shows _ _ _ _ e, unchanged n _ _ _ (refused_above n p l) e);
        clears = all-zeros areas;
      }

  -- and whatever meets them is the same: the outcome, the response buffer, the work areas.
  pub answering_unique : (o o' : Outcome) (b b' : List ℕ) (as' as'' : List (List ℕ)) → Answers areas x room buffer o b as'
      → Answers areas x room buffer o' b' as'' → (o ≡ o') × (b ≡ b') × (as' ≡ as'')
  answering_unique o o' b b' as' as'' a c =
      let r = go (answer-case (too_short areas) x room buffer) in
      (r.0, r.1, same-areas areas as' as'' a.clears c.clears)
    where
      go : AnswerCase (too_short areas) x room buffer → (o ≡ o') × (b ≡ b')
      go (fits p l e) =
          let f : Fits (length (response x)) room buffer = record { given = omega arith; held = omega arith } in
          let u = a.accepts p f in
          let v = c.accepts p f in
          (same_outcome o o' _ _ _ _ u.0 v.0, same-buffer (response x) buffer b b' u.1 v.1)
      go (overflows p l e) =
          let u = a.too_large p (space-exceeds (length (response x)) room buffer l) in
          let v = c.too_large p (space-exceeds (length (response x)) room buffer l) in
          (same_outcome o o' _ _ _ _ u.2 (same_size (same-exact (length (response x)) v.0 u.0 v.1 u.1) v.2), u.3 ∙ sym v.3)
      go (refusesAnswer n p l above e) =
          let u = a.refuses n p l in
          let v = c.refuses n p l in
          (same_outcome o o' _ _ _ _ u.0 v.0, u.1 ∙ sym v.1)

  -- The response buffer keeps its length: no token is written past its end.
  pub buffer-length : length (buffer_after (too_short areas) x room buffer) ≡ length buffer
  buffer-length = go (answer-case (too_short areas) x room buffer)
    where
      go : AnswerCase (too_short areas) x room buffer → length (buffer_after (too_short areas) x room buffer) ≡ length buffer
      go (fits p l e) =
          ap length (changed _ _ _ e)
          ∙ length-append (response x) (drop (length (response x)) buffer)
          ∙ omega (arith, length-drop (length (response x)) buffer)
      go (overflows p l e) = ap length (unchanged 50 _ _ _ (omega arith) e)
      go (refusesAnswer n p l above e) = ap length (unchanged n _ _ _ above e)
