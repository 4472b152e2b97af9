-- Theorem 2: a refusal's number is the least that is offended, and its place the first line that offends. Assumes nothing.
use Prim.Native.Nat.{ℕ, zero, suc, ◌+◌, ◌≤◌, ◌<◌}
use native.Mathlib.Decide.{dec_lt}
use native.Mathlib.Omega.{arith}
use mathlib.Core.Path.{◌≡◌, refl, sym, ap, ap₂, ◌∙◌}
use mathlib.Core.Logic.{◌↔◌}
use mathlib.Core.Bool.{Bool, true, false, ◌&&◌}
use mathlib.Core.List.{List, [], ◌∷◌, reverse_aux}
use Rattle.std.specs.Prelude.{Option, None, Some}
use lib.Dec.{eqb, ltb}
use lib.ListN.{take, drop}
use borrow.Author.Tests.{eq-eqb, ne_eqb, eqb-true, ltb-true}
use Rattle.rules.specs.Search.{Check, fault, first_from, first_line, spot}
use Rattle.rules.specs.Answer.{Numbered, verdict}
use Rattle.rules.specs.Contract.{fault_in, fault_at, FirstLine, place_of, Passed, Least}
use Rattle.rules.specs.declared.Spot.{Spot}
use Rattle.rules.proofs.Bools.{some-none, and-true_left, and-true_right, some-same}

-- ---- the place: the first line that offends

module _ {A : Type 0} (check : Check A) where
  -- the fault of the line that has k of these lines before it, and `before` in front of them
  abbrev from : List A → List A → ℕ → Option ℕ
  from before rs k = fault_in check (reverse_aux (take k rs) before) (drop k rs)

  -- some line is the first that offends
  record Found (before : List A) (n : ℕ) (rs : List A) (p : Spot) : Type 0 where
    place : ℕ
    line : p.line ≡ n + place
    offends : from before rs place ≡ Some p.field
    clear : (j : ℕ) → j < place → from before rs j ≡ None

  found : (before : List A) (n : ℕ) (rs : List A) (p : Spot) → first_from check before n rs ≡ Some p → Found before n rs p
  found before n [] p h = absurd (some-none (sym h))
  found before n (r ∷ rs) p h = go (λ k. found (r ∷ before) (suc n) rs p k) (fault (check before r rs)) refl
    where
      go : (first_from check (r ∷ before) (suc n) rs ≡ Some p → Found (r ∷ before) (suc n) rs p)
          → (o : Option ℕ) → fault (check before r rs) ≡ o → Found before n (r ∷ rs) p
      go ih None e =
          let f = ih (rw (e, first_from) at h) in
          let clear : (j : ℕ) → j < suc f.place → from before (r ∷ rs) j ≡ None =
          elim [ zero ↦ λ _. e | suc j ↦ λ k. f.clear j (omega arith) ] in
          record { place = suc f.place; line = omega (arith, f.line); offends = f.offends; clear = clear }
      go ih (Some f) e =
          let q = some-same (spot n f) p (rw (e, first_from) at h) in
          record {
            place = 0;
            line = omega (arith, ap (λ (x : Spot). x.line) q);
            offends = e ∙ ap (λ (x : Spot). Some x.field) q;
            clear = λ j k. absurd (omega arith);
          }

  finds : (before : List A) (n : ℕ) (rs : List A) (k f : ℕ) → from before rs k ≡ Some f → ((j : ℕ) → j < k → from before rs j ≡ None)
      → first_from check before n rs ≡ Some (spot (n + k) f)
  finds before n [] zero f h c = absurd (some-none (sym h))
  finds before n [] (suc k) f h c = absurd (some-none (sym h))
  finds before n (r ∷ rs) zero f h c = rw (h, first_from) (ap (λ (x : ℕ). Some (spot x f)) (omega arith))
  finds before n (r ∷ rs) (suc k) f h c =
      rw (c 0 (omega arith), first_from)
      (finds (r ∷ before) (suc n) rs k f h (λ j l. c (suc j) (omega arith)) ∙ ap (λ (x : ℕ). Some (spot x f)) (omega arith))

  none_found : (before : List A) (n : ℕ) (rs : List A) → first_from check before n rs ≡ None → (k : ℕ) → from before rs k ≡ None
  none_found before n [] h zero = refl
  none_found before n [] h (suc k) = refl
  none_found before n (r ∷ rs) h k = go (λ l. none_found (r ∷ before) (suc n) rs l) (fault (check before r rs)) refl k
    where
      go : (first_from check (r ∷ before) (suc n) rs ≡ None → (j : ℕ) → from (r ∷ before) rs j ≡ None)
          → (o : Option ℕ) → fault (check before r rs) ≡ o → (j : ℕ) → from before (r ∷ rs) j ≡ None
      go ih None e zero = e
      go ih None e (suc j) = ih (rw (e, first_from) at h) j
      go ih (Some f) e j = absurd (some-none (rw (e, first_from) at h))

  clear_finds : (before : List A) (n : ℕ) (rs : List A) → ((k : ℕ) → from before rs k ≡ None) → first_from check before n rs ≡ None
  clear_finds before n [] c = refl
  clear_finds before n (r ∷ rs) c = rw (c 0, first_from) (clear_finds (r ∷ before) (suc n) rs (λ k. c (suc k)))

  -- The search gives p exactly when p is the first line that offends, with its field;
  pub place_is_first : (rs : List A) (p : Spot) → (first_line check rs ≡ Some p) ↔ FirstLine check rs p
  place_is_first rs p = (
    λ h. let f = found [] 1 rs p h in
        record { before = f.place; line = omega (arith, f.line); offends = f.offends; none_earlier = f.clear },
    λ f. finds [] 1 rs f.before p.field f.offends f.none_earlier
        ∙ ap (λ (x : ℕ). Some (spot x p.field)) (omega (arith, f.line)),
  )

  -- and nothing exactly when no line offends.
  pub nothing_offends : (rs : List A) → (first_line check rs ≡ None) ↔ ((k : ℕ) → fault_at check rs k ≡ None)
  nothing_offends rs = (λ h. none_found [] 1 rs h, λ c. clear_finds [] 1 rs c)

-- ---- the number: the least that is offended

-- the numbers of a list of checks rise, the first being above k
abbrev pub Rises : ℕ → List Numbered → Type 0
Rises k [] = Unit {0}
Rises k (c ∷ cs) = (k < c.number) × Rises c.number cs

-- the same as a test, which a list that is written out computes
abbrev pub rises : ℕ → List Numbered → Bool
rises k [] = true
rises k (c ∷ cs) = ltb k c.number && rises c.number cs

pub rising : (k : ℕ) (cs : List Numbered) → rises k cs ≡ true → Rises k cs
rising k [] h = tt
rising k (c ∷ cs) h = (
  ltb-true k c.number (and-true_left (ltb k c.number) (rises c.number cs) h),
  rising c.number cs (and-true_right (ltb k c.number) (rises c.number cs) h),
)

-- every check of the list passes
abbrev pub Passes : List Numbered → Type 0
Passes [] = Unit {0}
Passes (c ∷ cs) = (c.place ≡ None) × Passes cs

place_passes : (c : Numbered) (cs : List Numbered) (m : ℕ) → c.place ≡ None → place_of m cs ≡ None → place_of m (c ∷ cs) ≡ None
place_passes c cs m p q = go (eqb c.number m) refl
  where
    go : (b : Bool) → eqb c.number m ≡ b → place_of m (c ∷ cs) ≡ None
    go true e = rw (e, place_of) p
    go false e = rw (e, place_of) q

pub passes_at : (cs : List Numbered) → Passes cs → Passed cs
passes_at [] p n = refl
passes_at (c ∷ cs) p n = place_passes c cs n p.0 (passes_at cs p.1 n)

pub verdict-passes : {A : Type 0} (refuse : ℕ → Spot → A) (accepted : A) (cs : List Numbered) → Passes cs → verdict refuse accepted cs ≡ accepted
verdict-passes refuse accepted [] p = refl
verdict-passes refuse accepted (c ∷ cs) p = rw (p.0, verdict) (verdict-passes refuse accepted cs p.1)

-- a number that is not above k stands in no list whose numbers rise from k
not_above : (k : ℕ) (cs : List Numbered) → Rises k cs → (m : ℕ) → m ≤ k → place_of m cs ≡ None
not_above k [] r m h = refl
not_above k (c ∷ cs) r m h =
    rw (ne_eqb c.number m (λ e. omega (arith, r.0)), place_of) (not_above c.number cs r.1 m (omega (arith, r.0)))

place_here : (c : Numbered) (cs : List Numbered) → place_of c.number (c ∷ cs) ≡ c.place
place_here c cs = rw (eq-eqb c.number c.number refl, place_of)

place_later : (c : Numbered) (cs : List Numbered) (n : ℕ) → c.number < n → place_of n (c ∷ cs) ≡ place_of n cs
place_later c cs n h = rw (ne_eqb c.number n (λ e. omega arith), place_of)

-- an offended check is above where the numbers begin
pub offended_above : (k : ℕ) (cs : List Numbered) → Rises k cs → (n : ℕ) (p : Spot) → place_of n cs ≡ Some p → k < n
offended_above k cs r n p h = go (dec_lt k n)
  where
    go : Dec (k < n) → k < n
    go (yes l) = l
    go (no l) = absurd (some-none (sym h ∙ not_above k cs r n (omega arith)))

-- what passes a list passes it without its first check
pub passed-tail : (k : ℕ) (c : Numbered) (cs : List Numbered) → Rises k (c ∷ cs) → Passed (c ∷ cs) → Passed cs
passed-tail k c cs r h n = go (eqb c.number n) refl
  where
    go : (b : Bool) → eqb c.number n ≡ b → place_of n cs ≡ None
    go true e = not_above c.number cs r.1 n (omega (arith, eqb-true c.number n e))
    go false e = rw (e, place_of) at (h n)

-- no two numbers are the least that is offended, and none has two places
least_less : (cs : List Numbered) (n m : ℕ) (p q : Spot) → Least cs n p → Least cs m q → n < m → ⊥
least_less cs n m p q a b h = some-none (sym a.offended ∙ b.none_less n h)

least_number : (cs : List Numbered) (n m : ℕ) (p q : Spot) → Least cs n p → Least cs m q → n ≡ m
least_number cs n m p q a b = go (dec_lt n m) (dec_lt m n)
  where
    go : Dec (n < m) → Dec (m < n) → n ≡ m
    go (yes h) k = absurd (least_less cs n m p q a b h)
    go (no h) (yes k) = absurd (least_less cs m n q p b a k)
    go (no h) (no k) = omega arith

least_place : (cs : List Numbered) (n m : ℕ) (p q : Spot) → Least cs n p → Least cs m q → p ≡ q
least_place cs n m p q a b =
    some-same p q (sym a.offended ∙ ap (λ (x : ℕ). place_of x cs) (least_number cs n m p q a b) ∙ b.offended)

-- The verdict: every check passes and it is what an accepted call shows, or one is the least that is offended and it refuses by that.
pub data Decided {A : Type 0} (refuse : ℕ → Spot → A) (accepted : A) (cs : List Numbered) : Type 0 where
  passed : Passes cs → Decided refuse accepted cs
  refused : (n : ℕ) (p : Spot) → Least cs n p → verdict refuse accepted cs ≡ refuse n p → Decided refuse accepted cs

module _ {A : Type 0} (refuse : ℕ → Spot → A) (accepted : A) where
  pub decided : (k : ℕ) (cs : List Numbered) → Rises k cs → Decided refuse accepted cs
  decided k [] r = passed tt
  decided k (c ∷ cs) r = go (decided c.number cs r.1) c.place refl
    where
      later : c.place ≡ None → Decided refuse accepted cs → Decided refuse accepted (c ∷ cs)
      later e (passed ps) = passed (e, ps)
      later e (refused n p l v) =
          let above = offended_above c.number cs r.1 n p l.offended in
          refused n p
          (record { offended = place_later c cs n above ∙ l.offended; none_less = λ m h. place_passes c cs m e (l.none_less m h) })
          (rw (e, verdict) v)

      go : Decided refuse accepted cs → (o : Option Spot) → c.place ≡ o → Decided refuse accepted (c ∷ cs)
      go ih None e = later e ih
      go ih (Some p) e =
          refused c.number p
          (record {
            offended = place_here c cs ∙ e;
            none_less = λ m h. rw (ne_eqb c.number m (λ q. omega arith), place_of) (not_above c.number cs r.1 m (omega arith));
          })
          (rw (e, verdict))

  -- the two cases exclude each other, so either direction follows
  pub least_refuses : (k : ℕ) (cs : List Numbered) → Rises k cs → (n : ℕ) (p : Spot) → Least cs n p → verdict refuse accepted cs ≡ refuse n p
  least_refuses k cs r n p l = go (decided k cs r)
    where
      go : Decided refuse accepted cs → verdict refuse accepted cs ≡ refuse n p
      go (passed ps) = absurd (some-none (sym l.offended ∙ passes_at cs ps n))
      go (refused m q l' v) = v ∙ ap₂ (λ (x : ℕ) (y : Spot). refuse x y) (least_number cs m n q p l' l) (least_place cs m n q p l' l)

  pub passed-accepts : (k : ℕ) (cs : List Numbered) → Rises k cs → Passed cs → verdict refuse accepted cs ≡ accepted
  passed-accepts k cs r h = go (decided k cs r)
    where
      go : Decided refuse accepted cs → verdict refuse accepted cs ≡ accepted
      go (passed ps) = verdict-passes refuse accepted cs ps
      go (refused n p l v) = absurd (some-none (sym l.offended ∙ h n))
