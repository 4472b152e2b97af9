-- The verdict on a list of checks, check by check: what the code's answers say of the first check that is offended. Assumes nothing.
use Prim.Native.Nat.{ℕ, ◌≤◌, ◌<◌}
use native.Mathlib.Omega.{arith}
use mathlib.Core.Path.{◌≡◌, refl, sym, ◌∙◌}
use mathlib.Core.Bool.{true, false, true≢false}
use mathlib.Core.List.{List, [], ◌∷◌, ◌++◌, map}
use Rattle.std.specs.Prelude.{Option, None, Some, Err}
use borrow.Author.Tests.{lt-ltb, le-ltb, ne_eqb}
use Rattle.rules.specs.Text.{Row}
use Rattle.rules.specs.Search.{Check, first_line}
use Rattle.rules.specs.Answer.{Numbered, ◌by◌, verdict}
use Rattle.rules.specs.declared.Spot.{Spot}
use Rattle.rules.proofs.Bools.{or-false}
use Rattle.rules.proofs.Clean.{Each}
use Rattle.search.specs.Search.{Areas, SchemaReady, GraphReady, Ready, IndexReady, plain_check, indexed}
use Rattle.rules.specs.declared.Refusal.{Refusal}
use Rattle.checks.specs.Verdict.{Verdict, refused_by, accepted, judged}

-- ---- the first check of a list

pub judged-at : (n : ℕ) (o : Option Spot) (cs : List Numbered) (p : Spot) → o ≡ Some p → judged (n by o ∷ cs) ≡ refused_by n p
unfolding judged
judged-at n o cs p e = rw (e, verdict)

pub judged-past : (n : ℕ) (o : Option Spot) (cs : List Numbered) → o ≡ None → judged (n by o ∷ cs) ≡ judged cs
unfolding judged
judged-past n o cs e = rw (e, verdict)

pub judged-none : judged [] ≡ accepted
unfolding judged
judged-none = refl

-- a refusal is no acceptance
pub refusal : {r : Refusal} → Path Verdict (Err r) accepted → ⊥
refusal h = cc

pub no_refusal : (n : ℕ) (p : Spot) → refused_by n p ≡ accepted → ⊥
unfolding refused_by
no_refusal n p h = cc

pub refused_as : (n : ℕ) (p : Spot) (r : Refusal) → refused_by n p ≡ Err r → record { number = n; spot = p } ≡ r
unfolding refused_by
refused_as n p r h = cc

-- ---- one check, and those behind it

module _ (n : ℕ) (o : Option Spot) (cs : List Numbered) where
  -- a refusal by the first decides
  pub stops : {r : Refusal} → judged (n by o ∷ []) ≡ Err r → judged (n by o ∷ cs) ≡ Err r
  stops {r} h = go o refl
    where
      go : (q : Option Spot) → o ≡ q → judged (n by o ∷ cs) ≡ Err r
      go None e = let z = sym (judged-past n o [] e ∙ judged-none) ∙ h in cc
      go (Some s) e = judged-at n o cs s e ∙ sym (judged-at n o [] s e) ∙ h

  -- where the first is passed, the others decide
  pub goes_on : judged (n by o ∷ []) ≡ accepted → judged (n by o ∷ cs) ≡ judged cs
  goes_on h = go o refl
    where
      go : (q : Option Spot) → o ≡ q → judged (n by o ∷ cs) ≡ judged cs
      go None e = judged-past n o cs e
      go (Some s) e = absurd (no_refusal n s (sym (judged-at n o [] s e) ∙ h))

-- ---- two lists of checks

abbrev pub Passes : Numbered → Type 0
Passes c = c.place ≡ None

-- an acceptance says that every check is passed
pub passed : (cs : List Numbered) → judged cs ≡ accepted → Each Passes cs
passed [] h = tt
passed (c ∷ cs) h = go (λ k. passed cs k) c.place refl
  where
    go : (judged cs ≡ accepted → Each Passes cs) → (o : Option Spot) → c.place ≡ o → Each Passes (c ∷ cs)
    go rest None e = (e, rest (sym (judged-past c.number c.place cs e) ∙ h))
    go rest (Some s) e = absurd (no_refusal c.number s (sym (judged-at c.number c.place cs s e) ∙ h))

-- a refusal by the first list decides
pub front : (cs ds : List Numbered) → (judged cs ≡ accepted → ⊥) → judged (cs ++ ds) ≡ judged cs
front [] ds h = absurd (h judged-none)
front (c ∷ cs) ds h = go (λ k. front cs ds k) c.place refl
  where
    go : ((judged cs ≡ accepted → ⊥) → judged (cs ++ ds) ≡ judged cs) → (o : Option Spot) → c.place ≡ o
        → judged (c ∷ (cs ++ ds)) ≡ judged (c ∷ cs)
    go rest None e =
        let past = judged-past c.number c.place cs e in
        judged-past c.number c.place (cs ++ ds) e ∙ rest (λ z. h (past ∙ z)) ∙ sym past
    go rest (Some s) e = judged-at c.number c.place (cs ++ ds) s e ∙ sym (judged-at c.number c.place cs s e)

-- where the first list is passed, the second decides
pub behind : (cs ds : List Numbered) → Each Passes cs → judged (cs ++ ds) ≡ judged ds
behind [] ds h = refl
behind (c ∷ cs) ds h = judged-past c.number c.place (cs ++ ds) h.0 ∙ behind cs ds h.1

-- ---- search after search

-- The verdict w is that on the searches for the checks with these numbers, and on the checks behind them.
pub record Left (check : ℕ → Check Row) (rs : List Row) (last : List Numbered) (w : Verdict) (ns : List ℕ) : Type 0 where
  pub is : w ≡ judged (map (λ n. n by first_line (check n) rs) ns ++ last)

module _ {check : ℕ → Check Row} {rs : List Row} {last : List Numbered} {w : Verdict} {n : ℕ} {ns : List ℕ}
    (left : Left check rs last w (n ∷ ns)) {v : Verdict} (found : v ≡ judged (n by first_line (check n) rs ∷ [])) where
  -- the first check that is offended decides
  pub stop : {r : Refusal} → v ≡ Err r → Err r ≡ w
  stop h = sym (left.is ∙ stops n (first_line (check n) rs) _ (sym found ∙ h))

  -- a check that is passed is struck off
  pub pass : v ≡ accepted → Left check rs last w ns
  pass h = record { is = left.is ∙ goes_on n (first_line (check n) rs) _ (sym found ∙ h) }

-- ---- what the search may be asked

pub ready-plain : (n : ℕ) (rs : List Row) (x : Areas) → plain_check n ≡ true → Ready n rs x
unfolding Ready
ready-plain n rs x h = (λ q. absurd (true≢false (sym h ∙ q)), λ q. absurd (true≢false (sym h ∙ q)))

-- a check that does not walk the index asks nothing of it
pub not-indexed : (n : ℕ) (g p i : List ℕ) → indexed n ≡ false → IndexReady n g p i
not-indexed n g p i h = record { linked = λ q. absurd (true≢false (sym q ∙ h)) }

pub low-checks : (n : ℕ) → n < 20 → indexed n ≡ false
unfolding indexed
low-checks n h =
    or-false (ne_eqb n 25 (λ q. omega arith)) (ne_eqb n 26 (λ q. omega arith))

-- what the search for a check asks, of the schema's checks and of the graph's
pub schema_ready : (n : ℕ) (rs : List Row) (x : Areas) → n < 20 → SchemaReady rs x → Ready n rs x
unfolding Ready
schema_ready n rs x h r = let low = lt-ltb n 20 h in (λ _ _. r, λ _ q. absurd (true≢false (sym low ∙ q)))

pub graph_ready : (n : ℕ) (rs : List Row) (x : Areas) → 20 ≤ n → GraphReady rs x → Ready n rs x
unfolding Ready
graph_ready n rs x h r = let high = le-ltb n 20 h in (λ _ q. absurd (true≢false (sym q ∙ high)), λ _ _. r)
