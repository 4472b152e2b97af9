-- An accepted verdict on the texts passes every check, that of the evaluation too, and the other way round. Assumes nothing.
use Prim.Native.Nat.{ℕ, ◌≤◌, ◌<◌}
use mathlib.Core.Path.{◌≡◌, refl, sym, ap, ◌∙◌}
use mathlib.Core.Bool.{Bool, true, false, ◌||◌, or-true, or-false}
use mathlib.Core.List.{List, [], ◌∷◌, ◌++◌}
use lib.Dec.{ltb}
use lib.ListN.{length}
use borrow.Author.Tests.{lt-ltb, le-ltb}
use Rattle.rules.specs.Lists.{any}
use Rattle.rules.specs.Search.{whole}
use Rattle.rules.specs.Answer.{Texts, Area, schema_in, graph_rows, tree_of, root_of, checks, eval_checks}
use Rattle.rules.specs.Contract.{Passed}
use Rattle.rules.proofs.Bools.{or_left}
use Rattle.rules.proofs.Clean.{each_append, whole-none}
use Rattle.rules.proofs.Places.{passes_at, verdict-passes}
use Rattle.rules.proofs.Single.{no_fork_met}
use Rattle.checks.specs.Verdict.{Verdict, accepted, refused_by, judged, text_checks}
use Rattle.judge.specs.Texts.{Lent, work_areas, too_short_of, Judged}
use Rattle.judge.proofs.Texts.{Passes, Long, long-areas, accepted-passes}
use Rattle.response.specs.Calls.{areas_of, any_short}

-- what holds of the first of several, and what holds of those behind it
infixr 20 ◌then◌
abbrev pub ◌then◌ : {A B : Type 0} → A → B → A × B
a then b = (a, b)

-- ---- 2: the area of the rows is looked at beside those of the texts

any_last : (p : Area → Bool) (xs : List Area) (y : Area) → any p (xs ++ (y ∷ [])) ≡ (any p xs || p y)
any_last p [] y = or-false (p y)
any_last p (x ∷ xs) y = go (any_last p xs y) (p x)
  where
    go : any p (xs ++ (y ∷ [])) ≡ (any p xs || p y) → (b : Bool) → (b || any p (xs ++ (y ∷ []))) ≡ ((b || any p xs) || p y)
    go ih true = refl
    go ih false = ih

module _ (w : Lent) (m : List ℕ) where
  any-short : any_short w m ≡ (too_short_of w || ltb (length m) 8192)
  unfolding any_short areas_of too_short_of
  any-short = any_last _ (work_areas w) _

  pub rows_short : length m < 8192 → any_short w m ≡ true
  rows_short h = any-short ∙ ap (λ (b : Bool). too_short_of w || b) (lt-ltb (length m) 8192 h) ∙ or-true (too_short_of w)

  pub rows_long : 8192 ≤ length m → any_short w m ≡ too_short_of w
  rows_long h = any-short ∙ ap (λ (b : Bool). too_short_of w || b) (le-ltb (length m) 8192 h) ∙ or-false (too_short_of w)

  pub texts-long : any_short w m ≡ false → too_short_of w ≡ false
  texts-long h = or_left (too_short_of w) (ltb (length m) 8192) (sym any-short ∙ h)

-- ---- from a verdict to the checks

module _ (x : Texts) (before after : Lent) (v : Verdict) (j : Judged x before after v) (z : v ≡ accepted) where
  -- 40 is never offended: 25 and 26 are passed
  pub passed-all : Passed (checks (too_short_of before) x)
  unfolding text_checks
  passed-all =
      let e = accepted-passes x before after v j z in
      let p : Passed (text_checks (too_short_of before) x) = passes_at (text_checks (too_short_of before) x) e in
      let met = no_fork_met (schema_in x) (graph_rows x) (p 25) (p 26) (tree_of x) (root_of x) in
      passes_at (checks (too_short_of before) x)
      (each_append Passes (text_checks (too_short_of before) x) (eval_checks x) e (ap whole met, tt))

  pub areas-long : Long before
  areas-long = long-areas before (whole-none (too_short_of before) (passed-all 2))

-- ---- and back

pub judged-none : (short : Bool) (x : Texts) → Passed (checks short x) → judged (text_checks short x) ≡ accepted
unfolding judged text_checks
judged-none short x p =
    verdict-passes refused_by accepted (text_checks short x)
    (p 2
    then p 10 then p 11 then p 12 then p 13 then p 14 then p 15 then p 16
    then p 20 then p 21 then p 22 then p 23 then p 24 then p 25 then p 26 then p 27
    then p 30 then p 31 then p 32 then p 33 then p 34 then tt)
