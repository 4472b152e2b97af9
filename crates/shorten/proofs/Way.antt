-- The pass over the full response, with the rests of the shortened one themselves for their places. Assumes nothing.
use mathlib.Core.Path.{◌≡◌}
use mathlib.Core.Bool.{Bool, true, false, cond}
use mathlib.Core.List.{List, [], ◌∷◌, ◌++◌, append_assoc}
use Prim.Native.Nat.{ℕ, suc}
use lib.ListN.{length, drop}
use lib.Dec.{ltb}
use Rattle.rules.specs.Lists.{is_empty}
use Rattle.shorten.specs.Pass.{side_of, hits, most_brackets, found, strike_of}
use Rattle.shorten.specs.declared.Mode.{Mode}
use Rattle.shorten.specs.declared.Mode.TheVariants.{InBoth, Labelled, Striking}
use Rattle.shorten.specs.declared.Side.{Side}
use Rattle.shorten.specs.declared.Side.TheVariants.{Plain, Named, Opener, Closer}

-- The pass on its way: the mode, what is left of the shortened response, and where to go back to for each open bracket that stands in
-- both, the innermost first.
pub record Way : Type 0 where
  pub mode : Mode
  pub left : List ℕ
  pub saved : List (List ℕ)

abbrev pub way : Mode → List ℕ → List (List ℕ) → Way
way m s st = record { mode = m; left = s; saved = st }

abbrev pub back_to : List ℕ → List (List ℕ) → List ℕ
back_to s [] = s
back_to s (t ∷ st) = t

abbrev pub outer : List (List ℕ) → List (List ℕ)
outer [] = []
outer (t ∷ st) = st

-- A value or null that the rest does not have: a content is another, or a list of values is.
abbrev pub missed : Mode → List ℕ → List (List ℕ) → List ℕ
missed InBoth s st = back_to s st
missed Labelled s st = s
missed (Striking k) s st = s

-- One turn where nothing is being struck out, and any turn.
abbrev pub live : Side → Bool → Mode → List ℕ → List (List ℕ) → Way
live Plain true m s st = way InBoth (drop (suc (found m)) s) st
live Plain false m s st = way InBoth (missed m s st) st
live Named true m s st = way Labelled s st
live Named false m s st = way (Striking 0) s st
live Opener true m s st = cond (ltb (length st) most_brackets) (way InBoth (drop (suc (found m)) s) (s ∷ st)) (way (Striking 1) s st)
live Opener false m s st = way (Striking 1) s st
live Closer true m s st = way InBoth (drop (suc (found m)) s) (outer st)
live Closer false m s st = way InBoth (back_to s st) (outer st)

abbrev pub turned : Side → Bool → Mode → List ℕ → List (List ℕ) → Way
turned d b InBoth s st = live d b InBoth s st
turned d b Labelled s st = live d b Labelled s st
turned d b (Striking k) s st = way (strike_of d k) s st

-- What is left of the shortened response.
unfoldable pub pass : List ℕ → Way → List ℕ
pass [] w = w.left
pass (x ∷ f) w = pass f (turned (side_of x) (hits x (drop (found w.mode) w.left)) w.mode w.left w.saved)

abbrev pub passes : List ℕ → List ℕ → Bool
passes f s = is_empty (pass f (way InBoth s []))

-- one token
pub step : (x : ℕ) (f : List ℕ) (m : Mode) (s : List ℕ) (st : List (List ℕ)) (d : Side) (b : Bool) → side_of x ≡ d
    → hits x (drop (found m) s) ≡ b → pass (x ∷ f) (way m s st) ≡ pass f (turned d b m s st)
unfolding pass
step x f m s st d b p q = rw (p, q)

pub regroup : (a b f : List ℕ) (w : Way) → pass ((a ++ b) ++ f) w ≡ pass (a ++ (b ++ f)) w
regroup a b f w = rw append_assoc
