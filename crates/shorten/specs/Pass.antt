-- The pass over the full response as the code makes it, one token after another, and its turns; `proofs/Passes` shows that nothing is
-- left exactly when the second response is made from the first. Assumes nothing.
use Rattle.std.specs.Prelude.{Bool, false, cond, List, [], ◌∷◌, ℕ, zero, suc, ◌+◌, ◌-◌, eqb, ltb, Option, Some, None}
use Rattle.std.specs.Option.{unwrap_or}
use Rattle.rules.specs.Eval.{open_object, close_object, open_list, close_list}
use Rattle.tokens.specs.Check.{is_label}
use Rattle.shorten.specs.declared.Mode.{Mode}
use Rattle.shorten.specs.declared.Mode.TheVariants.{InBoth, Labelled, Striking}
use Rattle.shorten.specs.declared.Side.{Side}
use Rattle.shorten.specs.declared.Side.TheVariants.{Plain, Named, Opener, Closer}
use Rattle.shorten.specs.declared.Stand.{Stand}

-- What a token is to the pass: a label, the beginning or the end of a bracket, or a value or null.
unfoldable pub side_of : ℕ → Side
side_of x =
    cond (is_label x) Named
    (cond (eqb x open_object) Opener
    (cond (eqb x open_list) Opener
    (cond (eqb x close_object) Closer
    (cond (eqb x close_list) Closer Plain))))

-- Whether x stands first in s.
abbrev pub hits : ℕ → List ℕ → Bool
hits x [] = false
hits x (y ∷ s) = eqb y x

-- At most so many brackets are open at once in a response: 16 objects, each in a list, and one more list.
abbrev pub most_brackets : ℕ
most_brackets = 33

-- How many tokens of the rest are found already: a label whose content comes.
abbrev pub found : Mode → ℕ
found InBoth = 0
found Labelled = 1
found (Striking k) = 0

-- How many brackets are open in what is struck out.
abbrev pub struck : Mode → ℕ
struck InBoth = 0
struck Labelled = 0
struck (Striking k) = k

-- The mode where k brackets are open in what is struck out, behind a content.
abbrev pub settled : ℕ → Mode
settled zero = InBoth
settled (suc k) = Striking (suc k)

-- The mode behind a token of what is struck out, of which k brackets were open.
abbrev pub strike_of : Side → ℕ → Mode
strike_of Plain k = settled k
strike_of Named k = settled k
strike_of Opener k = Striking (suc k)
strike_of Closer zero = InBoth
strike_of Closer (suc k) = settled k

-- ---- where the pass stands

-- What the code's `Stand` shows: the mode, the rest of the shortened response, and how many brackets are open that stand in both.
pub record Standing : Type 0 where
  pub mode : Mode
  pub rest : List ℕ
  pub depth : ℕ

abbrev pub stand : Mode → List ℕ → ℕ → Standing
stand m s n = record { mode = m; rest = s; depth = n }

abbrev pub shows : Stand → Standing
shows w = stand w.mode w.rest.now w.depth

-- What follows x in s, where x stands first.
abbrev pub past_of : ℕ → List ℕ → Option (List ℕ)
past_of x [] = None
past_of x (y ∷ s) = cond (eqb y x) (Some s) None

-- The rest behind a value or null that it does not have: a content is another, or a list of values is.
abbrev pub missed_at : Mode → List ℕ → List ℕ → List ℕ
missed_at InBoth s back = back
missed_at Labelled s back = s
missed_at (Striking k) s back = s

-- One turn where nothing is being struck out: `past` is the rest behind the token, where it has it.
abbrev pub on_plain : Option (List ℕ) → Standing → List ℕ → Standing
on_plain past w back = stand InBoth (unwrap_or past (missed_at w.mode w.rest back)) w.depth

abbrev pub on_named : Option (List ℕ) → Standing → Standing
on_named None w = stand (Striking 0) w.rest w.depth
on_named (Some s) w = stand Labelled w.rest w.depth

abbrev pub on_opener : Option (List ℕ) → Standing → Standing
on_opener None w = stand (Striking 1) w.rest w.depth
on_opener (Some s) w = cond (ltb w.depth most_brackets) (stand InBoth s (w.depth + 1)) (stand (Striking 1) w.rest w.depth)

abbrev pub on_closer : Option (List ℕ) → Standing → List ℕ → Standing
on_closer past w back = stand InBoth (unwrap_or past back) (w.depth - 1)

abbrev pub on_side : Side → Option (List ℕ) → Standing → List ℕ → Standing
on_side Plain past w back = on_plain past w back
on_side Named past w back = on_named past w
on_side Opener past w back = on_opener past w
on_side Closer past w back = on_closer past w back

-- One turn.
abbrev pub turn_by : Mode → Side → Option (List ℕ) → Standing → List ℕ → Standing
turn_by InBoth d past w back = on_side d past w back
turn_by Labelled d past w back = on_side d past w back
turn_by (Striking k) d past w back = stand (strike_of d k) w.rest w.depth

abbrev pub turn_of : Side → Option (List ℕ) → Standing → List ℕ → Standing
turn_of d past w back = turn_by w.mode d past w back
