-- The check of a response as the code makes it, one token after another; `proofs/Checked` shows that it accepts exactly the responses.
-- Assumes nothing.
use Rattle.std.specs.Prelude.{Bool, true, false, cond, ◌&&◌, List, [], ◌∷◌, ℕ, ◌+◌, ◌*◌, ◌/◌, ◌%◌, length, eqb, ltb, leb, Option, Some, None}
use Rattle.rules.specs.Lists.{one_if}
use Rattle.rules.specs.Text.{largest}
use Rattle.rules.specs.Eval.{label, open_object, close_object, open_list, close_list, null}
use Rattle.tokens.specs.Response.{largest_label, most_tokens}
use Rattle.tokens.specs.declared.Mode.{Mode}
use Rattle.tokens.specs.declared.Mode.TheVariants.{Fields, Labelled, Opened, InValues, InObjects}
use Rattle.tokens.specs.declared.State.{State}

-- What a token is.
abbrev pub is_value : ℕ → Bool
is_value x = leb x largest

unfoldable pub is_label : ℕ → Bool
is_label x = leb (label 0) x && leb x (label largest_label)

-- A check on its way, and one at its beginning.
abbrev pub state : Mode → ℕ → State
state m n = record { mode = m; nest = n }

abbrev pub start : State
start = state Fields 1

-- From here on 16 objects are open: 2 ^ 16.
abbrev pub full_nest : ℕ
full_nest = 65536

-- What a token leads to: the check goes on, or the sequence is no response.
abbrev pub onward : Mode → ℕ → Option State
onward m n = Some (state m n)

-- One more object open, if fewer than 16 are; b says whether it stands in a list.
abbrev pub deeper : Bool → ℕ → Option State
deeper b n = cond (ltb n full_nest) (onward Fields (2 * n + one_if b)) None

-- The innermost open object closed, if one is open.
abbrev pub shut : ℕ → Option State
shut n = cond (ltb n 2) None (cond (eqb (n % 2) 0) (onward Fields (n / 2)) (onward InObjects (n / 2)))

-- The check after the token x, by what it expected.
abbrev pub on_fields : ℕ → ℕ → Option State
on_fields x n = cond (is_label x) (onward Labelled n) (cond (eqb x close_object) (shut n) None)

abbrev pub on_content : ℕ → ℕ → Option State
on_content x n =
    cond (is_value x) (onward Fields n)
    (cond (eqb x null) (onward Fields n)
    (cond (eqb x open_object) (deeper false n)
    (cond (eqb x open_list) (onward Opened n) None)))

abbrev pub on_values : ℕ → ℕ → Option State
on_values x n = cond (is_value x) (onward InValues n) (cond (eqb x close_list) (onward Fields n) None)

abbrev pub on_objects : ℕ → ℕ → Option State
on_objects x n = cond (eqb x open_object) (deeper true n) (cond (eqb x close_list) (onward Fields n) None)

abbrev pub on_first : ℕ → ℕ → Option State
on_first x n = cond (is_value x) (onward InValues n) (on_objects x n)

abbrev pub moved : Mode → ℕ → ℕ → Option State
moved Fields x n = on_fields x n
moved Labelled x n = on_content x n
moved Opened x n = on_first x n
moved InValues x n = on_values x n
moved InObjects x n = on_objects x n

abbrev pub step_of : State → ℕ → Option State
step_of p x = moved p.mode x p.nest

-- At the end of a response a field could follow, and no object is open.
abbrev pub at_fields : Mode → Bool
at_fields Fields = true
at_fields Labelled = false
at_fields Opened = false
at_fields InValues = false
at_fields InObjects = false

abbrev pub finished_at : State → Bool
finished_at p = at_fields p.mode && eqb p.nest 1

-- Whether the check accepts the tokens that are left: it does not where the ones before led nowhere.
unfoldable pub accepts : List ℕ → Option State → Bool
accepts s None = false
accepts [] (Some p) = finished_at p
accepts (x ∷ s) (Some p) = accepts s (step_of p x)

abbrev pub responds : List ℕ → Bool
responds s = leb (length s) most_tokens && accepts s (Some start)
