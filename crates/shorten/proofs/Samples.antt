-- Sample judgements, by computing the tests: 01's sample, and the readings of 02 one by one. Assumes nothing.
use mathlib.Core.Path.{◌≡◌, refl}
use mathlib.Core.Bool.{true, false}
use mathlib.Core.List.{List, [], ◌∷◌, ◌++◌}
use Prim.Native.Nat.{ℕ, zero, suc}
use Rattle.rules.specs.Eval.{label, open_object, close_object, open_list, close_list, null as nullToken}
use Rattle.rules.proofs.Bools.{clash}
use Rattle.tokens.specs.Check.{is_label, accepts, responds}
use Rattle.tokens.proofs.Checked.{is_one, is_none}
use Rattle.shorten.specs.Pass.{side_of}
use Rattle.shorten.specs.Judge.{reply_of, Judged, says-yes, says_no, refuses-first, refuses-second}
use Rattle.shorten.proofs.Way.{pass, passes}
use Rattle.shorten.proofs.Passes.{passes_exactly}

-- what the tests give, as a judgement
made : (f s : List ℕ) → responds f ≡ true → responds s ≡ true → passes f s ≡ true → Judged f s (reply_of 1 0)
made f s a b h = says-yes ((passes_exactly (is_one f a) (is_one s b)).0 h)

not_made : (f s : List ℕ) → responds f ≡ true → responds s ≡ true → passes f s ≡ false → Judged f s (reply_of 0 0)
not_made f s a b h = says_no (is_one f a) (is_one s b) (λ m. clash ((passes_exactly (is_one f a) (is_one s b)).1 m) h)

not_first : (f s : List ℕ) → responds f ≡ false → Judged f s (reply_of 0 71)
not_first f s a = refuses-first (is_none f a)

not-second : (f s : List ℕ) → responds f ≡ true → responds s ≡ false → Judged f s (reply_of 0 72)
not-second f s a b = refuses-second (is_one f a) (is_none s b)

-- the answer to 01's sample
abbrev sample : List ℕ
sample =
    label 0 ∷ open_list
    ∷ open_object ∷ label 9 ∷ 17 ∷ label 2 ∷ open_list ∷ 5 ∷ 6 ∷ close_list ∷ close_object
    ∷ open_object ∷ label 9 ∷ 18 ∷ label 3 ∷ nullToken ∷ close_object
    ∷ close_list ∷ []

second-object : Judged sample (label 0 ∷ open_list ∷ open_object ∷ label 9 ∷ 18 ∷ close_object ∷ close_list ∷ []) (reply_of 1 0)
unfolding is_label side_of accepts pass
second-object = made _ _ refl refl refl

all-gone : Judged sample [] (reply_of 1 0)
unfolding is_label side_of accepts pass
all-gone = made _ _ refl refl refl

empty_list : Judged sample (label 0 ∷ open_list ∷ close_list ∷ []) (reply_of 1 0)
unfolding is_label side_of accepts pass
empty_list = made _ _ refl refl refl

-- a value list is never cut, nor emptied
cut_values : Judged
    sample
    (label 0 ∷ open_list ∷ open_object ∷ label 2 ∷ open_list ∷ 5 ∷ close_list ∷ close_object ∷ close_list ∷ [])
    (reply_of 0 0)
unfolding is_label side_of accepts pass
cut_values = not_made _ _ refl refl refl

no_values : Judged sample (label 0 ∷ open_list ∷ open_object ∷ label 2 ∷ open_list ∷ close_list ∷ close_object ∷ close_list ∷ []) (reply_of 0 0)
unfolding is_label side_of accepts pass
no_values = not_made _ _ refl refl refl

-- order is kept
swapped : Judged
    sample
    (label 0 ∷ open_list ∷ open_object ∷ label 9 ∷ 18 ∷ close_object ∷ open_object ∷ label 9 ∷ 17 ∷ close_object ∷ close_list ∷ [])
    (reply_of 0 0)
unfolding is_label side_of accepts pass
swapped = not_made _ _ refl refl refl

-- one label twice: the first `1: { }` of the full one admits `1: { }`, and the second has the rest
twice : Judged
    (label 1 ∷ open_object ∷ label 2 ∷ 7 ∷ close_object ∷ label 1 ∷ open_object ∷ label 3 ∷ 8 ∷ close_object ∷ [])
    (label 1 ∷ open_object ∷ label 3 ∷ 8 ∷ close_object ∷ [])
    (reply_of 1 0)
unfolding is_label side_of accepts pass
twice = made _ _ refl refl refl

bare_label : Judged sample (label 0 ∷ []) (reply_of 0 72)
unfolding is_label side_of accepts pass
bare_label = not-second _ _ refl refl

-- ---- the readings of 02 (xi), one by one

-- `[ ]` comes from a list of objects or from `[ ]`, not from a list of values.
from-objects : Judged (label 0 ∷ open_list ∷ open_object ∷ close_object ∷ close_list ∷ []) (label 0 ∷ open_list ∷ close_list ∷ []) (reply_of 1 0)
unfolding is_label side_of accepts pass
from-objects = made _ _ refl refl refl

from_empty : Judged (label 0 ∷ open_list ∷ close_list ∷ []) (label 0 ∷ open_list ∷ close_list ∷ []) (reply_of 1 0)
unfolding is_label side_of accepts pass
from_empty = made _ _ refl refl refl

from-values : Judged (label 0 ∷ open_list ∷ 5 ∷ close_list ∷ []) (label 0 ∷ open_list ∷ close_list ∷ []) (reply_of 0 0)
unfolding is_label side_of accepts pass
from-values = not_made _ _ refl refl refl

-- An object that is no list's is emptied or goes with its field; it does not become null or a list.
abbrev held : List ℕ
held = label 0 ∷ open_object ∷ label 1 ∷ 5 ∷ close_object ∷ []

emptied : Judged held (label 0 ∷ open_object ∷ close_object ∷ []) (reply_of 1 0)
unfolding is_label side_of accepts pass
emptied = made _ _ refl refl refl

not_null : Judged held (label 0 ∷ nullToken ∷ []) (reply_of 0 0)
unfolding is_label side_of accepts pass
not_null = not_made _ _ refl refl refl

not-a_list : Judged held (label 0 ∷ open_list ∷ close_list ∷ []) (reply_of 0 0)
unfolding is_label side_of accepts pass
not-a_list = not_made _ _ refl refl refl

-- Labels end at 255, values at 999,999,999, marks at 2,000,000,005.
label_256 : Judged (label 256 ∷ 5 ∷ []) [] (reply_of 0 71)
unfolding is_label side_of accepts pass
label_256 = not_first _ _ refl

mark_six : Judged [] (label 0 ∷ 2000000006 ∷ []) (reply_of 0 72)
unfolding is_label side_of accepts pass
mark_six = not-second _ _ refl refl

-- 16 `{` may be open at once, 17 may not.
abbrev nested : ℕ → List ℕ
nested zero = []
nested (suc n) = label 0 ∷ open_object ∷ nested n ++ (close_object ∷ [])

sixteen : Judged (nested 16) (nested 3) (reply_of 1 0)
unfolding is_label side_of accepts pass
sixteen = made _ _ refl refl refl

seventeen : Judged (nested 17) (nested 3) (reply_of 0 71)
unfolding is_label side_of accepts pass
seventeen = not_first _ _ refl

-- A list has values only or objects only.
null_in_list : Judged (label 0 ∷ open_list ∷ nullToken ∷ close_list ∷ []) [] (reply_of 0 71)
unfolding is_label side_of accepts pass
null_in_list = not_first _ _ refl

list_in_list : Judged (label 0 ∷ open_list ∷ open_list ∷ close_list ∷ close_list ∷ []) [] (reply_of 0 71)
unfolding is_label side_of accepts pass
list_in_list = not_first _ _ refl

mixed : Judged (label 0 ∷ open_list ∷ 5 ∷ open_object ∷ close_object ∷ close_list ∷ []) [] (reply_of 0 71)
unfolding is_label side_of accepts pass
mixed = not_first _ _ refl

-- One label twice: the first field with the label will not do, the second will.
second_will_do : Judged
    (held ++ (label 0 ∷ open_object ∷ label 1 ∷ 5 ∷ label 2 ∷ 6 ∷ close_object ∷ []))
    (label 0 ∷ open_object ∷ label 2 ∷ 6 ∷ close_object ∷ [])
    (reply_of 1 0)
unfolding is_label side_of accepts pass
second_will_do = made _ _ refl refl refl

-- Both may be empty; 71 goes before 72.
both_empty : Judged [] [] (reply_of 1 0)
unfolding is_label side_of accepts pass
both_empty = made _ _ refl refl refl

both-broken : Judged (5 ∷ []) (6 ∷ []) (reply_of 0 71)
unfolding is_label side_of accepts pass
both-broken = not_first _ _ refl
