-- The text form of one line, from what the reader hands on: checks 10, 20 and 30. Assumes nothing.
use Rattle.std.specs.Prelude.{ℕ, ◌+◌, ◌*◌, List, [], ◌∷◌, cond, not, ◌&&◌, get_or, take, drop, eqb, ltb, Option, Some}
use Rattle.rules.specs.Lists.{among}
use Rattle.rules.specs.Text.{pairs, A, E, F, G, H, I, M, N, O, P, Q, S, T, U}
use Rattle.rules.specs.Search.{worse, fault_if, fault_of}
use Rattle.rules.specs.Forms.{rising_pairs}
use Rattle.rules.specs.declared.TextKind.{TextKind}
use Rattle.rules.specs.declared.TextKind.TheVariants.{Schema, Graph, Query}
use Rattle.text.specs.declared.Row.{Row}

-- "a missing or an extra field": not n numbers
unfoldable pub count_fault : ℕ → ℕ → Option ℕ
count_fault n count = fault_if (not (eqb count n)) 0

-- "a list mark other than 0 or 1" in a field
unfoldable pub mark_fault : ℕ → ℕ → Option ℕ
mark_fault field mark = fault_if (ltb 1 mark) field

-- "an n above 4, argument numbers that don't rise"; the pairs that are there stand behind the first four numbers
unfoldable pub pairs_fault : ℕ → List ℕ → Option ℕ
pairs_fault count nums =
    cond (ltb 4 (get_or nums 3 0)) (Some 5) (fault_of (rising_pairs (pairs (get_or nums 3 0) (drop 4 (take count nums)))))

-- an edge, or a field of the query
unfoldable pub labelled_fault : ℕ → List ℕ → Option ℕ
labelled_fault count nums = worse (pairs_fault count nums) (count_fault (4 + 2 * get_or nums 3 0) count)

-- a property
unfoldable pub valued_fault : ℕ → List ℕ → Option ℕ
valued_fault count nums =
    worse (mark_fault 4 (get_or nums 2 0))
    (worse (pairs_fault count nums)
    (worse (fault_if (eqb (get_or nums 2 0) 0 && not (eqb count (5 + 2 * get_or nums 3 0))) 0) (fault_if (ltb count (4 + 2 * get_or nums 3 0)) 0)))

unfoldable pub schema_fault : ℕ → ℕ → List ℕ → Option ℕ
schema_fault l count nums =
    cond (among l (O ∷ I ∷ U ∷ [])) (count_fault 0 count)
    (cond (among l (A ∷ Q ∷ [])) (count_fault 1 count)
    (cond (among l (S ∷ H ∷ G ∷ M ∷ [])) (count_fault 2 count)
    (cond (eqb l F) (worse (mark_fault 3 (get_or nums 1 0)) (count_fault 2 count)) (Some 1))))

unfoldable pub graph_fault : ℕ → ℕ → List ℕ → Option ℕ
graph_fault l count nums =
    cond (eqb l N) (count_fault 1 count) (cond (eqb l E) (labelled_fault count nums) (cond (eqb l P) (valued_fault count nums) (Some 1)))

unfoldable pub query_fault : ℕ → ℕ → List ℕ → Option ℕ
query_fault l count nums = cond (eqb l F) (labelled_fault count nums) (cond (eqb l T) (count_fault 2 count) (Some 1))

unfoldable pub form_fault : TextKind → ℕ → ℕ → List ℕ → Option ℕ
form_fault Schema l count nums = schema_fault l count nums
form_fault Graph l count nums = graph_fault l count nums
form_fault Query l count nums = query_fault l count nums

-- the fault of a line that was read: an empty line and one without a letter have the letter 0
unfoldable pub line_fault : TextKind → Row → Option ℕ
line_fault kind r =
    cond (eqb r.letter 0) (Some r.bad)
    (worse (fault_if (not r.ended) 0)
    (worse (fault_if (not (eqb r.bad 0)) r.bad) (form_fault kind r.letter r.count r.nums)))
