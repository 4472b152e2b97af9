-- Multiplicities, visits and the size. Assumes nothing.
use Rattle.std.specs.Prelude.{ℕ, zero, suc, ◌+◌, ◌*◌, min, List, [], ◌∷◌, ◌++◌, map, eqb, length}
use Rattle.rules.specs.Lists.{sum_of, times, count_up, one_if}
use Rattle.rules.specs.Tree.{Asks, field, on, Entry, Forest, none, node}
use Rattle.rules.specs.Graph.{Found, nothing, one, many}
use Rattle.rules.specs.World.{World, Shape, scalar, list, single}
use Rattle.rules.specs.Eval.{next}

-- ---- multiplicities

-- A row of multiplicities holds one number for each node. The sum of each times g of its node, the first node being i.
abbrev pub weighed : (ℕ → ℕ) → ℕ → List ℕ → ℕ
weighed g i [] = 0
weighed g i (m ∷ ms) = m * g i + weighed g (suc i) ms

-- "The multiplicity of a top entry at the query node is 1. .. All others are 0."
abbrev pub start : World → ℕ → List ℕ
start w q = map (λ v. one_if (eqb v q)) (count_up 0 w.size)

-- The row of an entry's children: at v the sum of the entry's multiplicities at u, as often as its evaluation at u goes on
-- to v. ("A child of a type condition takes its parent's multiplicity at nodes of compatible type. A child of an object field
-- has at v the sum of its parent's multiplicities at u over all matching edges from u to v.")
abbrev pub passed : World → Asks → List ℕ → List ℕ
passed w a row = map (λ v. weighed (λ u. times v (next w a u)) 0 row) (count_up 0 w.size)

-- ---- visits

-- "A visit is a pair of entry and node with multiplicity at least 1."
pub record Visit : Type 0 where
  pub entry : Entry
  pub at : ℕ
  pub times : ℕ

abbrev pub visit : Entry → ℕ → ℕ → List Visit → List Visit
visit e u zero vs = vs
visit e u (suc m) vs = record { entry = e; at = u; times = suc m } ∷ vs

-- The visits of one entry, by node, the first node of the row being u.
abbrev pub visits_of : Entry → ℕ → List ℕ → List Visit
visits_of e u [] = []
visits_of e u (m ∷ ms) = visit e u m (visits_of e (suc u) ms)

-- "Visits are listed by entry, then by node number." `pass` makes the children's row of an entry's own.
abbrev pub visits_by : (Asks → List ℕ → List ℕ) → Forest → List ℕ → List Visit
visits_by pass none row = []
visits_by pass (node e kids rest) row = visits_of e 0 row ++ (visits_by pass kids (pass e.asks row) ++ visits_by pass rest row)

abbrev pub visits : World → Forest → List ℕ → List Visit
visits w q row = visits_by (passed w) q row

-- ---- tokens

-- "its own tokens: 2 for a scalar field that is null or not a list, 3 + k for a list property of k values (one value too)"
abbrev pub of_value : Found → ℕ
of_value nothing = 2
of_value (one x) = 2
of_value (many xs) = 3 + length xs

-- "3 for a non-list field with a target and 2 without"
abbrev pub of_object : List ℕ → ℕ
of_object [] = 2
of_object (v ∷ vs) = 3

-- "3 + 2k for a list field with k targets"
abbrev pub of_field : Shape → Found → List ℕ → ℕ
of_field scalar found vs = of_value found
of_field list found vs = 3 + 2 * length vs
of_field single found vs = of_object vs

-- "0 for a type condition"
abbrev pub own : World → Asks → ℕ → ℕ
own w (field n l) u = of_field (w.shape u l.field) (w.lookup u l) (w.targets u l)
own w (on t) u = 0

-- ---- the size

-- The sum of multiplicity times what g gives an entry at a node.
abbrev pub summed : (Asks → ℕ → ℕ) → List Visit → ℕ
summed g vs = sum_of (λ v. v.times * g v.entry.asks v.at) vs

-- "A running tally adds each visit's multiplicity times its own tokens"
abbrev pub total : World → List Visit → ℕ
total w vs = summed (own w) vs

-- A sum as it is shown: exact to k, above it k + 1.
abbrev pub cap_at : ℕ → ℕ → ℕ
cap_at k n = min n (suc k)

abbrev pub most : ℕ
most = 1000000

-- "The size is that sum, shown as 1,000,001 once above 1,000,000."
abbrev pub cap : ℕ → ℕ
cap n = cap_at most n
