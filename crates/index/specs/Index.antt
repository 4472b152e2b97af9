-- Links between the rows of a table that have the same key, and the index made of them: of each node its edges and its properties, in
-- the order of the graph. Assumes nothing.
use Rattle.std.specs.Prelude.{ℕ, zero, suc, ◌+◌, ◌*◌, ◌-◌, ◌≤◌, ◌<◌, ◌≡◌, List, [], ◌∷◌, map, cond, length, get_or, drop, set, eqb, ltb}
use Rattle.rules.specs.Lists.{those, count_up}
use Rattle.rules.specs.Text.{Row, E, P}
use Rattle.rules.specs.Schema.{is}
use Rattle.rules.specs.Graph.{source}
use Rattle.tables.specs.Read.{cell, wide_at}

-- ---- links, by the keys of a table's rows

-- One more than the first place at which u stands, these keys standing from place j on; 0 where it stands there no more.
unfoldable pub link : ℕ → ℕ → List ℕ → ℕ
link u j [] = 0
link u j (s ∷ ss) = cond (eqb s u) (suc j) (link u (suc j) ss)

-- the same among all keys, from place j on
unfoldable pub link_from : List ℕ → ℕ → ℕ → ℕ
link_from ss u j = link u j (drop j ss)

-- to the first row of key u; to the next row of the key of row j, 0 behind the last row
unfoldable pub first_link : List ℕ → ℕ → ℕ
first_link ss u = link_from ss u 0

unfoldable pub next_link : List ℕ → ℕ → ℕ
next_link ss j = link_from ss (get_or ss j 0) (suc j)

-- the links of 512 keys, and behind them those of 1,024 rows
unfoldable pub link_cell : List ℕ → ℕ → ℕ
link_cell ss i = cond (ltb i 512) (first_link ss i) (next_link ss (i - 512))

-- the keys of the first n rows
unfoldable pub keys : (ℕ → ℕ) → ℕ → List ℕ
keys key n = map key (count_up 0 n)

-- ---- the index of a graph: a row's key is its node; the links of the edges from 0 on and of the properties from 1,536 on

unfoldable pub index_cell : List ℕ → List ℕ → ℕ → ℕ
index_cell es ps i = cond (ltb i 1536) (link_cell es i) (cond (ltb i 3072) (link_cell ps (i - 1536)) 0)

unfoldable pub index_by : ℕ → List ℕ → List ℕ → List ℕ
index_by n es ps = map (index_cell es ps) (count_up 0 n)

-- the nodes of the rows with a letter
unfoldable pub sources : ℕ → List Row → List ℕ
sources l rs = map source (those (is l) rs)

unfoldable pub index_area : ℕ → List Row → List ℕ
index_area n rs = index_by n (sources E rs) (sources P rs)

-- the same nodes, read from a wide table of n rows from `base` on
abbrev pub node_at : List ℕ → ℕ → ℕ → ℕ
node_at a base = λ j. wide_at a base j 2

abbrev pub sources_at : List ℕ → ℕ → ℕ → List ℕ
sources_at a base n = keys (node_at a base) n

-- the index of the edges and properties that two areas hold
unfoldable pub index_at : ℕ → List ℕ → List ℕ → List ℕ
index_at n g p = index_by n (sources_at g 1544 (cell g 1)) (sources_at p 8 (cell p 0))

-- ---- following it

-- the row that a link leads to, n where it leads to none
unfoldable pub led_to : ℕ → ℕ → ℕ
led_to n zero = n
led_to n (suc j) = j

-- by the links of a table of n rows, which stand from `at` on: the first row of key u, and the next one of the key of row j
unfoldable pub head_in : List ℕ → ℕ → ℕ → ℕ → ℕ
head_in x at n u = cond (ltb u 512) (led_to n (cell x (at + u))) n

unfoldable pub next_in : List ℕ → ℕ → ℕ → ℕ → ℕ
next_in x at n j = led_to n (cell x (at + 512 + j))

-- the first row from row j on that is of key u, n where there is none: said of the table, without the links
unfoldable pub own_from : (ℕ → ℕ) → ℕ → ℕ → ℕ → ℕ
own_from key n u j = get_or (those (λ i. eqb (key i) u) (count_up j (n - j))) 0 n

-- the rows along the links, from row j on, k of them at most
unfoldable pub chain : List ℕ → ℕ → ℕ → ℕ → ℕ → List ℕ
chain x at n zero j = []
chain x at n (suc k) j = cond (ltb j n) (j ∷ chain x at n k (led_to n (cell x (at + 512 + j)))) []

-- Row i is one of key u, or stands behind the last.
pub record OnChain (key : ℕ → ℕ) (n u i : ℕ) : Type 0 where
  pub own : i < n → key i ≡ u

-- Keys of n rows by which these can be linked: each is below 512.
pub record Keyed (key : ℕ → ℕ) (n : ℕ) : Type 0 where
  pub few : n ≤ 1024
  pub within : (j : ℕ) → j < n → key j < 512

-- A wide table of n rows from `base` on, each of a node below 512.
pub record Rowed (a : List ℕ) (base n : ℕ) : Type 0 where
  pub long : base + 14 * n ≤ length a
  pub low : base ≤ 10000
  pub nodes : Keyed (node_at a base) n

-- A table whose links stand in an area from `at` on.
pub record Chained (key : ℕ → ℕ) (n : ℕ) (x : List ℕ) (at : ℕ) : Type 0 where
  pub long : at + 1536 ≤ length x
  pub low : at ≤ 13064
  pub keyed : Keyed key n
  pub first : (u : ℕ) → u < 512 → led_to n (cell x (at + u)) ≡ own_from key n u 0
  pub next : (j : ℕ) → j < n → led_to n (cell x (at + 512 + j)) ≡ own_from key n (key j) (suc j)

-- A wide table whose rows are linked by their nodes.
abbrev pub Linked : List ℕ → ℕ → ℕ → List ℕ → ℕ → Type 0
Linked a base n x at = Chained (node_at a base) n x at

-- ---- laying them

-- Room for the links of a table, from `at` on, with zeros in it.
pub record Blank (x : List ℕ) (at : ℕ) : Type 0 where
  pub long : at + 1536 ≤ length x
  pub low : at ≤ 13064
  pub zeros : (i : ℕ) → i < 1536 → cell x (at + i) ≡ 0

-- row j put before the rows of key u: the key's first link becomes the row's next, and the row becomes the key's first
unfoldable pub row_linked : ℕ → ℕ → ℕ → List ℕ → List ℕ
row_linked at j u x = set (set x (at + 512 + j) (cell x (at + u))) (at + u) (j + 1)

-- The links of rows of these keys laid from `at` on, and nothing else changed.
pub record LinksLaid (ss : List ℕ) (at : ℕ) (before after : List ℕ) : Type 0 where
  pub same : length after ≡ length before
  pub inside : (i : ℕ) → i < 1536 → cell after (at + i) ≡ link_cell ss i
  pub below : (i : ℕ) → i < at → cell after i ≡ cell before i
  pub above : (i : ℕ) → at + 1536 ≤ i → cell after i ≡ cell before i
