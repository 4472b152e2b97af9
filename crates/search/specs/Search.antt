-- The one search: what a check says of a line alone, and of a line and an earlier one. Assumes nothing.
use Rattle.std.specs.Prelude.{ℕ, ◌+◌, ◌*◌, ◌%◌, ◌≤◌, ◌<◌, ◌≡◌, ◌⊎◌, List, [], ◌∷◌, Bool, true, false, cond, not, ◌&&◌, ◌||◌, length, get_or, eqb, ltb, leb, Option, None}
use Rattle.rules.specs.Lists.{among}
use Rattle.rules.specs.Text.{Row, at, field_no, E, G, H, M, P}
use Rattle.rules.specs.Search.{worse, fault_if, Check}
use Rattle.rules.specs.Schema.{Schema, is_list, check11, check12, check13, check14, check15}
use Rattle.rules.specs.Graph.{Graph, check21, check22, check23, check24, check25, check26}
use Rattle.rules.specs.Query.{check31}
use Rattle.rules.proofs.Clean.{Each}
use Rattle.text.specs.declared.Row.{Row as Read}
use Rattle.tables.specs.Layout.{belongs, node_area, property_area, value_area}
use Rattle.index.specs.Buckets.{has_from, takes_from, members_from, SchemaStands}
use Rattle.masks.specs.Masks.{Masked}
use Rattle.tables.specs.Fill.{lettered, values_in, SchemaFits, GraphFits}
use Rattle.tables.specs.Read.{cell, schema_at, graph_at, pair_at, values_at}
use Rattle.tables.proofs.Graphs.{Formed}
use Rattle.index.specs.Index.{head_in, next_in, Linked}
use Rattle.schema.specs.Held.{SchemaHeld}
use Rattle.schema.specs.Faults.{fault12, fault14, fault15}
use Rattle.graph.specs.Held.{NodesHeld, PropertiesHeld}
use Rattle.graph.specs.Faults.{nodes_at, fault22, fault23, fault24_e, fault24_p, diverts_at, twin_edge, twin_property}
use Rattle.search.specs.Count.{Within}
use Rattle.search.specs.declared.Counts.{Counts}
use Rattle.search.specs.declared.RowCheck.{RowCheck}
use Rattle.search.specs.declared.RowCheck.TheVariants.{SchemaSize, SchemaNumbers, PairTwice, FieldMissing, EmptyUnion, GraphSize}
use Rattle.search.specs.declared.RowCheck.TheVariants.{GraphNumbers, NotOwned, WrongType, SecondTarget, Twin, QuerySize}

-- The work areas that hold a schema and a graph: the schema; nodes and edges; properties; their values.
pub record Areas : Type 0 where
  pub schema : List ℕ
  pub nodes : List ℕ
  pub properties : List ℕ
  pub values : List ℕ

unfoldable pub graph_in : Areas → Graph
graph_in x = graph_at x.nodes x.properties x.values

-- the number of a check of lines
abbrev pub row_number : RowCheck → ℕ
row_number SchemaSize = 11
row_number SchemaNumbers = 12
row_number PairTwice = 13
row_number FieldMissing = 14
row_number EmptyUnion = 15
row_number GraphSize = 21
row_number GraphNumbers = 22
row_number NotOwned = 23
row_number WrongType = 24
row_number SecondTarget = 25
row_number Twin = 26
row_number QuerySize = 31

-- The checks of lines, by number.
unfoldable pub check_by : ℕ → Schema → Graph → Check Row
check_by n s g =
    cond (eqb n 11) check11
    (cond (eqb n 12) (check12 s)
    (cond (eqb n 13) check13
    (cond (eqb n 14) (check14 s)
    (cond (eqb n 15) (check15 s)
    (cond (eqb n 21) check21
    (cond (eqb n 22) (check22 s g)
    (cond (eqb n 23) (check23 s g)
    (cond (eqb n 24) (check24 s g)
    (cond (eqb n 25) (check25 s g)
    (cond (eqb n 26) check26 check31))))))))))

-- a maximum passed: as many counted as there may be
unfoldable pub full : ℕ → ℕ → ℕ → ℕ → Option ℕ
full k most count l = fault_if (belongs k (lettered l) && leb most count) 0

unfoldable pub alone11 : Counts → ℕ → Option ℕ
alone11 c l =
    worse (full 1 64 c.types l)
    (worse (full 2 128 c.fields l)
    (worse (full 3 64 c.args l)
    (worse (full 4 1024 c.has l) (worse (full 5 1024 c.takes l) (full 6 1024 c.members l)))))

unfoldable pub alone21 : Counts → ℕ → ℕ → ℕ → Option ℕ
alone21 c l count n =
    worse (full 7 512 c.nodes l)
    (worse (full 8 1024 c.edges l)
    (worse (full 9 1024 c.properties l) (fault_if (eqb l P && ltb 8192 (values_in l count n + c.values)) 0)))

unfoldable pub alone24 : Areas → Counts → ℕ → List ℕ → Option ℕ
alone24 x c l nums =
    cond (eqb l E) (fault24_e x.schema x.nodes nums)
    (cond (eqb l P) (fault24_p x.schema x.nodes nums (values_at x.properties x.values c.properties)) None)

unfoldable pub alone31 : Counts → ℕ → Option ℕ
alone31 c depth = worse (fault_if (leb 256 c.lines) 0) (fault_if (ltb 15 depth) 2)

-- What a check says of a line alone, where c counts the lines before it.
unfoldable pub alone : ℕ → Areas → Counts → Read → Option ℕ
alone n x c r =
    let a = x.schema in
    let g = x.nodes in
    let l = r.letter in
    let nums = r.nums in
    cond (eqb n 11) (alone11 c l)
    (cond (eqb n 12) (fault12 a l (get_or nums 0 0) (get_or nums 1 0))
    (cond (eqb n 14) (fault14 a l (get_or nums 0 0) (get_or nums 1 0))
    (cond (eqb n 15) (fault15 a l c.types)
    (cond (eqb n 21) (alone21 c l r.count (get_or nums 3 0))
    (cond (eqb n 22) (fault22 a g l nums)
    (cond (eqb n 23) (fault23 a g l nums)
    (cond (eqb n 24) (alone24 x c l nums)
    (cond (eqb n 31) (alone31 c (get_or nums 0 0)) None))))))))

-- where the pairs of a letter stand in the schema's area
unfoldable pub pair_base : ℕ → ℕ
pair_base l = cond (eqb l H) 776 (cond (eqb l G) 3848 6920)

unfoldable pub pair_count : Counts → ℕ → ℕ
pair_count c l = cond (eqb l H) c.has (cond (eqb l G) c.takes (cond (eqb l M) c.members 0))

-- How many earlier lines a line can clash with: 0 where it cannot.
unfoldable pub limit : ℕ → Areas → Counts → Read → ℕ
limit n x c r =
    let l = r.letter in
    let nums = r.nums in
    cond (eqb n 13) (pair_count c l)
    (cond (eqb n 25)
    (cond
    (eqb l E && not (is_list (schema_at x.schema) ((nodes_at x.nodes).type_of (get_or nums 0 0)) (field_no (get_or nums 1 0))))
    c.edges
    0)
    (cond (eqb n 26) (cond (eqb l E) c.edges (cond (eqb l P) c.properties 0)) 0))

-- Whether a line clashes with the j-th earlier line of its kind.
unfoldable pub clash : ℕ → Areas → Read → ℕ → Bool
clash n x r j =
    let l = r.letter in
    let nums = r.nums in
    cond (eqb n 13) (pair_at x.schema (pair_base l) (get_or nums 0 0) (get_or nums 1 0) j)
    (cond (eqb n 25) (diverts_at x.nodes nums j) (cond (eqb l E) (twin_edge x.nodes nums j) (twin_property x.properties nums j)))

-- ---- which of the earlier lines are asked, one after another

-- the checks by which a line clashes with lines of its own node alone, so that the node's chain in the index is walked
unfoldable pub indexed : ℕ → Bool
indexed n = eqb n 25 || eqb n 26

-- Of a line of the graph: the earlier line that it is held against first, and the one behind the j-th, along the chain of the line's node, or
-- all in turn.
unfoldable pub head_of : ℕ → List ℕ → List ℕ → List ℕ → Read → ℕ
head_of n g p x r =
    let u = get_or r.nums 0 0 in
    cond (indexed n) (cond (eqb r.letter E) (head_in x 0 (cell g 1) u) (head_in x 1536 (cell p 0) u)) 0

unfoldable pub step_of : ℕ → List ℕ → List ℕ → List ℕ → Read → ℕ → ℕ
step_of n g p x r j =
    cond (indexed n) (cond (eqb r.letter E) (next_in x 0 (cell g 1) j) (next_in x 1536 (cell p 0) j)) (j + 1)

-- how many pairs of a letter the schema's area holds, and where their links stand
unfoldable pub pair_rows : List ℕ → ℕ → ℕ
pair_rows a l = cell a (cond (eqb l H) 3 (cond (eqb l G) 4 5))

unfoldable pub pair_links : ℕ → ℕ
pair_links l = cond (eqb l H) has_from (cond (eqb l G) takes_from members_from)

-- Of a pair with the first number x: the earlier pair that it is held against first, and the one behind the j-th, along the chain of x.
unfoldable pub pair_first : List ℕ → ℕ → ℕ → ℕ
pair_first a l x = head_in a (pair_links l) (pair_rows a l) (x % 512)

unfoldable pub pair_next : List ℕ → ℕ → ℕ → ℕ
pair_next a l j = next_in a (pair_links l) (pair_rows a l) j

-- The same of any line, by the check.
unfoldable pub first_asked : ℕ → List ℕ → List ℕ → List ℕ → List ℕ → Read → ℕ
first_asked n a g p x r = cond (eqb n 13) (pair_first a r.letter (get_or r.nums 0 0)) (head_of n g p x r)

unfoldable pub next_asked : ℕ → List ℕ → List ℕ → List ℕ → List ℕ → Read → ℕ → ℕ
next_asked n a g p x r j = cond (eqb n 13) (pair_next a r.letter j) (step_of n g p x r j)

-- ---- what the areas must hold before a check

-- the schema of the text's own rows (checks 12 to 15)
pub record SchemaReady (rs : List Row) (x : Areas) : Type 0 where
  pub fits : SchemaFits rs
  pub held : SchemaStands x.schema rs

-- a schema with its masks, and the graph of the text's own rows (checks 22 to 26)
pub record GraphReady (rs : List Row) (x : Areas) : Type 0 where
  pub schema : SchemaHeld x.schema
  pub masks : Masked x.schema
  pub nodes_long : 15880 ≤ length x.nodes
  pub properties_long : 14344 ≤ length x.properties
  pub values_long : 8200 ≤ length x.values
  pub values_most : length x.values ≤ 16384
  pub fits : GraphFits rs
  pub formed : Each Formed rs
  pub few : Each (λ r. at r 3 ≤ 4) rs
  pub nodes : x.nodes ≡ node_area (length x.nodes) rs
  pub properties : x.properties ≡ property_area (length x.properties) rs
  pub values : x.values ≡ value_area (length x.values) rs

-- the checks that look at a line and the counts alone: 11, 21, 31
unfoldable pub plain_check : ℕ → Bool
plain_check n = among n (11 ∷ 21 ∷ 31 ∷ [])

-- what a check asks of the areas
unfoldable pub Ready : ℕ → List Row → Areas → Type 0
Ready n rs x =
    ((plain_check n ≡ false) → ltb n 20 ≡ true → SchemaReady rs x) × ((plain_check n ≡ false) → ltb n 20 ≡ false → GraphReady rs x)

-- the index of the edges and the properties that two areas hold
pub record Indexed (g p x : List ℕ) : Type 0 where
  pub nodes_long : 15880 ≤ length g
  pub properties_long : 14344 ≤ length p
  pub edges : Linked g 1544 (cell g 1) x 0
  pub properties : Linked p 8 (cell p 0) x 1536

-- what a check asks of the index
pub record IndexReady (n : ℕ) (g p x : List ℕ) : Type 0 where
  pub linked : indexed n ≡ true → Indexed g p x

-- what a check asks of the schema before it walks the chains of its pairs
pub record PairsReady (n : ℕ) (a : List ℕ) : Type 0 where
  pub held : n ≡ 13 → SchemaHeld a

-- ---- what the code asks before it tests a line

unfoldable pub areas : List ℕ → List ℕ → List ℕ → List ℕ → Areas
areas a g p v = record { schema = a; nodes = g; properties = p; values = v }

-- the checks that the search is for
unfoldable pub SearchedFor : ℕ → Type 0
SearchedFor n = among n (11 ∷ 12 ∷ 13 ∷ 14 ∷ 15 ∷ 21 ∷ 22 ∷ 23 ∷ 24 ∷ 25 ∷ 26 ∷ 31 ∷ []) ≡ true

-- a line of a graph, whose areas can be read
pub record GraphTestable (x : Areas) (c : Counts) (r : Read) : Type 0 where
  pub schema : SchemaHeld x.schema
  pub masks : Masked x.schema
  pub nodes : NodesHeld x.nodes
  pub properties : PropertiesHeld x.properties x.values
  pub most : length x.values ≤ 16384
  pub long : length r.nums ≡ 12
  pub few : get_or r.nums 3 0 ≤ 4
  pub place : r.letter ≡ P → c.properties < cell x.properties 0

-- a line that a check can look at
pub record Testable (n : ℕ) (x : Areas) (c : Counts) (r : Read) : Type 0 where
  pub long : length r.nums ≡ 12
  pub count : r.count ≤ 65535
  pub counts : Within 65535 c
  pub schema : plain_check n ≡ false → SchemaHeld x.schema
  pub graph : plain_check n ≡ false → ltb n 20 ≡ false → GraphTestable x c r

-- a line, and the j-th earlier line of its kind
pub record Clashable (n : ℕ) (x : Areas) (r : Read) (j : ℕ) : Type 0 where
  pub long : length r.nums ≡ 12
  pub pair : n ≡ 13 → (pair_base r.letter + 3 * j + 2 < length x.schema) × (j < 1024)
  pub edge : (n ≡ 13 → ⊥) → NodesHeld x.nodes × PropertiesHeld x.properties x.values × (get_or r.nums 3 0 ≤ 4)
  pub inside : (n ≡ 13 → ⊥) → (n ≡ 25) ⊎ (r.letter ≡ E) → j < cell x.nodes 1
  pub within : (n ≡ 13 → ⊥) → (n ≡ 25 → ⊥) → (r.letter ≡ E → ⊥) → j < cell x.properties 0

-- a line that can be held against the earlier lines that a check asks: those below the limit stand in the areas, in the order of `index`
pub record Stepping (n : ℕ) (x : Areas) (index : List ℕ) (c : Counts) (r : Read) : Type 0 where
  pub clashable : (j : ℕ) → j < limit n x c r → Clashable n x r j
  pub paired : n ≡ 13 → (j : ℕ) → j < limit n x c r → j < pair_rows x.schema r.letter
  pub pairs : PairsReady n x.schema
  pub ready : IndexReady n x.nodes x.properties index
