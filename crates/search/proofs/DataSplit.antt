-- Checks 24 to 26: an edge or a property, with the areas that hold the graph of all lines. Assumes nothing.
use Prim.Native.Nat.{ℕ, ◌+◌, ◌*◌, ◌<◌}
use native.Mathlib.Omega.{arith}
use mathlib.Core.Path.{◌≡◌, refl, sym, ap, ap₂, ◌∙◌, subst, fun_ext}
use mathlib.Core.Bool.{Bool, true, false, cond, not, ◌&&◌, and_assoc}
use mathlib.Core.List.{List, [], ◌∷◌, ◌++◌, reverse}
use Rattle.std.specs.Prelude.{Option, None}
use lib.ListN.{length, get_or, length-append}
use lib.Seq.{get_or-append-add}
use lib.Dec.{eqb}
use borrow.Author.Tests.{eqb-true}
use Rattle.rules.specs.Lists.{those, keep_if, any, count_up}
use Rattle.rules.specs.Text.{Row, no_row, at, E, P, values_of, field_no}
use Rattle.rules.specs.Search.{◌#◌, test_each, worse, fault_if, fault_of, fault}
use Rattle.rules.specs.Schema.{is, nth, is_scalar, is_list, in_range, list_mark, field_type, compatible}
use Rattle.rules.specs.Graph.{Graph, Label, same_label, label_of, source, target, starts, edge_of, property_of, diverts, type_of}
use Rattle.rules.specs.Graph.{check24, check25, check26}
use Rattle.rules.proofs.Clean.{Each}
use Rattle.text.specs.Line.{padded}
use Rattle.text.proofs.Tools.{by_test}
use Rattle.tables.specs.Layout.{belongs, counted}
use Rattle.tables.specs.Read.{schema_at, graph_at, values_at, wide_at, starts_at}
use Rattle.tables.proofs.Those.{those-append, any-reverse}
use Rattle.tables.proofs.Graphs.{Formed, edges-among, properties-among, property-values}
use Rattle.graph.specs.Faults.{row_for, nodes_at, fault24_e, fault24_p, diverts_at, twin_edge, twin_property}
use Rattle.search.specs.Count.{counts_of}
use Rattle.search.specs.Search.{Areas, GraphReady, alone24}
use Rattle.search.proofs.Groups.{worse-none, grouped, one_group}
use Rattle.search.proofs.GraphSplit.{nums, number_read, label-read}

-- ---- 24

-- a row by its numbers and its letter
abbrev row_with : List ℕ → ℕ → Row
row_with ns l = record { letter = l; numbers = ns }

module _ (a g p v : List ℕ) (ps rs : List Row) (ns : List ℕ) where
  -- the tests of an edge, and of a property, by the numbers that they look at
  fault-edge : ℕ → ℕ → ℕ → Option ℕ
  fault-edge x y z =
      let t = field_type (schema_at a) (type_of (nodes_at g) x) (field_no y) in
      fault_of ((3 # is_scalar (schema_at a) t) ∷ (4 # not (compatible (schema_at a) (type_of (nodes_at g) z) t)) ∷ [])

  edge_24 : fault (check24 (schema_at a) (graph_at g p v) (reverse ps) (row_with ns E) rs) ≡ fault24_e a g (padded 12 ns)
  unfolding fault24_e row_for graph_at nodes_at fault-edge
  edge_24 =
      λ i. worse
      (fault-edge
      (number_read (row_with ns E) 0 (omega arith) i)
      (number_read (row_with ns E) 1 (omega arith) i)
      (number_read (row_with ns E) 2 (omega arith) i))
      None

  fault-property : ℕ → ℕ → ℕ → ℕ → List ℕ → Option ℕ
  fault-property x y z n xs =
      let t = field_type (schema_at a) (type_of (nodes_at g) x) (field_no y) in
      fault_of
      ((3 # not (is_scalar (schema_at a) t))
      ∷ (4 # not (eqb z (list_mark (schema_at a) (type_of (nodes_at g) x) (field_no y))))
      ∷ test_each (λ w. not (in_range (schema_at a) t w)) 1 (6 + 2 * n) xs)

  property_24 : (xs : List ℕ) → values_of (row_with ns P) ≡ xs
      → fault (check24 (schema_at a) (graph_at g p v) (reverse ps) (row_with ns P) rs) ≡ fault24_p a g (padded 12 ns) xs
  unfolding fault24_p row_for graph_at nodes_at fault-property
  property_24 xs e =
      let r = row_with ns P in
      worse-none (fault-property (at r 0) (at r 1) (at r 2) (at r 3) (values_of r))
      ∙ (λ i. fault-property
      (number_read (row_with ns P) 0 (omega arith) i)
      (number_read (row_with ns P) 1 (omega arith) i)
      (number_read (row_with ns P) 2 (omega arith) i)
      (number_read (row_with ns P) 3 (omega arith) i)
      (e i))

  other_24 : (l : ℕ) → eqb l E ≡ false → eqb l P ≡ false
      → fault (check24 (schema_at a) (graph_at g p v) (reverse ps) (row_with ns l) rs) ≡ None
  other_24 l e f = rw (e, f)

-- the property behind those of the first lines
next-property : (ps : List Row) (r : Row) (rs : List Row) → is P r ≡ true
    → (counted 9 ps < length (those (is P) (ps ++ r ∷ rs))) × (nth (is P) (ps ++ r ∷ rs) (counted 9 ps) ≡ r)
unfolding counted belongs
next-property ps r rs e =
    let n = length (those (is P) ps) in
    let k : those (is P) (r ∷ rs) ≡ r ∷ those (is P) rs = ap (λ (b : Bool). keep_if b r (those (is P) rs)) e in
    let s : those (is P) (ps ++ r ∷ rs) ≡ those (is P) ps ++ (r ∷ those (is P) rs) =
    those-append (is P) ps (r ∷ rs) ∙ ap (λ (l : List Row). those (is P) ps ++ l) k in
    let m : n ≡ n + 0 = omega arith in (
      omega (arith, ap length s, length-append (those (is P) ps) (r ∷ those (is P) rs)),
      ap₂ (λ (l : List Row) (i : ℕ). get_or l i no_row) s m ∙ get_or-append-add (those (is P) ps) (r ∷ those (is P) rs) 0 no_row,
    )

-- a fact of each line, of the line behind the first ones
pub each-there : (T : Row → Type 0) (ps : List Row) (r : Row) (rs : List Row) → Each T (ps ++ r ∷ rs) → T r
each-there T [] r rs e = e.0
each-there T (p ∷ ps) r rs e = each-there T ps r rs e.1

-- an edge is no property
edge-only : (l : ℕ) → eqb l E ≡ true → eqb l P ≡ false
edge-only l e = ap (λ (m : ℕ). eqb m P) (eqb-true l E e)

-- a limit that is 0 where a line cannot clash
any-limit : (f : ℕ → Bool) (b : Bool) (n : ℕ) → (b && any f (count_up 0 n)) ≡ any f (count_up 0 (cond b n 0))
any-limit f true n = refl
any-limit f false n = refl

-- one of two kinds of line, each with its own earlier lines
twin_groups : (b c X Y : Bool) (f g : ℕ → Bool) (m n : ℕ) → (b ≡ true → X ≡ any f (count_up 0 m))
    → (c ≡ true → Y ≡ any g (count_up 0 n)) → (b ≡ true → c ≡ false)
    → worse (grouped b ((0 # X) ∷ [])) (worse (grouped c ((0 # Y) ∷ [])) None)
    ≡ fault_if (any (λ j. cond b (f j) (g j)) (count_up 0 (cond b m (cond c n 0)))) 0
twin_groups true c X Y f g m n p q s =
    ap (λ (t : Bool). worse (worse (fault_if X 0) None) (worse (grouped t ((0 # Y) ∷ [])) None)) (s refl)
    ∙ one_group true X 0
    ∙ ap (λ (t : Bool). fault_if t 0) (p refl)
twin_groups false true X Y f g m n p q s = one_group true Y 0 ∙ ap (λ (t : Bool). fault_if t 0) (q refl)
twin_groups false false X Y f g m n p q s = refl

-- the graph that the areas hold
abbrev graph_held : Areas → Graph
graph_held x = graph_at x.nodes x.properties x.values

-- whether a row is an edge whose field is no list, by its first two numbers
abbrev single : Areas → Row → ℕ → ℕ → Bool
single x r u f = eqb r.letter E && not (is_list (schema_at x.schema) ((nodes_at x.nodes).type_of u) (field_no f))

module _ (x : Areas) (ps : List Row) (r : Row) (rs : List Row) (ready : GraphReady (ps ++ r ∷ rs) x) where
  formed : Formed r
  formed = each-there Formed ps r rs ready.formed

  -- the values of a property stand behind those of the properties before it
  values-read : is P r ≡ true → values_of r ≡ values_at x.properties x.values (counted 9 ps)
  values-read e =
      let j = counted 9 ps in
      let d = next-property ps r rs e in
      sym (ap₂ (λ (p v : List ℕ). values_at p v j) ready.properties ready.values
      ∙ property-values (length x.nodes) (length x.properties) (length x.values) (ps ++ r ∷ rs)
      ready.nodes_long ready.properties_long ready.values_long ready.fits ready.formed j d.0
      ∙ ap values_of d.1)

  -- what 24 says of a row with the letter l
  abbrev Split24 : ℕ → Type 0
  Split24 l =
      fault (check24 (schema_at x.schema) (graph_held x) (reverse ps) (row_with r.numbers l) rs)
      ≡ alone24 x (counts_of ps) l (nums r)

  edge-split : Split24 E
  unfolding alone24
  edge-split = edge_24 x.schema x.nodes x.properties x.values ps rs r.numbers

  property-split : is P r ≡ true → Split24 P
  unfolding alone24 counts_of
  property-split e =
      property_24 x.schema x.nodes x.properties x.values ps rs r.numbers
      (values_at x.properties x.values (counted 9 ps)) (values-read e)

  other_split : (l : ℕ) → eqb l E ≡ false → eqb l P ≡ false → Split24 l
  unfolding alone24
  other_split l e f = other_24 x.schema x.nodes x.properties x.values ps rs r.numbers l e f ∙ rw (e, f)

  pub split_24 : fault (check24 (schema_at x.schema) (graph_held x) (reverse ps) r rs)
      ≡ alone24 x (counts_of ps) r.letter (nums r)
  split_24 =
      by_test (is E r)
      (λ e. subst Split24 (sym (eqb-true r.letter E e)) edge-split)
      (λ e. by_test (is P r)
      (λ f. subst Split24 (sym (eqb-true r.letter P f)) (property-split f))
      (λ f. other_split r.letter e f))

  -- ---- 25 and 26

  -- an earlier edge from the same node, with the same field, to another target
  diverts-read : any (diverts r) (reverse ps) ≡ any (diverts_at x.nodes (nums r)) (count_up 0 (counted 8 ps))
  unfolding diverts_at
  diverts-read =
      any-reverse (diverts r) ps
      ∙ sym (edges-among (length x.nodes) ps (r ∷ rs) ready.nodes_long ready.fits ready.formed
      (λ u f l w. eqb u (at r 0) && (eqb f (at r 1) && not (eqb w (at r 2)))))
      ∙ ap (λ (g : List ℕ). any
      (λ j. eqb (wide_at g 1544 j 2) (at r 0) && (eqb (wide_at g 1544 j 3) (at r 1) && not (eqb (wide_at g 1544 j 4) (at r 2))))
      (count_up 0 (counted 8 ps)))
      (sym ready.nodes)
      ∙ (λ i. any
      (λ j. eqb (wide_at x.nodes 1544 j 2) (number_read r 0 (omega arith) i)
      && (eqb (wide_at x.nodes 1544 j 3) (number_read r 1 (omega arith) i)
      && not (eqb (wide_at x.nodes 1544 j 4) (number_read r 2 (omega arith) i))))
      (count_up 0 (counted 8 ps)))

  pub split_25 : fault (check25 (schema_at x.schema) (graph_held x) (reverse ps) r rs)
      ≡ fault_if
      (any (diverts_at x.nodes (nums r))
      (count_up 0 (cond (single x r (get_or (nums r) 0 0) (get_or (nums r) 1 0)) (counted 8 ps) 0)))
      0
  unfolding graph_at nodes_at
  split_25 =
      let can = single x r (get_or (nums r) 0 0) (get_or (nums r) 1 0) in
      one_group (single x r (at r 0) (at r 1)) (any (diverts r) (reverse ps)) 0
      ∙ ap₂ (λ (u f : ℕ). fault_if (single x r u f && any (diverts r) (reverse ps)) 0)
      (number_read r 0 (omega arith))
      (number_read r 1 (omega arith))
      ∙ ap (λ (b : Bool). fault_if (can && b) 0) diverts-read
      ∙ ap (λ (b : Bool). fault_if b 0) (any-limit (diverts_at x.nodes (nums r)) can (counted 8 ps))

  edge_twin : is E r ≡ true
      → any (λ e. edge_of (source r) (label_of r) e && eqb (target e) (target r)) (reverse ps)
      ≡ any (twin_edge x.nodes (nums r)) (count_up 0 (counted 8 ps))
  unfolding twin_edge starts_at
  edge_twin e =
      any-reverse (λ c. edge_of (source r) (label_of r) c && eqb (target c) (target r)) ps
      ∙ ap (λ (f : Row → Bool). any f ps)
      (fun_ext (λ c. and_assoc (is E c) (starts (source r) (label_of r) c) (eqb (target c) (target r))))
      ∙ sym (edges-among (length x.nodes) ps (r ∷ rs) ready.nodes_long ready.fits ready.formed
      (λ u f l w. (eqb u (at r 0) && same_label l (label_of r)) && eqb w (at r 2)))
      ∙ ap (λ (g : List ℕ). any (λ j. starts_at g 1544 (at r 0) (label_of r) j && eqb (wide_at g 1544 j 4) (at r 2)) (count_up 0 (counted 8 ps)))
      (sym ready.nodes)
      ∙ (λ i. any
      (λ j. starts_at x.nodes 1544 (number_read r 0 (omega arith) i) (label-read r (formed.0 e) i) j
      && eqb (wide_at x.nodes 1544 j 4) (number_read r 2 (omega arith) i))
      (count_up 0 (counted 8 ps)))

  property_twin : is P r ≡ true
      → any (property_of (source r) (label_of r)) (reverse ps)
      ≡ any (twin_property x.properties (nums r)) (count_up 0 (counted 9 ps))
  unfolding twin_property starts_at
  property_twin e =
      any-reverse (property_of (source r) (label_of r)) ps
      ∙ sym (properties-among (length x.properties) ps (r ∷ rs) ready.properties_long ready.fits ready.formed
      (λ u f l w. eqb u (at r 0) && same_label l (label_of r)))
      ∙ ap (λ (g : List ℕ). any (starts_at g 8 (at r 0) (label_of r)) (count_up 0 (counted 9 ps))) (sym ready.properties)
      ∙ ap₂ (λ (u : ℕ) (l : Label). any (starts_at x.properties 8 u l) (count_up 0 (counted 9 ps)))
      (number_read r 0 (omega arith))
      (label-read r (formed.1 e))

  pub split_26 : fault (check26 (reverse ps) r rs)
      ≡ fault_if
      (any (λ j. cond (eqb r.letter E) (twin_edge x.nodes (nums r) j) (twin_property x.properties (nums r) j))
      (count_up 0 (cond (eqb r.letter E) (counted 8 ps) (cond (eqb r.letter P) (counted 9 ps) 0))))
      0
  split_26 =
      twin_groups (is E r) (is P r)
      (any (λ e. edge_of (source r) (label_of r) e && eqb (target e) (target r)) (reverse ps))
      (any (property_of (source r) (label_of r)) (reverse ps))
      (twin_edge x.nodes (nums r))
      (twin_property x.properties (nums r))
      (counted 8 ps) (counted 9 ps) edge_twin property_twin (edge-only r.letter)
