-- Checks 22 to 24: a line of the graph, with the areas that hold the graph of all lines. Assumes nothing.
use Prim.Native.Nat.{ℕ, ◌*◌, ◌≤◌, ◌<◌}
use native.Mathlib.Omega.{arith}
use mathlib.Core.Path.{◌≡◌, refl, sym, ap, ap₂, ◌∙◌}
use mathlib.Core.Bool.{true, not}
use mathlib.Core.List.{List, [], ◌∷◌, ◌++◌, reverse}
use Rattle.std.specs.Prelude.{Option, None}
use lib.ListN.{length, get_or, drop, length-drop}
use Rattle.rules.specs.Text.{Row, at, E, Pair, pairs, pairs_of, field_no, type_no}
use Rattle.rules.specs.Search.{Test, ◌#◌, test_each, worse, fault}
use Rattle.rules.specs.Schema.{is, in_range, is_object, declared_field, declared_arg, has_field, takes_arg, arg_type}
use Rattle.rules.specs.Graph.{label_of, is_datum, declared_node, type_of, check22, check23}
use Rattle.text.specs.Line.{padded}
use Rattle.text.proofs.Tools.{by_test}
use Rattle.tables.specs.Read.{schema_at, graph_at}
use Rattle.tables.proofs.Wide.{padded-at, padded-pairs}
use Rattle.tables.proofs.Graphs.{Labelled, Formed}
use Rattle.graph.specs.Faults.{row_for, label_for, nodes_at, fault22, fault23}
use Rattle.search.proofs.Groups.{grouped, same_group}

-- ---- the first twelve numbers of a row say what the row says

-- the numbers of a row as the code reads them
abbrev pub nums : Row → List ℕ
nums r = padded 12 r.numbers

padded-behind : (ns : List ℕ) → drop 4 (padded 12 ns) ≡ padded 8 (drop 4 ns)
unfolding padded
padded-behind [] = refl
padded-behind (a ∷ []) = refl
padded-behind (a ∷ b ∷ []) = refl
padded-behind (a ∷ b ∷ c ∷ []) = refl
padded-behind (a ∷ b ∷ c ∷ d ∷ ns) = refl

module _ (r : Row) where
  pub number_read : (i : ℕ) → i < 12 → at r i ≡ get_or (nums r) i 0
  number_read i h = sym (padded-at 12 r.numbers i h)

  pairs-read : Labelled r → pairs_of r ≡ pairs (get_or (nums r) 3 0) (drop 4 (nums r))
  pairs-read l =
      let ns = r.numbers in
      let room : 2 * at r 3 ≤ length (drop 4 ns) = simp length-drop (omega (arith, l.long)) in
      sym (padded-pairs (at r 3) 8 (drop 4 ns) (omega (arith, l.few)) room)
      ∙ ap (pairs (at r 3)) (sym (padded-behind ns))
      ∙ ap (λ (m : ℕ). pairs m (drop 4 (padded 12 ns))) (number_read 3 (omega arith))

  pub label-read : Labelled r → label_of r ≡ label_for (nums r)
  unfolding label_for
  label-read l = λ i. record { field = field_no (number_read 1 (omega arith) i); args = pairs-read l i }

-- an edge or a property has its pairs
datum-labelled : (r : Row) → Formed r → is_datum r ≡ true → Labelled r
datum-labelled r f h = by_test (is E r) f.0 (λ e. f.1 (rw e at h))

-- ---- 22 and 23

module _ (a g p v : List ℕ) (ps : List Row) (r : Row) (rs : List Row) (formed : Formed r) where
  tests22 : ℕ → ℕ → List Pair → List Test
  tests22 x y qs =
      (2 # not (declared_node (nodes_at g) x))
      ∷ (3 # not (declared_field (schema_at a) (field_no y)))
      ∷ test_each (λ q. not (declared_arg (schema_at a) q.arg)) 2 6 qs

  pub split_22 : fault (check22 (schema_at a) (graph_at g p v) (reverse ps) r rs) ≡ fault22 a g r.letter (nums r)
  unfolding fault22 row_for graph_at nodes_at tests22
  split_22 =
      ap₂ worse (ap (λ (x : ℕ). grouped (is 78 r) ((2 # not (is_object (schema_at a) (type_no x))) ∷ [])) (number_read r 0 (omega arith)))
      (ap₂ worse (same_group (is_datum r) (tests22 (at r 0) (at r 1) (pairs_of r)) _
      (λ h i. tests22 (number_read r 0 (omega arith) i) (number_read r 1 (omega arith) i) (pairs-read r (datum-labelled r formed h) i)))
      (ap (λ (x : ℕ). worse (grouped (is E r) ((4 # not (declared_node (nodes_at g) x)) ∷ [])) None) (number_read r 2 (omega arith))))

  tests23 : ℕ → ℕ → List Pair → List Test
  tests23 x y qs =
      (3 # not (has_field (schema_at a) (type_of (nodes_at g) x) (field_no y)))
      ∷ test_each (λ q. not (takes_arg (schema_at a) (field_no y) q.arg)) 2 6 qs
      ++ test_each (λ q. not (in_range (schema_at a) (arg_type (schema_at a) q.arg) q.value)) 2 7 qs

  pub split_23 : fault (check23 (schema_at a) (graph_at g p v) (reverse ps) r rs) ≡ fault23 a g r.letter (nums r)
  unfolding fault23 row_for graph_at nodes_at tests23
  split_23 =
      ap (λ (o : Option ℕ). worse o None) (same_group (is_datum r) (tests23 (at r 0) (at r 1) (pairs_of r)) _
      (λ h i. tests23 (number_read r 0 (omega arith) i) (number_read r 1 (omega arith) i) (pairs-read r (datum-labelled r formed h) i)))
