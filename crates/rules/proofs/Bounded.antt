-- Theorem 9: the first half of Proposition 1, that a response is of size O(|G|^‖φ‖), with its constants. Assumes nothing.
use Prim.Native.Nat.{ℕ, zero, suc, ◌+◌, ◌*◌, ◌^◌, ◌≤◌, ◌<◌}
use native.Mathlib.Nat.{add-mul, mul_assoc, suc-mul, mul-le-mul_left, mul-le-mul_right, le-mul_of_pos_right}
use native.Mathlib.Nat.{pow-zero, pow-succ', one-le-pow, pow-le-pow_left}
use native.Mathlib.Omega.{arith}
use mathlib.Core.Path.{◌≡◌, refl, ap, ◌∙◌}
use mathlib.Core.Bool.{Bool, true, false, ◌&&◌}
use mathlib.Core.List.{List, [], ◌∷◌}
use lib.Dec.{eqb}
use lib.ListN.{length, length-append, length-map}
use lib.Pow.{pow-add}
use Rattle.rules.specs.Lists.{those, keep_if, sum_of}
use Rattle.rules.specs.Text.{Row, rows, at, E, P, values_of, field_no}
use Rattle.rules.specs.Schema.{Schema, schema_of, is}
use Rattle.rules.specs.Graph.{Label, Found, nothing, one, many, graph_of, target, starts, edge_of, property_of, found_in}
use Rattle.rules.specs.Tree.{Asks, field, on, Forest, none, node, preorder}
use Rattle.rules.specs.World.{World, world, Shape, scalar, list, single}
use Rattle.rules.specs.Eval.{eval, shown, next, onward, stay}
use Rattle.rules.specs.Sizing.{own, of_value, of_field}
use Rattle.rules.specs.Answer.{Texts, schema_in, graph_rows, query_rows, world_of, root_of, tree_of, response, checks}
use Rattle.rules.specs.Contract.{Passed}
use Rattle.rules.specs.Samples.{text}
use Rattle.rules.specs.Doubling.{schema, query, name, asking}
use Rattle.rules.specs.Bound.{query_size, graph_size}
use Rattle.rules.proofs.Sums.{sum_ones}
use Rattle.rules.proofs.Size.{shown-length}
use Rattle.rules.proofs.Facts.{facts}
use Rattle.rules.proofs.Accepted.{length-entries, all-entries}

-- ---- one entry at one node, in a limited world

-- every list of targets and every sequence of values has at most b members
pub record Limits (w : World) (b : ℕ) : Type 0 where
  pub targets : (u : ℕ) (l : Label) → length (w.targets u l) ≤ b
  pub values : (u : ℕ) (l : Label) (xs : List ℕ) → w.lookup u l ≡ many xs → length xs ≤ b

module _ (b : ℕ) where
  -- an entry's own tokens: at most 3 + 2b,
  value-limited : (f : Found) → ((xs : List ℕ) → f ≡ many xs → length xs ≤ b) → of_value f ≤ 2 * b + 3
  value-limited nothing h = omega arith
  value-limited (one x) h = omega arith
  value-limited (many xs) h = omega (arith, h xs refl)

  field-limited : (s : Shape) (f : Found) (vs : List ℕ) → of_value f ≤ 2 * b + 3 → length vs ≤ b → of_field s f vs ≤ 2 * b + 3
  field-limited scalar f vs h k = h
  field-limited list f vs h k = omega arith
  field-limited single f [] h k = omega arith
  field-limited single f (v ∷ vs) h k = omega arith

  own-limited : (w : World) → Limits w b → (a : Asks) (u : ℕ) → own w a u ≤ 2 * b + 3
  own-limited w k (field n l) u =
      field-limited (w.shape u l.field) (w.lookup u l) (w.targets u l) (value-limited (w.lookup u l) (k.values u l))
      (k.targets u l)
  own-limited w k (on t) u = omega arith

  -- and the nodes at which its evaluation goes on: at most b + 1, for a type condition stays where it is
  onward-limited : (s : Shape) (vs : List ℕ) → length vs ≤ b → length (onward s vs) ≤ b + 1
  onward-limited scalar vs h = omega arith
  onward-limited list vs h = omega arith
  onward-limited single [] h = omega arith
  onward-limited single (v ∷ vs) h = omega arith

  stay-limited : (c : Bool) (u : ℕ) → length (stay c u) ≤ b + 1
  stay-limited true u = omega arith
  stay-limited false u = omega arith

  next-limited : (w : World) → Limits w b → (a : Asks) (u : ℕ) → length (next w a u) ≤ b + 1
  next-limited w k (field n l) u = onward-limited (w.shape u l.field) (w.targets u l) (k.targets u l)
  next-limited w k (on t) u = stay-limited (w.holds u t) u

-- ---- the law on worlds

-- the sum of at most c numbers, each below m, is c below c * m
sum_below : (g : ℕ → ℕ) (m : ℕ) → ((v : ℕ) → g v < m) → (vs : List ℕ) (c : ℕ) → length vs ≤ c → sum_of g vs + c ≤ c * m
sum_below g m h [] c k =
    let some : 0 < m = omega (arith, h 0) in
    omega (arith, le-mul_of_pos_right c some)
sum_below g m h (v ∷ vs) zero k = absurd (omega arith)
sum_below g m h (v ∷ vs) (suc c) k =
    let r = sum_below g m h vs c (omega arith) in
    omega (arith, h v, suc-mul c m)

-- an entry takes its factor: p stands for its children's power, and q for that of the entries beside it
factor : (b p q : ℕ) → 1 ≤ p → 1 ≤ q → b + 2 + (b + 1) * p + q ≤ (2 * b + 4) * (p * q)
factor b p q h k =
    let r = p * q in
    let beside : q ≤ r = omega (arith, mul-le-mul_right q h) in
    let kids : (b + 1) * p ≤ (b + 1) * r = mul-le-mul_left (b + 1) (le-mul_of_pos_right p k) in
    let here : b + 2 ≤ (b + 2) * r = le-mul_of_pos_right (b + 2) (omega arith) in
    omega (arith, add-mul b 1 r, add-mul b 2 r, add-mul (2 * b) 4 r, mul_assoc 2 b r)

-- c to the size of a query, by its first entry
power : (c k r : ℕ) → c ^ (1 + k + r) ≡ c * (c ^ k * c ^ r)
power c k r = ap (λ (n : ℕ). c ^ n) (omega arith) ∙ pow-succ' c (k + r) ∙ ap (λ (n : ℕ). c * n) (pow-add c k r)

module _ (w : World) (b : ℕ) (limits : Limits w b) where
  -- each entry of the query has the factor 2b + 4: b + 2 tokens about it, b + 1 times its children, and what stands beside it
  pub eval_bounded : (q : Forest) (u : ℕ) → length (eval w q u) < (2 * b + 4) ^ query_size q
  eval_bounded none u = omega (arith, pow-zero (2 * b + 4))
  eval_bounded (node e kids rest) u =
      let c = 2 * b + 4 in
      let k = c ^ query_size kids in
      let r = c ^ query_size rest in
      let below : ℕ → List ℕ = λ v. eval w kids v in
      let all = length-append (shown w e.asks u below) (eval w rest u) in
      let first = shown-length w e.asks u below in
      let mine = own-limited b w limits e.asks u in
      let onwards = next-limited b w limits e.asks u in
      let kids-sum = sum_below (λ v. length (below v)) k (λ v. eval_bounded kids v) (next w e.asks u) (b + 1) onwards in
      let beside = eval_bounded rest u in
      let some : 0 < c = omega arith in
      let fits = factor b k r (one-le-pow (query_size kids) c some) (one-le-pow (query_size rest) c some) in
      omega (arith, power c (query_size kids) (query_size rest))

-- ---- the world of a graph's rows

-- the sum over those that pass two tests is at most the sum over those that pass the first
sum_narrower : {A : Type 0} (g : A → ℕ) (p q : A → Bool) (xs : List A) → sum_of g (those (λ x. p x && q x) xs) ≤ sum_of g (those p xs)
sum_narrower g p q [] = omega arith
sum_narrower g p q (x ∷ xs) = go (sum_narrower g p q xs) (p x) (q x)
  where
    go : sum_of g (those (λ y. p y && q y) xs) ≤ sum_of g (those p xs) → (a b : Bool)
        → sum_of g (keep_if (a && b) x (those (λ y. p y && q y) xs)) ≤ sum_of g (keep_if a x (those p xs))
    go ih true true = omega arith
    go ih true false = omega arith
    go ih false b = ih

-- the sequence that is found is that of one of the properties
found_among : (ps : List Row) (xs : List ℕ) → found_in ps ≡ many xs → length xs ≤ sum_of (λ p. length (values_of p)) ps
found_among [] xs h = let never : ◌≡◌ {A = ℕ} 0 1 = cc in absurd (omega arith)
found_among (p ∷ ps) xs h = go (eqb (at p 2) 1) refl
  where
    go : (c : Bool) → eqb (at p 2) 1 ≡ c → length xs ≤ length (values_of p) + sum_of (λ r. length (values_of r)) ps
    go true e = let same : values_of p ≡ xs = cc (rw (e, found_in) at h) in omega (arith, ap length same)
    go false e = let never : ◌≡◌ {A = ℕ} 0 1 = cc (rw (e, found_in) at h) in absurd (omega arith)

-- targets are among the edges, and the values of one property among all values
pub graph_limits : (s : Schema) (g : List Row) → Limits (world s (graph_of g)) (graph_size g)
graph_limits s g =
    record {
      targets = λ u l. omega (
        arith,
        length-map (those (edge_of u l) g) target,
        sum_ones (those (edge_of u l) g),
        sum_ones (those (is E) g),
        sum_narrower (λ _. 1) (is E) (starts u l) g,
      );
      values = λ u l xs h. omega (
        arith,
        found_among (those (property_of u l) g) xs h,
        sum_narrower (λ p. length (values_of p)) (is P) (starts u l) g,
      );
    }

-- ---- three texts

-- for every three texts, whether they pass or not
pub response-within : (x : Texts) → length (response x) < (2 * graph_size (graph_rows x) + 4) ^ query_size (tree_of x)
response-within x =
    eval_bounded (world_of x) (graph_size (graph_rows x)) (graph_limits (schema_in x) (graph_rows x)) (tree_of x) (root_of x)

-- "⟦φ⟧_G is of size O(|G|^‖φ‖)": texts that pass have a node, so that 2 |G| + 4 is at most 6 |G|
pub response_bounded : (short : Bool) (x : Texts) → Passed (checks short x)
    → length (response x) < (6 * graph_size (graph_rows x)) ^ query_size (tree_of x)
response_bounded short x p =
    let root = (facts short x p).root in
    let wider : 2 * graph_size (graph_rows x) + 4 ≤ 6 * graph_size (graph_rows x) = omega arith in
    omega (arith, response-within x, pow-le-pow_left wider (query_size (tree_of x)))

-- ‖φ‖ is the number of the entries in preorder,
pub size-entries : (q : Forest) → query_size q ≡ length (preorder q)
size-entries none = refl
size-entries (node e kids rest) = omega (arith, length-append (preorder kids) (preorder rest), size-entries kids, size-entries rest)

-- so of texts that pass it is the number of the query's lines
pub size-lines : (short : Bool) (x : Texts) → Passed (checks short x) → query_size (tree_of x) ≡ length (query_rows x)
size-lines short x p =
    size-entries (tree_of x) ∙ ap length (all-entries x (facts short x p)) ∙ length-entries 0 (query_rows x)

-- ---- why the 6 stands inside the power

-- a graph of one node and nothing else, so that |G| is 1, and n queries query{name} side by side, each with two tokens
abbrev pub alone : List Row
alone = rows (text "N 1/")

abbrev pub side_by_side : ℕ → Forest
side_by_side zero = none
side_by_side (suc n) =
    let asks = field query (record { field = field_no query; args = [] }) in
    node (record { place = 0; level = 0; asks = asks }) (asking name none) (side_by_side n)

abbrev pub alone_answer : ℕ → List ℕ
alone_answer n = eval (world (schema_of (rows schema)) (graph_of alone)) (side_by_side n) 0

alone-length : (n : ℕ) → length (alone_answer n) ≡ 2 * n
alone-length zero = refl
alone-length (suc n) = omega (arith, alone-length n)

alone-power : (n : ℕ) → graph_size alone ^ n ≡ 1
alone-power zero = pow-zero 1
alone-power (suc n) = omega (arith, pow-succ' 1 n, alone-power n)

-- so no constant c in front of |G|^‖φ‖ serves every query
pub no_constant_in_front : (c : ℕ) → c * graph_size alone ^ query_size (side_by_side (suc c)) < length (alone_answer (suc c))
no_constant_in_front c =
    let flat = ap (λ (n : ℕ). c * n) (alone-power (query_size (side_by_side (suc c)))) in
    omega (arith, alone-length (suc c))
