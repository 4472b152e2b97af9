-- Theorem 8: every token of an accepted response is a value, a label or one of the five marks, and below 2^32. Assumes nothing.
use Prim.Native.Nat.{ℕ, suc, ◌+◌, ◌*◌, ◌^◌, ◌≤◌, ◌<◌, compare, Ordering}
use native.Mathlib.Omega.{arith}
use mathlib.Core.Path.{◌≡◌, refl}
use mathlib.Core.Bool.{Bool, true, false}
use mathlib.Core.List.Memᴰ
use mathlib.Core.List.{List, [], ◌∷◌, Memᴰ}
use mathlib.Core.Logic.{◌⊎◌, inl, inr}
use lib.Dec.{eqb}
use lib.ListN.{get_or}
use borrow.Author.Tests.{ltb-false}
use Rattle.rules.specs.Lists.{those, each}
use Rattle.rules.specs.Text.{largest, Row, at, values_of, F}
use Rattle.rules.specs.Schema.{Schema, is}
use Rattle.rules.specs.Graph.{Label, Found, nothing, one, many, found_in, property_of}
use Rattle.rules.specs.Query.{shown_as, check33}
use Rattle.rules.specs.Tree.{Asks, field, on, Entry, Forest, none as noEntry, node, asks_of, entries_from, siblings}
use Rattle.rules.specs.World.{World, Shape, scalar, list, single}
use Rattle.rules.specs.Eval.{label, open_object, close_object, open_list, close_list, null, object, listed, value, answer, only_if, shown, eval}
use Rattle.rules.specs.Answer.{Texts, schema_in, graph_rows, query_rows, world_of, root_of, tree_of, response, checks}
use Rattle.rules.specs.Contract.{Passed}
use Rattle.rules.proofs.Clean.{Calm, Each, each_map, each_append, each-drop, each-those, clean, clean-each}
use Rattle.rules.proofs.Sound.{Small, rows_small}

pub data Token (t : ℕ) : Type 0 where
  is_value : t ≤ largest → Token t
  is_label : (l : ℕ) → l ≤ 255 → t ≡ label l → Token t
  is_mark : Memᴰ t (open_object ∷ close_object ∷ open_list ∷ close_list ∷ null ∷ []) → Token t

-- ---- the values that lookups find are at most 999,999,999

abbrev pub SmallFound : Found → Type 0
SmallFound nothing = Unit {0}
SmallFound (one x) = x ≤ largest
SmallFound (many xs) = Small xs

get_small : (ns : List ℕ) → Small ns → get_or ns 0 0 ≤ largest
get_small [] e = omega arith
get_small (n ∷ ns) e = e.0

found_small : (ps : List Row) → Each (λ r. Small r.numbers) ps → SmallFound (found_in ps)
found_small [] e = tt
found_small (p ∷ ps) e = go (eqb (at p 2) 1) refl
  where
    vs : Small (values_of p)
    vs = each-drop (λ n. n ≤ largest) (4 + 2 * at p 3) p.numbers e.0

    go : (b : Bool) → eqb (at p 2) 1 ≡ b → SmallFound (found_in (p ∷ ps))
    go true q = rw (q, found_in) vs
    go false q = rw (q, found_in) (get_small (values_of p) vs)

-- ---- 33: labels are at most 255

abbrev pub Labelled : Asks → Type 0
Labelled (field n l) = n ≤ 255
Labelled (on t) = Unit {0}

abbrev pub LabelledTree : Forest → Type 0
LabelledTree noEntry = Unit {0}
LabelledTree (node e kids rest) = Labelled e.asks × LabelledTree kids × LabelledTree rest

row_labelled : (s : Schema) (before : List Row) (r : Row) (after : List Row) → Calm (check33 s before r after) → Labelled (asks_of r)
row_labelled s before r after c = go (is F r) refl
  where
    go : (b : Bool) → is F r ≡ b → Labelled (asks_of r)
    go true q = rw (q, asks_of) (ltb-false 255 (shown_as r) (c.0 q).0)
    go false q = rw (q, asks_of) tt

entries-labelled : (i : ℕ) (q : List Row) → Each (λ r. Labelled (asks_of r)) q → Each (λ e. Labelled e.asks) (entries_from i q)
entries-labelled i [] e = tt
entries-labelled i (r ∷ rs) e = (e.0, entries-labelled (suc i) rs e.1)

siblings-labelled : (es : List Entry) (d : ℕ) → Each (λ e. Labelled e.asks) es → LabelledTree (siblings es d)
siblings-labelled [] d h = tt
siblings-labelled (e ∷ es) d h = go (siblings-labelled es (suc d) h.1) (siblings-labelled es d h.1) (compare e.level d) refl
  where
    go : LabelledTree (siblings es (suc d)) → LabelledTree (siblings es d) → (o : Ordering) → compare e.level d ≡ o
        → LabelledTree (siblings (e ∷ es) d)
    go ik ir Ordering.lt q = rw (q, siblings) tt
    go ik ir Ordering.eq q = rw (q, siblings) (h.0, ik, ir)
    go ik ir Ordering.gt q = rw (q, siblings) ir

-- ---- the tokens of a response

abbrev Tokens : List ℕ → Type 0
Tokens ts = Each Token ts

object-tokens : (r : List ℕ) → Tokens r → Tokens (object r)
object-tokens r h =
    (is_mark (Memᴰ.head refl), each_append Token r (close_object ∷ []) h (is_mark (Memᴰ.tail (Memᴰ.head refl)), tt))

listed-tokens : (r : List ℕ) → Tokens r → Tokens (listed r)
listed-tokens r h = (
  is_mark (Memᴰ.tail (Memᴰ.tail (Memᴰ.head refl))),
  each_append Token r (close_list ∷ []) h (is_mark (Memᴰ.tail (Memᴰ.tail (Memᴰ.tail (Memᴰ.head refl)))), tt),
)

null-tokens : Tokens (null ∷ [])
null-tokens = (is_mark (Memᴰ.tail (Memᴰ.tail (Memᴰ.tail (Memᴰ.tail (Memᴰ.head refl))))), tt)

value-tokens : (f : Found) → SmallFound f → Tokens (value f)
value-tokens nothing h = null-tokens
value-tokens (one x) h = (is_value h, tt)
value-tokens (many xs) h = listed-tokens xs (each_map (λ n. n ≤ largest) Token (λ n k. is_value k) xs h)

objects-tokens : (below : ℕ → List ℕ) → ((v : ℕ) → Tokens (below v)) → (vs : List ℕ) → Tokens (each (λ v. object (below v)) vs)
objects-tokens below h [] = tt
objects-tokens below h (v ∷ vs) =
    each_append Token (object (below v)) (each (λ x. object (below x)) vs) (object-tokens (below v) (h v)) (objects-tokens below h vs)

answer-tokens : (s : Shape) (f : Found) (vs : List ℕ) (below : ℕ → List ℕ) → SmallFound f → ((v : ℕ) → Tokens (below v))
    → Tokens (answer s f vs below)
answer-tokens scalar f vs below k h = value-tokens f k
answer-tokens list f vs below k h = listed-tokens (each (λ v. object (below v)) vs) (objects-tokens below h vs)
answer-tokens single f [] below k h = null-tokens
answer-tokens single f (v ∷ vs) below k h = object-tokens (below v) (h v)

only-tokens : (b : Bool) (below : ℕ → List ℕ) (u : ℕ) → ((v : ℕ) → Tokens (below v)) → Tokens (only_if b below u)
only-tokens true below u h = h u
only-tokens false below u h = tt

module _ (w : World) (small : (u : ℕ) (l : Label) → SmallFound (w.lookup u l)) where
  shown-tokens : (a : Asks) (u : ℕ) (below : ℕ → List ℕ) → Labelled a → ((v : ℕ) → Tokens (below v)) → Tokens (shown w a u below)
  shown-tokens (field n l) u below k h =
      (is_label n k refl, answer-tokens (w.shape u l.field) (w.lookup u l) (w.targets u l) below (small u l) h)
  shown-tokens (on t) u below k h = only-tokens (w.holds u t) below u h

  eval-tokens : (q : Forest) → LabelledTree q → (u : ℕ) → Tokens (eval w q u)
  eval-tokens noEntry h u = tt
  eval-tokens (node e kids rest) h u =
      each_append Token (shown w e.asks u (λ v. eval w kids v)) (eval w rest u)
      (shown-tokens e.asks u (λ v. eval w kids v) h.0 (λ v. eval-tokens kids h.1 v))
      (eval-tokens rest h.2 u)

-- ---- of texts that pass

pub lookups_small : (x : Texts) (u : ℕ) (l : Label) → SmallFound ((world_of x).lookup u l)
lookups_small x u l =
    let g = graph_rows x in
    found_small (those (property_of u l) g) (each-those (λ r. Small r.numbers) (property_of u l) g (rows_small x.graph))

pub tree-labelled : (short : Bool) (x : Texts) → Passed (checks short x) → LabelledTree (tree_of x)
tree-labelled short x p =
    let s = schema_in x in
    let q = query_rows x in
    let labels = clean-each (check33 s) (λ r. Labelled (asks_of r)) (row_labelled s) [] q (clean (check33 s) [] 1 q (p 33)) in
    siblings-labelled (entries_from 0 q) 0 (entries-labelled 0 q labels)

pub response-tokens : (short : Bool) (x : Texts) → Passed (checks short x) → Each Token (response x)
response-tokens short x p = eval-tokens (world_of x) (lookups_small x) (tree_of x) (tree-labelled short x p) (root_of x)

-- ---- below 2^32

member_below : (k t : ℕ) (ms : List ℕ) → Each (λ m. m < k) ms → Memᴰ t ms → t < k
member_below k t [] e m = absurd (Memᴰ.not-nil m)
member_below k t (n ∷ ms) e m = go (λ l. member_below k t ms e.1 l) (Memᴰ.cases_cons m)
  where
    go : (Memᴰ t ms → t < k) → (t ≡ n) ⊎ Memᴰ t ms → t < k
    go ih (inl q) = omega (arith, e.0)
    go ih (inr l) = ih l

pub token_below : (t : ℕ) → Token t → t < 2 ^ 32
token_below t (is_value h) = omega arith
token_below t (is_label l h e) = omega arith
token_below t (is_mark m) = member_below (2 ^ 32) t (open_object ∷ close_object ∷ open_list ∷ close_list ∷ null ∷ []) (omega arith) m
