-- The response to accepted texts is a response by Definition 5. Assumes nothing.
use Prim.Native.Nat.{ℕ, zero, suc, ◌+◌, ◌-◌, ◌≤◌, min, compare, Ordering}
use native.Mathlib.Omega.{arith}
use mathlib.Core.Path.{◌≡◌, refl, sym, ap, subst, ◌∙◌}
use mathlib.Core.Bool.{Bool, true, false}
use mathlib.Core.List.{List, [], ◌∷◌, ◌++◌, append_assoc, append-nil}
use lib.Dec.{compare_is_eq}
use lib.ListN.{length}
use borrow.Author.Tests.{ltb-false, eqb-true}
use Rattle.rules.specs.Lists.{Each, each}
use Rattle.rules.specs.Text.{Row}
use Rattle.rules.specs.Graph.{Label, Found, nothing, one as oneValue, many}
use Rattle.rules.specs.Query.{depth, check31}
use Rattle.rules.specs.Tree.{Asks, field as asking, on, Entry, Forest, none as noEntry, node, entries_from, siblings}
use Rattle.rules.specs.World.{World, Shape, scalar, list, single}
use Rattle.rules.specs.Eval.{label, object as braced, listed as bracketed, value as shownValue, answer, only_if, shown, eval}
use Rattle.rules.specs.Answer.{Texts, query_rows, world_of, root_of, tree_of, response, checks, answered}
use Rattle.rules.specs.Contract.{Passed}
use Rattle.rules.proofs.Clean.{clean, clean-each}
use Rattle.rules.proofs.Tokens.{SmallFound, Labelled, LabelledTree, lookups_small, tree-labelled}
use Rattle.rules.proofs.Outcomes.{passed-checks, room_small, answer-accepted_exactly}
use Rattle.tokens.specs.Response.{Response, done, field, Content, value, null, values, object, objects, Objects, none, one, tokens, contents, listed, largest_label, Within, WithinContent, WithinObjects, most_tokens, most_open, IsResponse}

-- ---- what can be read, with at most d `{` open at once

record Read (ts : List ℕ) (d : ℕ) : Type 0 where
  tree : Response
  is : tokens tree ≡ ts
  within : Within tree d

record ReadContent (ts : List ℕ) (d : ℕ) : Type 0 where
  tree : Content
  is : contents tree ≡ ts
  within : WithinContent tree d

record ReadObjects (ts : List ℕ) (d : ℕ) : Type 0 where
  tree : Objects
  is : listed tree ≡ ts
  within : WithinObjects tree d

-- ---- fields one after another

joined : Response → Response → Response
joined done s = s
joined (field l c r) s = field l c (joined r s)

joined-tokens : (r s : Response) → tokens (joined r s) ≡ tokens r ++ tokens s
unfolding tokens joined
joined-tokens done s = refl
joined-tokens (field l c r) s =
    ap (λ (ts : List ℕ). label l ∷ (contents c ++ ts)) (joined-tokens r s)
    ∙ ap (λ (ts : List ℕ). label l ∷ ts) (sym (append_assoc (contents c) (tokens r) (tokens s)))

joined-within : (r s : Response) (d : ℕ) → Within r d → Within s d → Within (joined r s) d
unfolding Within joined
joined-within done s d h k = k
joined-within (field l c r) s d h k = (h.0, h.1, joined-within r s d h.2 k)

read-append : (a b : List ℕ) (d : ℕ) → Read a d → Read b d → Read (a ++ b) d
read-append a b d r s = record {
  tree = joined r.tree s.tree;
  is = joined-tokens r.tree s.tree ∙ rw (r.is, s.is);
  within = joined-within r.tree s.tree d r.within s.within;
}

read_none : (d : ℕ) → Read [] d
unfolding tokens Within
read_none d = record { tree = done; is = refl; within = tt }

-- ---- one field, and its content

read-field : (l d : ℕ) (ts : List ℕ) → l ≤ largest_label → ReadContent ts d → Read (label l ∷ ts) d
unfolding tokens Within
read-field l d ts h c = record {
  tree = field l c.tree done;
  is = ap (λ (us : List ℕ). label l ∷ us) (append-nil (contents c.tree) ∙ c.is);
  within = (h, c.within, tt);
}

one_less : (r : Response) (d : ℕ) → Within r d → Within r (suc d - 1)
one_less r d h = subst (Within r) (let e : d ≡ suc d - 1 = omega arith in e) h

read-object : (d : ℕ) (ts : List ℕ) → Read ts d → ReadContent (braced ts) (suc d)
unfolding tokens Within
read-object d ts r = record {
  tree = object r.tree;
  is = rw r.is;
  within = (omega arith, one_less r.tree d r.within);
}

read-value : (d : ℕ) (f : Found) → SmallFound f → ReadContent (shownValue f) d
unfolding tokens Within
read-value d nothing h = record { tree = null; is = refl; within = tt }
read-value d (oneValue x) h = record { tree = value x; is = refl; within = h }
read-value d (many xs) h = record { tree = values xs; is = refl; within = h }

read-each : (d : ℕ) (below : ℕ → List ℕ) → ((v : ℕ) → Read (below v) d) → (vs : List ℕ)
    → ReadObjects (each (λ v. braced (below v)) vs) (suc d)
unfolding tokens Within
read-each d below h [] = record { tree = none; is = refl; within = tt }
read-each d below h (v ∷ vs) =
    let rest = read-each d below h vs in
    record {
      tree = one (h v).tree rest.tree;
      is = rw ((h v).is, rest.is, append_assoc);
      within = (omega arith, one_less (h v).tree d (h v).within, rest.within);
    }

read_list : (d : ℕ) (ts : List ℕ) → ReadObjects ts d → ReadContent (bracketed ts) d
unfolding tokens Within
read_list d ts r = record { tree = objects r.tree; is = rw r.is; within = r.within }

read_answer : (d : ℕ) (s : Shape) (f : Found) (vs : List ℕ) (below : ℕ → List ℕ) → SmallFound f → ((v : ℕ) → Read (below v) d)
    → ReadContent (answer s f vs below) (suc d)
unfolding tokens Within
read_answer d scalar f vs below k h = read-value (suc d) f k
read_answer d list f vs below k h = read_list (suc d) (each (λ v. braced (below v)) vs) (read-each d below h vs)
read_answer d single f [] below k h = record { tree = null; is = refl; within = tt }
read_answer d single f (v ∷ vs) below k h = read-object d (below v) (h v)

read_only : (d : ℕ) (b : Bool) (below : ℕ → List ℕ) (u : ℕ) → ((v : ℕ) → Read (below v) d) → Read (only_if b below u) d
read_only d true below u h = h u
read_only d false below u h = read_none d

-- ---- 31: depths are at most 15, so that at most 16 objects are open at once

-- entries side by side, of which the deepest stand n deep
abbrev Tall : Forest → ℕ → Type 0
Tall noEntry n = Unit {0}
Tall (node e kids rest) zero = ⊥
Tall (node e kids rest) (suc n) = Tall kids n × Tall rest (suc n)

entries-shallow : (i : ℕ) (q : List Row) → Each (λ r. depth r ≤ 15) q → Each (λ e. e.level ≤ 15) (entries_from i q)
entries-shallow i [] h = tt
entries-shallow i (r ∷ rs) h = (h.0, entries-shallow (suc i) rs h.1)

siblings_tall : (es : List Entry) (d n : ℕ) → d + n ≡ most_open → Each (λ e. e.level ≤ 15) es → Tall (siblings es d) n
siblings_tall [] d n k h = tt
siblings_tall (e ∷ es) d n k h =
    go n k (λ m j. siblings_tall es (suc d) m j h.1) (siblings_tall es d n k h.1) (compare e.level d) refl
  where
    go : (n : ℕ) → d + n ≡ most_open → ((m : ℕ) → suc d + m ≡ most_open → Tall (siblings es (suc d)) m) → Tall (siblings es d) n
        → (o : Ordering) → compare e.level d ≡ o → Tall (siblings (e ∷ es) d) n
    go n k ik ir Ordering.lt q = rw (q, siblings) tt
    go zero k ik ir Ordering.eq q = absurd (let z : e.level ≡ d = eqb-true e.level d (ap compare_is_eq q) in omega (arith, h.0))
    go (suc n) k ik ir Ordering.eq q = rw (q, siblings) (ik n (omega arith), ir)
    go n k ik ir Ordering.gt q = rw (q, siblings) ir

-- ---- the response

module _ (w : World) (small : (u : ℕ) (l : Label) → SmallFound (w.lookup u l)) where
  read-shown : (d : ℕ) (a : Asks) (u : ℕ) (below : ℕ → List ℕ) → Labelled a → ((v : ℕ) → Read (below v) d)
      → ((v : ℕ) → Read (below v) (suc d))
      → Read (shown w a u below) (suc d)
  read-shown d (asking n l) u below k h up =
      read-field n (suc d) (answer (w.shape u l.field) (w.lookup u l) (w.targets u l) below) k
      (read_answer d (w.shape u l.field) (w.lookup u l) (w.targets u l) below (small u l) h)
  read-shown d (on t) u below k h up = read_only (suc d) (w.holds u t) below u up

  -- a type condition hands its children's tokens up without braces: d may be more than the height n
  read-eval : (q : Forest) (n d : ℕ) → Tall q n → n ≤ d → LabelledTree q → (u : ℕ) → Read (eval w q u) d
  read-eval noEntry n d t m k u = read_none d
  read-eval (node e kids rest) zero d t m k u = absurd t
  read-eval (node e kids rest) (suc n) zero t m k u = absurd (omega arith)
  read-eval (node e kids rest) (suc n) (suc d) t m k u =
      read-append (shown w e.asks u (λ v. eval w kids v)) (eval w rest u) (suc d)
      (read-shown d e.asks u (λ v. eval w kids v) k.0 (λ v. read-eval kids n d t.0 (omega arith) k.1 v)
      (λ v. read-eval kids n (suc d) t.0 (omega arith) k.1 v))
      (read-eval rest (suc n) (suc d) t.1 m k.2 u)

-- Of accepted texts the response is a response, where it has no more tokens than the largest room.
pub response-is_one : (short : Bool) (x : Texts) → Passed (checks short x) → length (response x) ≤ most_tokens → IsResponse (response x)
response-is_one short x p fits =
    let q = query_rows x in
    let shallow = clean-each check31 (λ r. depth r ≤ 15) (λ b r a c. ltb-false 15 (depth r) (c.0 refl).1.0) [] q
    (clean check31 [] 1 q (p 31)) in
    let tall = siblings_tall (entries_from 0 q) 0 most_open refl (entries-shallow 0 q shallow) in
    let r = read-eval (world_of x) (lookups_small x) (tree_of x) most_open most_open tall (omega arith) (tree-labelled short x p) (root_of x) in
    (r.tree, record { is = r.is; within = r.within; few = fits })

-- So is what an accepted answering call writes.
pub answer-is_one : (short : Bool) (x : Texts) (room : ℕ) (buffer : List ℕ) → (answered short x room buffer).number ≡ 0
    → IsResponse (response x)
answer-is_one short x room buffer h =
    let p = (answer-accepted_exactly short x room buffer).0 h in
    let small : room ≤ most_tokens = room_small short x room buffer p.0 in
    let fits : length (response x) ≤ min room (length buffer) = p.1 in
    response-is_one short x (passed-checks short x room buffer p.0) (omega arith)
