-- Definition 6: the response, and the pairs of entry and node that its evaluation meets. Assumes nothing.
use Rattle.std.specs.Prelude.{ℕ, ◌+◌, ◌≡◌, ◌⊎◌, Bool, true, false, ◌||◌, ltb, length}
use mathlib.Core.List.{List, [], ◌∷◌, ◌++◌, Memᴰ}
use Rattle.rules.specs.Lists.{each, any}
use Rattle.rules.specs.Tree.{Asks, field, on, Forest, none, node}
use Rattle.rules.specs.Graph.{Found, nothing, one, many}
use Rattle.rules.specs.World.{World, Shape, scalar, list, single}

-- ---- tokens

-- "A label l is 1,000,000,000 + l and stands for name and colon. `{` `}` `[` `]` null are 2,000,000,001 to 2,000,000,005"
abbrev pub label : ℕ → ℕ
label l = 1000000000 + l

abbrev pub open_object : ℕ
open_object = 2000000001

abbrev pub close_object : ℕ
close_object = 2000000002

abbrev pub open_list : ℕ
open_list = 2000000003

abbrev pub close_list : ℕ
close_list = 2000000004

abbrev pub null : ℕ
null = 2000000005

abbrev pub object : List ℕ → List ℕ
object r = open_object ∷ r ++ (close_object ∷ [])

abbrev pub listed : List ℕ → List ℕ
listed r = open_list ∷ r ++ (close_list ∷ [])

-- ---- the response

-- "Scalar field: label, then the property's value, or `[` values `]`, or null where no property has this node and label."
abbrev pub value : Found → List ℕ
value nothing = null ∷ []
value (one x) = x ∷ []
value (many xs) = listed xs

-- "Object field, not list: label `{` response `}`, or label null where no edge matches."
abbrev pub object_at : List ℕ → (ℕ → List ℕ) → List ℕ
object_at [] below = null ∷ []
object_at (v ∷ vs) below = object (below v)

-- What a field shows behind its label, where `below` is the children's response at a node. "Object field, list: label `[`, for
-- each matching edge in graph order `{` response at its target `}`, then `]`. No edge gives `[` `]`."
abbrev pub answer : Shape → Found → List ℕ → (ℕ → List ℕ) → List ℕ
answer scalar found vs below = value found
answer list found vs below = listed (each (λ v. object (below v)) vs)
answer single found vs below = object_at vs below

-- "Type condition: the children's response if u's type is compatible, else nothing."
abbrev pub only_if : Bool → (ℕ → List ℕ) → ℕ → List ℕ
only_if true below u = below u
only_if false below u = []

-- An entry's response at u.
abbrev pub shown : World → Asks → ℕ → (ℕ → List ℕ) → List ℕ
shown w (field n l) u below = label n ∷ answer (w.shape u l.field) (w.lookup u l) (w.targets u l) below
shown w (on t) u below = only_if (w.holds u t) below u

-- "Several entries: their responses one after another." The response from node u to entries side by side.
abbrev pub eval : World → Forest → ℕ → List ℕ
eval w none u = []
eval w (node e kids rest) u = shown w e.asks u (λ v. eval w kids v) ++ eval w rest u

-- ---- what the evaluation meets

-- The nodes at which the evaluation of an entry at u goes on to its children.
abbrev pub first : List ℕ → List ℕ
first [] = []
first (v ∷ vs) = v ∷ []

abbrev pub onward : Shape → List ℕ → List ℕ
onward scalar vs = []
onward list vs = vs
onward single vs = first vs

abbrev pub stay : Bool → ℕ → List ℕ
stay true u = u ∷ []
stay false u = []

abbrev pub next : World → Asks → ℕ → List ℕ
next w (field n l) u = onward (w.shape u l.field) (w.targets u l)
next w (on t) u = stay (w.holds u t) u

-- "Definition 6 meets a pair when evaluating the response from the query node evaluates that entry at that node, a type
-- condition that does not hold included." Evaluating these entries at u evaluates the entry at place i at node v.
abbrev pub Meets : World → Forest → ℕ → ℕ → ℕ → Type 0
Meets w none u i v = ⊥
Meets w (node e kids rest) u i v =
    ((i ≡ e.place) × (v ≡ u))
    ⊎ (((x : ℕ) × Memᴰ x (next w e.asks u) × Meets w kids x i v)
    ⊎ Meets w rest u i v)

-- 40: "evaluation meets a non-list field with two targets under one label"
abbrev pub two : Shape → List ℕ → Bool
two scalar vs = false
two list vs = false
two single vs = ltb 1 (length vs)

abbrev pub forked : World → Asks → ℕ → Bool
forked w (field n l) u = two (w.shape u l.field) (w.targets u l)
forked w (on t) u = false

abbrev pub meets_fork : World → Forest → ℕ → Bool
meets_fork w none u = false
meets_fork w (node e kids rest) u = forked w e.asks u || (any (λ v. meets_fork w kids v) (next w e.asks u) || meets_fork w rest u)
