-- A row passed on: the nodes at which an entry goes on, case by case, and the children's row, node by node. Assumes nothing.
use Prim.Native.Nat.{ℕ, zero, suc, ◌+◌, ◌*◌, ◌-◌, ◌≤◌, ◌<◌}
use native.Mathlib.Nat.{zero-mul, zero-add}
use native.Mathlib.Numerals.{add-one}
use native.Mathlib.Decide.{dec_lt}
use native.Mathlib.Omega.{arith}
use mathlib.Core.Path.{◌≡◌, refl, sym, ap, ◌∙◌, subst}
use mathlib.Core.Bool.{Bool, true, false}
use mathlib.Core.List.{List, [], ◌∷◌, map}
use lib.ListN.{length, get_or, take, set, length-set, get_or-replicate}
use lib.Seq.{take_all}
use Rattle.rules.specs.Lists.{times, count_up}
use Rattle.rules.specs.Text.{field_no, type_no}
use Rattle.rules.specs.Graph.{Label}
use Rattle.rules.specs.Tree.{Asks}
use Rattle.rules.specs.World.{World, Shape}
use Rattle.rules.specs.declared.FieldNo.{FieldNo}
use Rattle.rules.specs.Eval.{next, onward, first, stay}
use Rattle.rules.specs.Sizing.{weighed, cap}
use Rattle.rules.proofs.Sums.{Below}
use Rattle.rules.proofs.Size.{next-below}
use Rattle.tables.specs.Layout.{laid}
use Rattle.tables.specs.Read.{cell, wide_at, targets_at}
use Rattle.tables.proofs.Laid.{laid_in, laid-before, laid-behind}
use Rattle.world.specs.World.{world_at, EdgesHeld, asks_at, asked_at, next_at, edge_from, targets_from, shape_by, shape_at, holds_at}
use Rattle.world.specs.declared.FieldKind.{FieldKind}
use Rattle.world.specs.declared.FieldKind.TheVariants.{Scalar, Objects, Object}
use Rattle.sizing.specs.Measure.{row_in, pushed, passed_on}
use Rattle.world.proofs.Asked.{asks-field, asks-on, asked-field}
use Rattle.world.proofs.Targets.{world-size, world_shape, world_targets, world-holds, targets_all, targets_done, targets_more, ends_closed}
use Rattle.sizing.proofs.Rows.{zeros, zeros-length, zeroed-length, row_same, row_get, row-length, Outside, row_laid}
use Rattle.sizing.proofs.Rows.{pushed_none, pushed-first, pushed-length, pushed_at, pushed_out}

-- ---- the targets added one by one

-- e is the first matching edge from edge `from` on, and what is left to add from there on makes the whole
pub record Adding (g : List ℕ) (u : ℕ) (l : Label) (b x : ℕ) (m₀ m : List ℕ) (e : ℕ) : Type 0 where
  pub from : ℕ
  pub edge : e ≡ edge_from g u l from
  pub left : pushed b x (targets_at g u l) m₀ ≡ pushed b x (targets_from g u l from) m
  pub same : length m ≡ length m₀

module _ (g : List ℕ) (u : ℕ) (l : Label) (b x : ℕ) (m₀ : List ℕ) where
  pub adding_start : (e : ℕ) → e ≡ edge_from g u l 0 → Adding g u l b x m₀ m₀ e
  adding_start e h =
      record { from = 0; edge = h; left = ap (λ (vs : List ℕ). pushed b x vs m₀) (targets_all g u l); same = refl }

  module _ (m : List ℕ) (e : ℕ) (a : Adding g u l b x m₀ m e) where
    pub adding_on : (t : ℕ) (m' : List ℕ) (e' : ℕ) → e < cell g 1 → t ≡ wide_at g 1544 e 4
        → m' ≡ set m (b + t) (cap (get_or m (b + t) 0 + x)) → e' ≡ edge_from g u l (e + 1) → Adding g u l b x m₀ m' e'
    adding_on t m' e' h k s f =
        let w = wide_at g 1544 e 4 in
        let rest = targets_from g u l (e + 1) in
        let p : set m (b + w) (cap (get_or m (b + w) 0 + x)) ≡ m' =
        ap (λ (i : ℕ). set m (b + i) (cap (get_or m (b + i) 0 + x))) (sym k) ∙ sym s in
        record {
          from = e + 1;
          edge = f;
          left = a.left ∙ ap (λ (vs : List ℕ). pushed b x vs m) (targets_more g u l a.from e a.edge h)
              ∙ pushed-first b x w rest m ∙ ap (pushed b x rest) p;
          same = ap length s ∙ length-set m (b + t) (cap (get_or m (b + t) 0 + x)) ∙ a.same;
        }

    pub adding_end : cell g 1 ≤ e → m ≡ pushed b x (targets_at g u l) m₀
    adding_end h =
        sym (a.left ∙ ap (λ (vs : List ℕ). pushed b x vs m) (targets_done g u l a.from e a.edge h) ∙ pushed_none b x m)

-- ---- the nodes at which entry k at node u goes on

module _ (a g q : List ℕ) (k u : ℕ) where
  abbrev W : World
  W = world_at a g [] []

  next-on : (wide_at q 8 k 0 ≡ 70 → ⊥) → next_at a g q k u ≡ stay (holds_at a g u (type_no (wide_at q 8 k 3))) u
  unfolding next_at
  next-on h =
      ap (λ (x : Asks). next W x u) (asks-on q k h) ∙ ap (λ (s : Bool). stay s u) (world-holds a g [] [] u (type_no (wide_at q 8 k 3)))

  next_field : wide_at q 8 k 0 ≡ 70 → next_at a g q k u ≡ onward (shape_at a g u (field_no (wide_at q 8 k 4))) (targets_at g u (asked_at q k))
  unfolding next_at
  next_field h =
      ap (λ (x : Asks). next W x u) (asks-field q k h)
      ∙ ap (λ (f : FieldNo). onward (W.shape u f) (W.targets u (asked_at q k))) (asked-field q k)
      ∙ ap (λ (x : Shape). onward x (W.targets u (asked_at q k))) (world_shape a g [] [] u (field_no (wide_at q 8 k 4)))
      ∙ ap (onward (shape_at a g u (field_no (wide_at q 8 k 4)))) (world_targets a g [] [] u (asked_at q k))

  -- they are nodes
  pub next_nodes : {x : List ℕ} → EdgesHeld g x → u < cell g 0 → Below (cell g 0) (next_at a g q k u)
  unfolding next_at
  next_nodes h n =
      let s = world-size a g [] [] in
      subst (λ (i : ℕ). Below i (next_at a g q k u)) s (next-below W (ends_closed a g [] [] h) (asks_at q k) u (omega arith))

-- x added there, z being the entry's letter
module _ (a g q : List ℕ) (k u b x : ℕ) (m : List ℕ) (z : ℕ) (is : z ≡ wide_at q 8 k 0) where
  abbrev Goes : List ℕ → Type 0
  Goes m' = m' ≡ pushed b x (next_at a g q k u) m

  goes_none : next_at a g q k u ≡ [] → Goes m
  goes_none e = sym (ap (λ (vs : List ℕ). pushed b x vs m) e ∙ pushed_none b x m)

  goes_one : (v : ℕ) (m' : List ℕ) → m' ≡ set m (b + v) (cap (get_or m (b + v) 0 + x)) → next_at a g q k u ≡ v ∷ [] → Goes m'
  goes_one v m' s e =
      s
      ∙ sym (ap (λ (vs : List ℕ). pushed b x vs m) e
      ∙ pushed-first b x v [] m
      ∙ pushed_none b x (set m (b + v) (cap (get_or m (b + v) 0 + x))))

  -- a type condition t, which the node's type meets or not
  module _ (no : z ≡ 70 → ⊥) (t : ℕ) (at : t ≡ wide_at q 8 k 3) (y : Bool) (met : y ≡ holds_at a g u (type_no t)) where
    stays : next_at a g q k u ≡ stay y u
    stays = next-on a g q k u (λ e. no (is ∙ e)) ∙ ap (λ (s : Bool). stay s u) (sym (met ∙ ap (λ (i : ℕ). holds_at a g u (type_no i)) at))

    pub goes-stays : (m' : List ℕ) → y ≡ true → m' ≡ set m (b + u) (cap (get_or m (b + u) 0 + x)) → Goes m'
    goes-stays m' e s = goes_one u m' s (stays ∙ ap (λ (r : Bool). stay r u) e)

    pub goes_nowhere : y ≡ false → Goes m
    goes_nowhere e = goes_none (stays ∙ ap (λ (r : Bool). stay r u) e)

  -- a field f, by what it is at the node
  module _ (yes : z ≡ 70) (f : ℕ) (at : f ≡ wide_at q 8 k 4) (kind : FieldKind) (by : shape_by kind ≡ shape_at a g u (field_no f)) where
    abbrev vs : List ℕ
    vs = targets_at g u (asked_at q k)

    goes_on : (o : FieldKind) → kind ≡ o → next_at a g q k u ≡ onward (shape_by o) vs
    goes_on o e =
        next_field a g q k u (sym is ∙ yes)
        ∙ ap (λ (s : Shape). onward s vs) (sym (ap shape_by (sym e) ∙ by ∙ ap (λ (i : ℕ). shape_at a g u (field_no i)) at))

    pub goes_scalar : kind ≡ Scalar → Goes m
    unfolding shape_by
    goes_scalar e = goes_none (goes_on Scalar e)

    pub goes-all : (m' : List ℕ) → kind ≡ Objects → m' ≡ pushed b x vs m → Goes m'
    unfolding shape_by
    goes-all m' e s = s ∙ ap (λ (ws : List ℕ). pushed b x ws m) (sym (goes_on Objects e))

    -- e is the first matching edge
    module _ (o : kind ≡ Object) (e : ℕ) (edge : e ≡ edge_from g u (asked_at q k) 0) where
      pub goes_first : (v : ℕ) (m' : List ℕ) → e < cell g 1 → v ≡ wide_at g 1544 e 4
          → m' ≡ set m (b + v) (cap (get_or m (b + v) 0 + x)) → Goes m'
      unfolding shape_by
      goes_first v m' h w s =
          let t = targets_all g u (asked_at q k) ∙ targets_more g u (asked_at q k) 0 e edge h in
          goes_one v m' s (goes_on Object o ∙ ap first t ∙ ap (λ (i : ℕ). i ∷ []) (sym w))

      pub goes_no_edge : cell g 1 ≤ e → Goes m
      unfolding shape_by
      goes_no_edge h =
          let t = targets_all g u (asked_at q k) ∙ targets_done g u (asked_at q k) 0 e edge h in
          goes_none (goes_on Object o ∙ ap first t)

-- ---- the children's row, node by node

weighed-more : (f : ℕ → ℕ) (i : ℕ) (row : List ℕ) (u : ℕ) → u < length row
    → weighed f i (take (suc u) row) ≡ weighed f i (take u row) + get_or row u 0 * f (i + u)
weighed-more f i [] u h = absurd (omega arith)
weighed-more f i (x ∷ row) zero h =
    let e : i + 0 ≡ i = omega arith in
    rw e (omega arith)
weighed-more f i (x ∷ row) (suc u) h =
    let e : i + suc u ≡ suc i + u = omega arith in
    let r = weighed-more f (suc i) row u (omega arith) in
    rw e (omega arith)

-- how often nodes go on to v, each as often as the row says
abbrev reached : (ℕ → List ℕ) → List ℕ → ℕ → ℕ
reached to row v = weighed (λ w. times v (to w)) 0 row

-- In the row from place b on stands what the first u nodes of the row from place c on have passed on, `to` being where they go on; all else
-- is as it was.
pub record Passing (to : ℕ → List ℕ) (c b n : ℕ) (m₀ m : List ℕ) (u : ℕ) : Type 0 where
  pub same : length m ≡ length m₀
  pub inside : (v : ℕ) → v < n → get_or m (b + v) 0 ≡ cap (reached to (take u (row_in m₀ c n)) v)
  pub outside : (i : ℕ) → Outside b n i → get_or m i 0 ≡ get_or m₀ i 0

module _ (to : ℕ → List ℕ) (c b n : ℕ) (m₀ : List ℕ) (low : c + n ≤ b) (high : b + n ≤ length m₀) where
  abbrev row : List ℕ
  row = row_in m₀ c n

  wide : length row ≡ n
  wide = row-length m₀ c n (omega arith)

  passing-start : (m : List ℕ) → m ≡ laid b (zeros n) m₀ → Passing to c b n m₀ m 0
  passing-start m e =
      record {
        same = zeroed-length b n m₀ m e high;
        inside = λ v h. ap (λ (x : List ℕ). get_or x (b + v) 0) e
            ∙ laid_in b (zeros n) m₀ v (omega arith) (omega (arith, zeros-length n)) ∙ get_or-replicate n v 0 0 h ∙ omega arith;
        outside = λ i o. ap (λ (x : List ℕ). get_or x i 0) e ∙ apart i o (dec_lt i b);
      }
    where
      past : (i : ℕ) → b ≤ i → Outside b n i → Dec (i < b + n) → b + n ≤ i
      past i h o (yes d) = absurd (o (i - b) (omega arith) (omega arith))
      past i h o (no d) = omega arith

      apart : (i : ℕ) → Outside b n i → Dec (i < b) → get_or (laid b (zeros n) m₀) i 0 ≡ get_or m₀ i 0
      apart i o (yes d) = laid-before b (zeros n) m₀ i (omega arith) d
      apart i o (no d) =
          let p = past i (omega arith) o (dec_lt i (b + n)) in
          laid-behind b (zeros n) m₀ i (omega arith) (omega (arith, zeros-length n))

  module _ (m : List ℕ) (u : ℕ) (p : Passing to c b n m₀ m u) where
    module _ (h : u < n) (x : ℕ) (e : x ≡ get_or m (c + u) 0) where
      -- the number read is that of the entry's row
      read : get_or row u 0 ≡ x
      read = row_get m₀ c n u h ∙ sym (p.outside (c + u) (λ w y z. omega arith)) ∙ sym e

      more : (v : ℕ) → reached to (take (u + 1) row) v ≡ reached to (take u row) v + x * times v (to u)
      more v =
          ap (λ (i : ℕ). reached to (take i row) v) (add-one u)
          ∙ weighed-more (λ w. times v (to w)) 0 row u (omega (arith, wide))
          ∙ ap (λ (i : ℕ). reached to (take u row) v + i * times v (to (0 + u))) read
          ∙ ap (λ (i : ℕ). reached to (take u row) v + x * times v (to i)) (zero-add u)

      pub passing-on : (m' : List ℕ) → Below n (to u) → m' ≡ pushed b x (to u) m → Passing to c b n m₀ m' (u + 1)
      passing-on m' below s =
          record {
            same = ap length s ∙ pushed-length b x (to u) m ∙ p.same;
            inside = λ v k. ap (λ (l : List ℕ). get_or l (b + v) 0) s
                ∙ pushed_at b x (to u) m v (reached to (take u row) v) (omega (arith, p.same)) (p.inside v k) ∙ ap cap (sym (more v));
            outside = λ i o. ap (λ (l : List ℕ). get_or l i 0) s ∙ pushed_out b x n (to u) m i below o ∙ p.outside i o;
          }

      -- a multiplicity of 0 passes nothing on
      pub passing-by : (m' : List ℕ) → x ≤ 0 → m' ≡ m → Passing to c b n m₀ m' (u + 1)
      passing-by m' z s =
          let o : x ≡ 0 = omega arith in
          record {
            same = ap length s ∙ p.same;
            inside = λ v k. ap (λ (l : List ℕ). get_or l (b + v) 0) s ∙ p.inside v k
                ∙ ap cap
                (sym (more v
                ∙ ap (λ (i : ℕ). reached to (take u row) v + i * times v (to u)) o
                ∙ omega (arith, zero-mul (times v (to u)))));
            outside = λ i o. ap (λ (l : List ℕ). get_or l i 0) s ∙ p.outside i o;
          }

    passing_end : n ≤ u → m ≡ laid b (map (λ v. cap (reached to row v)) (count_up 0 n)) m₀
    passing_end h =
        row_laid (λ v. cap (reached to row v)) b n m₀ m high p.same
        (λ v k. p.inside v k ∙ ap (λ (l : List ℕ). cap (reached to l v)) (take_all u row (omega (arith, wide)))) p.outside

-- the area m₁, of which the children's row is cleared
module _ (to : ℕ → List ℕ) (c b n : ℕ) (m₀ m₁ : List ℕ) (low : c + n ≤ b) (high : b + n ≤ length m₀)
    (e : m₁ ≡ laid b (zeros n) m₀) where
  cleared : Passing to c b n m₀ m₁ 0
  cleared = passing-start to c b n m₀ low high m₁ e

  pub passing-none : Passing to c b n m₁ m₁ 0
  passing-none = record { same = refl; inside = cleared.inside; outside = λ i o. refl }

  pub passing-all : (m : List ℕ) (u : ℕ) → Passing to c b n m₁ m u → n ≤ u
      → m ≡ laid b (map (λ v. cap (reached to (row_in m₀ c n) v)) (count_up 0 n)) m₀
  passing-all m u p h = passing_end to c b n m₀ low high m u whole h
    where
      rows : row_in m₁ c n ≡ row_in m₀ c n
      rows = row_same m₀ m₁ c n (omega arith) cleared.same (λ v k. cleared.outside (c + v) (λ w y z. omega arith))

      whole : Passing to c b n m₀ m u
      whole =
          record {
            same = p.same ∙ cleared.same;
            inside = λ v k. p.inside v k ∙ ap (λ (r : List ℕ). cap (reached to (take u r) v)) rows;
            outside = λ i o. p.outside i o ∙ cleared.outside i o;
          }

-- what an entry passes on, told of the areas
pub passed_on_lem : (a g q : List ℕ) (k b : ℕ) (row l m : List ℕ)
    → m ≡ laid b (map (λ v. cap (reached (next_at a g q k) row v)) (count_up 0 (cell g 0))) l
    → m ≡ laid b (passed_on (world_at a g [] []) (asks_at q k) row) l
unfolding next_at passed_on
passed_on_lem a g q k b row l m e =
    e ∙ ap (λ (n : ℕ). laid b (map (λ v. cap (reached (next_at a g q k) row v)) (count_up 0 n)) l) (sym (world-size a g [] []))
