-- The pass over a value, null or a list of values: it is the same in both, or it is left. Assumes nothing.
use mathlib.Core.Path.{◌≡◌, refl, sym, ap, subst, ◌∙◌}
use mathlib.Core.Logic.{◌⊎◌, inl, inr}
use mathlib.Core.Bool.{true, false}
use mathlib.Core.List.{List, [], ◌∷◌, ◌++◌, append_assoc, List-discrete}
use Prim.Native.Nat.{ℕ, ◌≤◌, ◌<◌}
use native.Mathlib.Omega.{arith}
use native.Mathlib.Decide.{ℕ_discrete}
use lib.ListN.{length, drop}
use borrow.Author.Tests.{lt-ltb, eq-eqb, ne_eqb}
use Rattle.rules.specs.Text.{largest}
use Rattle.rules.specs.Eval.{label, open_object, open_list, close_list, null as nullToken}
use Rattle.rules.proofs.Sound.{Small}
use Rattle.tokens.specs.Response.{value, null, values, object, objects, Objects, none, one, tokens, listed, largest_label, Within, WithinObjects}
use Rattle.shorten.specs.Pass.{side_of, hits, most_brackets}
use Rattle.shorten.specs.declared.Mode.TheVariants.{InBoth, Labelled}
use Rattle.shorten.specs.declared.Side.TheVariants.{Plain, Opener, Closer}
use Rattle.shorten.proofs.Sides.{side_value, side_null, side_begin, side_end}
use Rattle.shorten.proofs.Way.{way, pass, step, regroup}
use Rattle.shorten.proofs.Shorter.{Shorter, differ}
use Rattle.shorten.proofs.Left.{Takes, Leaves, Meets, head, refused}

-- ---- values and null

pub meet-value : (v d : ℕ) → v ≤ largest → Meets (value v) d
unfolding head tokens Within Shorter
meet-value v d w (value y) e h = go (ℕ_discrete y v)
  where
    go : Dec (y ≡ v) → Takes (value v) (value y) d e ⊎ Leaves (value v) (value y) d
    go (yes p) = inl (record {
      runs = λ l f s st wl b. step v f Labelled (label l ∷ (y ∷ s)) st Plain true (side_value v w) (eq-eqb y v p);
      read = value y;
      same = refl;
      fits = h;
      keeps = ap value p;
    })
    go (no n) = refused (value v) d w (value y) e (λ s. ne_eqb y v n) (λ k. n (cc))
meet-value v d w null e h = refused (value v) d w null e (λ s. ne_eqb nullToken v (omega arith)) (λ k. differ (cc))
meet-value v d w (values ws) e h = refused (value v) d w (values ws) e (λ s. ne_eqb open_list v (omega arith)) (λ k. differ (cc))
meet-value v d w (object y) e h = refused (value v) d w (object y) e (λ s. ne_eqb open_object v (omega arith)) (λ k. differ (cc))
meet-value v d w (objects ps) e h = refused (value v) d w (objects ps) e (λ s. ne_eqb open_list v (omega arith)) (λ k. differ (cc))

pub meet-null : (d : ℕ) → Meets null d
unfolding head tokens Within Shorter
meet-null d (value y) e h = refused null d tt (value y) e (λ s. ne_eqb y nullToken (omega arith)) (λ k. differ (cc))
meet-null d null e h = inl (record {
  runs = λ l f s st wl b. step nullToken f Labelled (label l ∷ (nullToken ∷ s)) st Plain true side_null refl;
  read = null;
  same = refl;
  fits = tt;
  keeps = refl;
})
meet-null d (values ws) e h = refused null d tt (values ws) e (λ s. refl) (λ k. differ (cc))
meet-null d (object y) e h = refused null d tt (object y) e (λ s. refl) (λ k. differ (cc))
meet-null d (objects ps) e h = refused null d tt (objects ps) e (λ s. refl) (λ k. differ (cc))

-- ---- a bracket that begins in both

pub push : (x : ℕ) (f s : List ℕ) (st : List (List ℕ)) → side_of x ≡ Opener → hits x (drop 1 s) ≡ true → length st < most_brackets
    → pass (x ∷ f) (way Labelled s st) ≡ pass f (way InBoth (drop 2 s) (s ∷ st))
push x f s st o h b = step x f Labelled s st Opener true o h ∙ rw (lt-ltb (length st) most_brackets b)

-- the tokens of a list
abbrev pub in_brackets : List ℕ → List ℕ
in_brackets xs = open_list ∷ (xs ++ close_list ∷ [])

pub enter : (xs ys : List ℕ) (l : ℕ) (f s : List ℕ) (st : List (List ℕ)) → length st < most_brackets
    → pass (in_brackets xs ++ f) (way Labelled (label l ∷ (in_brackets ys ++ s)) st)
    ≡ pass (xs ++ close_list ∷ f) (way InBoth (ys ++ close_list ∷ s) ((label l ∷ (in_brackets ys ++ s)) ∷ st))
enter xs ys l f s st b =
    let all = label l ∷ (in_brackets ys ++ s) in
    push open_list ((xs ++ close_list ∷ []) ++ f) all st side_begin refl b
    ∙ regroup xs (close_list ∷ []) f (way InBoth ((ys ++ close_list ∷ []) ++ s) (all ∷ st))
    ∙ ap (λ (z : List ℕ). pass (xs ++ close_list ∷ f) (way InBoth z (all ∷ st))) (append_assoc ys (close_list ∷ []) s)

-- ---- lists of values

values_same : (f s : List ℕ) (st : List (List ℕ)) (vs : List ℕ) → Small vs → (t : List ℕ)
    → pass (vs ++ close_list ∷ f) (way InBoth (vs ++ close_list ∷ s) (t ∷ st)) ≡ pass f (way InBoth s st)
values_same f s st [] w t = step close_list f InBoth (close_list ∷ s) (t ∷ st) Closer true side_end refl
values_same f s st (v ∷ vs) w t =
    step v (vs ++ close_list ∷ f) InBoth (v ∷ (vs ++ close_list ∷ s)) (t ∷ st) Plain true (side_value v w.0) (eq-eqb v v refl)
    ∙ values_same f s st vs w.1 t

-- a list that is not the same: the pass goes back to the field, which stands at `label l ∷ t`
module _ (f : List ℕ) (st : List (List ℕ)) (l : ℕ) (wl : l ≤ largest_label) (t : List ℕ) where
  lost : (vs : List ℕ) → Small vs
      → pass (vs ++ close_list ∷ f) (way InBoth (label l ∷ t) ((label l ∷ t) ∷ st)) ≡ pass f (way InBoth (label l ∷ t) st)
  lost [] w = step close_list f InBoth (label l ∷ t) ((label l ∷ t) ∷ st) Closer false side_end (ne_eqb (label l) close_list (omega arith))
  lost (v ∷ vs) w =
      let h : v ≤ largest = w.0 in
      step v (vs ++ close_list ∷ f) InBoth (label l ∷ t) ((label l ∷ t) ∷ st) Plain false (side_value v h) (ne_eqb (label l) v (omega arith))
      ∙ lost vs w.1

  first : List ℕ → ℕ
  first [] = close_list
  first (v ∷ vs) = v

  values_miss : (vs : List ℕ) → Small vs → (s : List ℕ) → hits (first vs) s ≡ false
      → pass (vs ++ close_list ∷ f) (way InBoth s ((label l ∷ t) ∷ st)) ≡ pass f (way InBoth (label l ∷ t) st)
  unfolding first
  values_miss [] w s h = step close_list f InBoth s ((label l ∷ t) ∷ st) Closer false side_end h
  values_miss (v ∷ vs) w s h =
      step v (vs ++ close_list ∷ f) InBoth s ((label l ∷ t) ∷ st) Plain false (side_value v w.0) h ∙ lost vs w.1

  values_other : (vs : List ℕ) → Small vs → (ws : List ℕ) → Small ws → (vs ≡ ws → ⊥) → (s : List ℕ)
      → pass (vs ++ close_list ∷ f) (way InBoth (ws ++ close_list ∷ s) ((label l ∷ t) ∷ st)) ≡ pass f (way InBoth (label l ∷ t) st)
  unfolding first
  values_other [] w [] u n s = absurd (n refl)
  values_other [] w (y ∷ ws) u n s =
      let h : y ≤ largest = u.0 in values_miss [] w (y ∷ (ws ++ close_list ∷ s)) (ne_eqb y close_list (omega arith))
  values_other (v ∷ vs) w [] u n s =
      let h : v ≤ largest = w.0 in values_miss (v ∷ vs) w (close_list ∷ s) (ne_eqb close_list v (omega arith))
  values_other (v ∷ vs) w (y ∷ ws) u n s = go (λ m. values_other vs w.1 ws u.1 m s) (ℕ_discrete y v)
    where
      go : ((vs ≡ ws → ⊥)
          → pass (vs ++ close_list ∷ f) (way InBoth (ws ++ close_list ∷ s) ((label l ∷ t) ∷ st)) ≡ pass f (way InBoth (label l ∷ t) st))
          → Dec (y ≡ v)
          → pass (v ∷ (vs ++ close_list ∷ f)) (way InBoth (y ∷ (ws ++ close_list ∷ s)) ((label l ∷ t) ∷ st)) ≡ pass f (way InBoth (label l ∷ t) st)
      go i (yes p) =
          let both = y ∷ (ws ++ close_list ∷ s) in
          step v (vs ++ close_list ∷ f) InBoth both ((label l ∷ t) ∷ st) Plain true (side_value v w.0) (eq-eqb y v p)
          ∙ i (λ q. n (cc))
      go i (no p) = values_miss (v ∷ vs) w (y ∷ (ws ++ close_list ∷ s)) (ne_eqb y v p)

module _ (vs : List ℕ) (d : ℕ) (w : Small vs) where
  -- a list of values, met by a list of objects: `[ ]` is both
  values-objects : (ps : Objects) (e : ℕ) → WithinObjects ps e → (us : List ℕ) → vs ≡ us
      → Takes (values us) (objects ps) d e ⊎ Leaves (values us) (objects ps) d
  unfolding tokens Shorter Within first
  values-objects none e h [] q = inl (record {
    runs = λ l f s st wl b. enter [] [] l f s st (omega arith) ∙ values_same f s st [] tt _;
    read = values [];
    same = refl;
    fits = tt;
    keeps = refl;
  })
  values-objects none e h (u ∷ us) q = inr (record {
    runs = λ l f s st wl b.
        let v : Small (u ∷ us) = subst Small q w in
        let hu : u ≤ largest = v.0 in
        enter (u ∷ us) [] l f s st (omega arith)
        ∙ values_miss f st l wl _ (u ∷ us) v (close_list ∷ s) (ne_eqb close_list u (omega arith));
    never = λ k. differ (cc);
  })
  values-objects (one y ps) e h [] q = inr (record {
    runs = λ l f s st wl b. enter [] (listed (one y ps)) l f s st (omega arith) ∙ values_miss f st l wl _ [] tt _ refl;
    never = λ k. differ (cc);
  })
  values-objects (one y ps) e h (u ∷ us) q = inr (record {
    runs = λ l f s st wl b.
        let v : Small (u ∷ us) = subst Small q w in
        let hu : u ≤ largest = v.0 in
        enter (u ∷ us) (listed (one y ps)) l f s st (omega arith)
        ∙ values_miss f st l wl _ (u ∷ us) v _ (ne_eqb open_object u (omega arith));
    never = λ k. differ (cc);
  })

  pub meet-values : Meets (values vs) d
  unfolding head tokens Within Shorter
  meet-values (value y) e h = refused (values vs) d w (value y) e (λ s. ne_eqb y open_list (omega arith)) (λ k. differ (cc))
  meet-values null e h = refused (values vs) d w null e (λ s. refl) (λ k. differ (cc))
  meet-values (object y) e h = refused (values vs) d w (object y) e (λ s. refl) (λ k. differ (cc))
  meet-values (objects ps) e h = values-objects ps e h vs refl
  meet-values (values ws) e h = go (List-discrete ℕ_discrete vs ws)
    where
      go : Dec (vs ≡ ws) → Takes (values vs) (values ws) d e ⊎ Leaves (values vs) (values ws) d
      go (yes p) = inl (record {
        runs = λ l f s st wl b. enter vs ws l f s st (omega arith) ∙ rw (← p) (values_same f s st vs w _);
        read = values ws;
        same = refl;
        fits = h;
        keeps = ap values (sym p);
      })
      go (no n) = inr (record {
        runs = λ l f s st wl b. enter vs ws l f s st (omega arith) ∙ values_other f st l wl _ vs w ws h n s;
        never = λ k. n (cc);
      })
