-- The pass over an object or a list of objects; the pass over a whole response. Assumes nothing.
use mathlib.Core.Path.{◌≡◌, refl, ap, subst, ◌∙◌}
use mathlib.Core.Logic.{◌⊎◌, inl, inr, ⊎_elim}
use mathlib.Core.Bool.{true, false}
use mathlib.Core.List.{List, [], ◌∷◌, ◌++◌, append_assoc}
use Prim.Native.Nat.{ℕ, ◌+◌, ◌-◌, ◌*◌, ◌≤◌, ◌<◌}
use native.Mathlib.Omega.{arith}
use lib.ListN.{length}
use borrow.Author.Tests.{lt-ltb, ne_eqb}
use Rattle.rules.specs.Text.{largest}
use Rattle.rules.specs.Eval.{label, open_object, close_object, open_list, close_list}
use Rattle.tokens.specs.Response.{Response, done, field, Content, value, null, values, object, objects, Objects, none, one, tokens, contents, listed, largest_label, Within, WithinContent, WithinObjects}
use Rattle.shorten.specs.Pass.{hits, most_brackets}
use Rattle.shorten.specs.declared.Mode.TheVariants.{InBoth, Labelled, Striking}
use Rattle.shorten.specs.declared.Side.TheVariants.{Opener, Closer}
use Rattle.shorten.proofs.Sides.{side_open, side_close, side_end}
use Rattle.shorten.proofs.Way.{way, pass, step, regroup}
use Rattle.shorten.proofs.StruckOut.{gone, strike}
use Rattle.shorten.proofs.Shorter.{Shorter, Among, differ}
use Rattle.shorten.proofs.Left.{tail-objects, all-struck, Stops, field_of, Left, LeftObjects, Takes, Leaves, Passes, Meets, Gathers, no_fields, fields, head, refused}
use Rattle.shorten.proofs.Plain.{push, enter, meet-value, meet-null, meet-values}

-- ---- an object

stops_close : (s : List ℕ) → Stops (close_object ∷ s)
unfolding Stops
stops_close s l h = ne_eqb close_object (label l) (omega arith)

-- its `}`: where nothing remains it stands in both
ends-object : (f s t : List ℕ) (st : List (List ℕ))
    → pass (close_object ∷ f) (way InBoth (close_object ∷ s) (t ∷ st)) ≡ pass f (way InBoth s st)
ends-object f s t st = step close_object f InBoth (close_object ∷ s) (t ∷ st) Closer true side_close refl

-- and where a field remains the pass goes back
fails_object : (f s t : List ℕ) (st : List (List ℕ)) (k : ℕ) → k ≤ largest_label
    → pass (close_object ∷ f) (way InBoth (label k ∷ s) (t ∷ st)) ≡ pass f (way InBoth t st)
fails_object f s t st k h =
    step close_object f InBoth (label k ∷ s) (t ∷ st) Closer false side_close (ne_eqb (label k) close_object (omega arith))

module _ (r : Response) (d : ℕ) (hd : 0 < d) (w : Within r (d - 1)) (p : Passes r (d - 1)) where
  pub meet-object : Meets (object r) d
  unfolding head tokens Within Shorter
  meet-object (value y) e h =
      refused (object r) d (hd, w) (value y) e (λ s. ne_eqb y open_object (omega arith)) (λ k. differ (cc k.is))
  meet-object null e h = refused (object r) d (hd, w) null e (λ s. refl) (λ k. differ (cc k.is))
  meet-object (values ws) e h = refused (object r) d (hd, w) (values ws) e (λ s. refl) (λ k. differ (cc k.is))
  meet-object (objects ps) e h = refused (object r) d (hd, w) (objects ps) e (λ s. refl) (λ k. differ (cc k.is))
  meet-object (object y) e h = go i.remains refl
    where
      i : Left r y (d - 1) (e - 1)
      i = p y (e - 1) h.1

      inside : (l : ℕ) (f s : List ℕ) (st : List (List ℕ)) → length st + 2 * d < most_brackets
          → pass (contents (object r) ++ f) (way Labelled (field_of l (object y) s) st)
          ≡ pass (close_object ∷ f) (way InBoth (tokens i.remains ++ close_object ∷ s) (field_of l (object y) s ∷ st))
      inside l f s st b =
          let all = field_of l (object y) s in
          push open_object ((tokens r ++ close_object ∷ []) ++ f) all st side_open refl (omega arith)
          ∙ regroup (tokens r) (close_object ∷ []) f (way InBoth ((tokens y ++ close_object ∷ []) ++ s) (all ∷ st))
          ∙ ap (λ (z : List ℕ). pass (tokens r ++ close_object ∷ f) (way InBoth z (all ∷ st))) (append_assoc (tokens y) (close_object ∷ []) s)
          ∙ i.runs (close_object ∷ s) (stops_close s) (close_object ∷ f) (all ∷ st) (omega arith)

      go : (k : Response) → i.remains ≡ k → Takes (object r) (object y) d e ⊎ Leaves (object r) (object y) d
      go done q = let a = i.sound q in inl (record {
        runs = λ l f s st wl b. inside l f s st b ∙ rw q (ends-object f s (field_of l (object y) s) st);
        read = object a.read;
        same = rw a.same;
        fits = (h.0, a.fits);
        keeps = record { inside = a.read; is = refl; shorter = a.shorter };
      })
      go (field k x t) q =
          let v : Within (field k x t) (e - 1) = subst (λ (z : Response). Within z (e - 1)) q i.within in
          inr (record {
            runs = λ l f s st wl b.
                inside l f s st b
                ∙ rw q (fails_object f ((contents x ++ tokens t) ++ close_object ∷ s) (field_of l (object y) s) st k v.0);
            never = λ m.
                let c : i.remains ≡ done =
                i.complete (subst (λ (z : Response). Shorter r z) (let z : m.inside ≡ y = cc m.is in z) m.shorter) in
                differ (cc);
          })

-- ---- the objects of a list

-- one is struck out
dropped : (r : Response) (os : Objects) (d : ℕ) → Within r (d - 1) → (f s : List ℕ) (st : List (List ℕ)) → hits open_object s ≡ false
    → pass (listed (one r os) ++ f) (way InBoth s st) ≡ pass (listed os ++ f) (way InBoth s st)
unfolding tokens
dropped r os d w f s st h =
    step open_object ((tokens r ++ close_object ∷ listed os) ++ f) InBoth s st Opener false side_open h
    ∙ regroup (tokens r) (close_object ∷ listed os) f (way (Striking 1) s st)
    ∙ strike r (d - 1) w 0 (close_object ∷ (listed os ++ f)) s st
    ∙ gone close_object (listed os ++ f) 1 s st Closer side_close

all-dropped : (os : Objects) (d : ℕ) → WithinObjects os d → (f s : List ℕ) (st : List (List ℕ)) → hits open_object s ≡ false
    → pass (listed os ++ f) (way InBoth s st) ≡ pass f (way InBoth s st)
unfolding tokens Within
all-dropped none d w f s st h = refl
all-dropped (one r os) d w f s st h = dropped r os d w.1 f s st h ∙ all-dropped os d w.2 f s st h

gather_none : (d : ℕ) → Gathers none d
unfolding tokens Shorter
gather_none d ps e w = record {
  remains = ps;
  within = w;
  runs = λ x f st b. refl;
  complete = λ p. p;
  sound = λ p. record { read = ps; same = refl; fits = w; among = p };
}

push_row : (f s : List ℕ) (st : List (List ℕ)) → length st < most_brackets
    → pass (open_object ∷ f) (way InBoth (open_object ∷ s) st) ≡ pass f (way InBoth s ((open_object ∷ s) ∷ st))
push_row f s st b = step open_object f InBoth (open_object ∷ s) st Opener true side_open refl ∙ rw (lt-ltb (length st) most_brackets b)

-- objects of a list, up to its end, and what follows it
abbrev rows_of : Response → Objects → List ℕ → List ℕ
rows_of y ps x = listed (one y ps) ++ close_list ∷ x

module _ (r : Response) (os : Objects) (d : ℕ) (hd : 0 < d) (w : Within r (d - 1)) (p : Passes r (d - 1)) (g : Gathers os d) where
  gather-one : Gathers (one r os) d
  unfolding tokens Shorter Within
  gather-one none e v =
      let i = g none e v in
      record {
        remains = i.remains;
        within = i.within;
        runs = λ x f st b. dropped r os d w f (close_list ∷ x) st refl ∙ i.runs x f st b;
        complete = ⊎_elim i.complete (λ k. differ (cc k.is));
        sound = λ q. let a = i.sound q in record { read = a.read; same = a.same; fits = a.fits; among = inl a.among };
      }
  gather-one (one y ps) e v = go i.remains refl
    where
      i : Left r y (d - 1) (e - 1)
      i = p y (e - 1) v.1

      inside : (x f : List ℕ) (st : List (List ℕ)) → length st + 2 * d ≤ most_brackets
          → pass (listed (one r os) ++ f) (way InBoth (rows_of y ps x) st)
          ≡ pass (close_object ∷ (listed os ++ f)) (way InBoth (tokens i.remains ++ close_object ∷ (listed ps ++ close_list ∷ x)) (rows_of y ps x ∷ st))
      inside x f st b =
          let rest = listed ps ++ close_list ∷ x in
          let here = (tokens y ++ close_object ∷ listed ps) ++ close_list ∷ x in
          push_row ((tokens r ++ close_object ∷ listed os) ++ f) here st (omega arith)
          ∙ regroup (tokens r) (close_object ∷ listed os) f (way InBoth here ((open_object ∷ here) ∷ st))
          ∙ ap (λ (z : List ℕ). pass (tokens r ++ close_object ∷ (listed os ++ f)) (way InBoth z ((open_object ∷ here) ∷ st)))
          (append_assoc (tokens y) (close_object ∷ listed ps) (close_list ∷ x))
          ∙ i.runs (close_object ∷ rest) (stops_close rest) (close_object ∷ (listed os ++ f)) ((open_object ∷ here) ∷ st) (omega arith)

      go : (k : Response) → i.remains ≡ k → LeftObjects (one r os) (one y ps) d e
      go done q =
          let a = i.sound q in
          let j = g ps e v.2 in
          record {
            remains = j.remains;
            within = j.within;
            runs = λ x f st b.
                inside x f st b ∙ rw q (ends-object (listed os ++ f) (listed ps ++ close_list ∷ x) (rows_of y ps x) st) ∙ j.runs x f st b;
            complete = ⊎_elim
                (λ m. j.complete (tail-objects os y ps m))
                (λ m. j.complete (subst (λ (z : Objects). Among os z) (let z : m.rest ≡ ps = cc m.is in z) m.then));
            sound = λ m. let b = j.sound m in record {
              read = one a.read b.read;
              same = rw (a.same, b.same);
              fits = (v.0, a.fits, b.fits);
              among = inr (record { object = a.read; rest = b.read; is = refl; shorter = a.shorter; then = b.among });
            };
          }
      go (field k x t) q =
          let u : Within (field k x t) (e - 1) = subst (λ (z : Response). Within z (e - 1)) q i.within in
          let j = g (one y ps) e v in
          record {
            remains = j.remains;
            within = j.within;
            runs = λ z f st b.
                inside z f st b
                ∙ rw q (fails_object (listed os ++ f) ((contents x ++ tokens t) ++ close_object ∷ (listed ps ++ close_list ∷ z)) (rows_of y ps z) st k u.0)
                ∙ j.runs z f st b;
            complete = ⊎_elim j.complete (λ m.
                let c : i.remains ≡ done =
                i.complete (subst (λ (z : Response). Shorter r z) (let z : m.object ≡ y = cc m.is in z) m.shorter) in
                differ (cc));
            sound = λ m. let b = j.sound m in record { read = b.read; same = b.same; fits = b.fits; among = inl b.among };
          }

-- its `]`: where no object remains it stands in both
ends_list : (f s t : List ℕ) (st : List (List ℕ)) → pass (close_list ∷ f) (way InBoth (close_list ∷ s) (t ∷ st)) ≡ pass f (way InBoth s st)
ends_list f s t st = step close_list f InBoth (close_list ∷ s) (t ∷ st) Closer true side_end refl

module _ (os : Objects) (d : ℕ) (w : WithinObjects os d) (g : Gathers os d) where
  meet-objects : Meets (objects os) d
  unfolding head tokens Within Shorter
  meet-objects (value y) e h =
      refused (objects os) d w (value y) e (λ s. ne_eqb y open_list (omega arith)) (λ k. differ (cc k.is))
  meet-objects null e h = refused (objects os) d w null e (λ s. refl) (λ k. differ (cc k.is))
  meet-objects (object y) e h = refused (objects os) d w (object y) e (λ s. refl) (λ k. differ (cc k.is))
  meet-objects (values []) e h = inl (record {
    runs = λ l f s st wl b.
        enter (listed os) [] l f s st (omega arith)
        ∙ all-dropped os d w (close_list ∷ f) (close_list ∷ s) _ refl
        ∙ ends_list f s _ st;
    read = objects none;
    same = refl;
    fits = tt;
    keeps = record { inside = none; is = refl; among = all-struck os };
  })
  meet-objects (values (y ∷ ws)) e h = inr (record {
    runs = λ l f s st wl b.
        let hy : y ≤ largest = h.0 in
        enter (listed os) (y ∷ ws) l f s st (omega arith)
        ∙ all-dropped os d w (close_list ∷ f) (y ∷ (ws ++ close_list ∷ s)) _ (ne_eqb y open_object (omega arith))
        ∙ step close_list f InBoth (y ∷ (ws ++ close_list ∷ s)) _ Closer false side_end (ne_eqb y close_list (omega arith));
    never = λ k. differ (cc k.is);
  })
  meet-objects (objects ps) e h = go i.remains refl
    where
      i : LeftObjects os ps d e
      i = g ps e h

      inside : (l : ℕ) (f s : List ℕ) (st : List (List ℕ)) → length st + 2 * d < most_brackets
          → pass (contents (objects os) ++ f) (way Labelled (field_of l (objects ps) s) st)
          ≡ pass (close_list ∷ f) (way InBoth (listed i.remains ++ close_list ∷ s) (field_of l (objects ps) s ∷ st))
      inside l f s st b = enter (listed os) (listed ps) l f s st (omega arith) ∙ i.runs s (close_list ∷ f) _ (omega arith)

      go : (k : Objects) → i.remains ≡ k → Takes (objects os) (objects ps) d e ⊎ Leaves (objects os) (objects ps) d
      go none q = let a = i.sound q in inl (record {
        runs = λ l f s st wl b. inside l f s st b ∙ rw q (ends_list f s (field_of l (objects ps) s) st);
        read = objects a.read;
        same = rw a.same;
        fits = a.fits;
        keeps = record { inside = a.read; is = refl; among = a.among };
      })
      go (one y t) q = inr (record {
        runs = λ l f s st wl b.
            let left = open_object ∷ ((tokens y ++ close_object ∷ listed t) ++ close_list ∷ s) in
            inside l f s st b ∙ rw q (step close_list f InBoth left (field_of l (objects ps) s ∷ st) Closer false side_end refl);
        never = λ m.
            let c : i.remains ≡ none =
            i.complete (subst (λ (z : Objects). Among os z) (let z : m.inside ≡ ps = cc m.is in z) m.among) in
            differ (cc);
      })

-- ---- a whole response

mutual
  unfolding Within

  pub greedy : (R : Response) (d : ℕ) → Within R d → Passes R d
  greedy done d w = no_fields d
  greedy (field l c r) d w = fields l c r d w.0 w.1 (meet c d w.1) (greedy r d w.2)

  meet : (c : Content) (d : ℕ) → WithinContent c d → Meets c d
  meet (value v) d w = meet-value v d w
  meet null d w = meet-null d
  meet (values vs) d w = meet-values vs d w
  meet (object r) d w = meet-object r d w.0 w.1 (greedy r (d - 1) w.1)
  meet (objects os) d w = meet-objects os d w (gather os d w)

  gather : (os : Objects) (d : ℕ) → WithinObjects os d → Gathers os d
  gather none d w = gather_none d
  gather (one r os) d w = gather-one r os d w.0 w.1 (greedy r (d - 1) w.1) (gather os d w.2)
