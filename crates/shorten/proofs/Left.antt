-- What the pass leaves of a shortened response, and the pass over fields. Assumes nothing.
use mathlib.Core.Path.{◌≡◌, refl, sym, ap, subst, ◌∙◌}
use mathlib.Core.Logic.{◌⊎◌, inl, inr, ⊎_elim}
use mathlib.Core.Bool.{true, false}
use mathlib.Core.List.{List, ◌∷◌, ◌++◌, append_assoc}
use Prim.Native.Nat.{ℕ, ◌+◌, ◌*◌, ◌≤◌, ◌<◌}
use native.Mathlib.Omega.{arith}
use native.Mathlib.Decide.{ℕ_discrete}
use lib.ListN.{length, drop}
use borrow.Author.Tests.{eq-eqb, ne_eqb}
use Rattle.rules.specs.Eval.{label, open_object, open_list, close_list, null as nullToken}
use Rattle.tokens.specs.Response.{Response, done, field, Content, value, null, values, object, objects, Objects, none, one, tokens, contents, listed, largest_label, Within, WithinContent, WithinObjects}
use Rattle.shorten.specs.Pass.{side_of, hits, most_brackets}
use Rattle.shorten.specs.declared.Mode.TheVariants.{InBoth, Labelled, Striking}
use Rattle.shorten.specs.declared.Side.TheVariants.{Plain, Named, Opener}
use Rattle.shorten.proofs.Sides.{side_value, side_label, side_open, side_begin, side_null}
use Rattle.shorten.proofs.Way.{way, pass, step, regroup}
use Rattle.shorten.proofs.StruckOut.{gone, strike_content}
use Rattle.shorten.proofs.Shorter.{Shorter, Keeps, Among, differ}

-- ---- what is made by striking out goes on without its first field or object

tail : (R : Response) (m : ℕ) (x : Content) (s : Response) → Shorter R (field m x s) → Shorter R s
unfolding Shorter
tail done m x s h = differ (cc)
tail (field l c r) m x s (inl h) = inl (tail r m x s h)
tail (field l c r) m x s (inr k) = inl (subst (λ (t : Response). Shorter r t) (let z : k.rest ≡ s = cc in z) k.then)

pub tail-objects : (os : Objects) (x : Response) (ps : Objects) → Among os (one x ps) → Among os ps
unfolding Shorter
tail-objects none x ps h = differ (cc)
tail-objects (one r os) x ps (inl h) = inl (tail-objects os x ps h)
tail-objects (one r os) x ps (inr k) = inl (subst (λ (t : Objects). Among os t) (let z : k.rest ≡ ps = cc in z) k.then)

pub all-struck : (os : Objects) → Among os none
unfolding Shorter
all-struck none = refl
all-struck (one r os) = inl (all-struck os)

-- ---- what the pass does

-- no field begins here
unfoldable pub Stops : List ℕ → Type 0
Stops rest = (l : ℕ) → l ≤ largest_label → hits (label l) rest ≡ false

-- a field, and what follows it
abbrev pub field_of : ℕ → Content → List ℕ → List ℕ
field_of l x s = label l ∷ (contents x ++ s)

-- The pass over R, on S: what remains of S is nothing exactly when S, perhaps with an empty list read the other way, is made from R.
pub record Left (R S : Response) (d e : ℕ) : Type 0 where
  pub remains : Response
  pub within : Within remains e
  pub runs : (rest : List ℕ) → Stops rest → (f : List ℕ) (st : List (List ℕ)) → length st + 2 * d < most_brackets
      → pass (tokens R ++ f) (way InBoth (tokens S ++ rest) st) ≡ pass f (way InBoth (tokens remains ++ rest) st)
  pub complete : Shorter R S → remains ≡ done
  pub sound : remains ≡ done
      → record { read : Response; same : tokens read ≡ tokens S; fits : Within read e; shorter : Shorter R read }

pub record LeftObjects (os ps : Objects) (d e : ℕ) : Type 0 where
  pub remains : Objects
  pub within : WithinObjects remains e
  pub runs : (x f : List ℕ) (st : List (List ℕ)) → length st + 2 * d ≤ most_brackets
      → pass (listed os ++ f) (way InBoth (listed ps ++ close_list ∷ x) st) ≡ pass f (way InBoth (listed remains ++ close_list ∷ x) st)
  pub complete : Among os ps → remains ≡ none
  pub sound : remains ≡ none
      → record { read : Objects; same : listed read ≡ listed ps; fits : WithinObjects read e; among : Among os read }

-- The pass over a content, on a field with the same label: it takes the field, or it leaves it.
pub record Takes (c x : Content) (d e : ℕ) : Type 0 where
  pub runs : (l : ℕ) (f s : List ℕ) (st : List (List ℕ)) → l ≤ largest_label → length st + 2 * d < most_brackets
      → pass (contents c ++ f) (way Labelled (field_of l x s) st) ≡ pass f (way InBoth s st)
  pub read : Content
  pub same : contents read ≡ contents x
  pub fits : WithinContent read e
  pub keeps : Keeps c read

pub record Leaves (c x : Content) (d : ℕ) : Type 0 where
  pub runs : (l : ℕ) (f s : List ℕ) (st : List (List ℕ)) → l ≤ largest_label → length st + 2 * d < most_brackets
      → pass (contents c ++ f) (way Labelled (field_of l x s) st) ≡ pass f (way InBoth (field_of l x s) st)
  pub never : Keeps c x → ⊥

abbrev pub Passes : Response → ℕ → Type 0
Passes R d = (S : Response) (e : ℕ) → Within S e → Left R S d e

abbrev pub Meets : Content → ℕ → Type 0
Meets c d = (x : Content) (e : ℕ) → WithinContent x e → Takes c x d e ⊎ Leaves c x d

abbrev pub Gathers : Objects → ℕ → Type 0
Gathers os d = (ps : Objects) (e : ℕ) → WithinObjects ps e → LeftObjects os ps d e

-- ---- fields

pub no_fields : (d : ℕ) → Passes done d
unfolding Shorter tokens
no_fields d S e w = record {
  remains = S;
  within = w;
  runs = λ rest h f st b. refl;
  complete = λ p. p;
  sound = λ p. record { read = S; same = refl; fits = w; shorter = p };
}

module _ (l : ℕ) (c : Content) (r : Response) (d : ℕ) (wl : l ≤ largest_label) (wc : WithinContent c d) where
  -- the first field is struck out: the labels differ
  struck : (S : Response) (e : ℕ) → ((rest : List ℕ) → Stops rest → hits (label l) (tokens S ++ rest) ≡ false)
      → ((content : Content) (s : Response) → S ≡ field l content s → ⊥)
      → Left r S d e
      → Left (field l c r) S d e
  unfolding Shorter tokens
  struck S e h n i = record {
    remains = i.remains;
    within = i.within;
    runs = λ rest z f st b.
        step (label l) ((contents c ++ tokens r) ++ f) InBoth (tokens S ++ rest) st Named false (side_label l wl) (h rest z)
        ∙ regroup (contents c) (tokens r) f (way (Striking 0) (tokens S ++ rest) st)
        ∙ strike_content c d wc 0 (tokens r ++ f) (tokens S ++ rest) st
        ∙ i.runs rest z f st b;
    complete = ⊎_elim i.complete (λ k. absurd (n k.content k.rest k.is));
    sound = λ p. let q = i.sound p in record { read = q.read; same = q.same; fits = q.fits; shorter = inl q.shorter };
  }

  -- the labels are the same
  named : (x : Content) (s : Response) (rest f : List ℕ) (st : List (List ℕ))
      → pass (tokens (field l c r) ++ f) (way InBoth (tokens (field l x s) ++ rest) st)
      ≡ pass (contents c ++ (tokens r ++ f)) (way Labelled (field_of l x (tokens s ++ rest)) st)
  unfolding tokens
  named x s rest f st =
      let all = label l ∷ ((contents x ++ tokens s) ++ rest) in
      step (label l) ((contents c ++ tokens r) ++ f) InBoth all st Named true (side_label l wl) (eq-eqb (label l) (label l) refl)
      ∙ regroup (contents c) (tokens r) f (way Labelled all st)
      ∙ ap (λ (z : List ℕ). pass (contents c ++ (tokens r ++ f)) (way Labelled (label l ∷ z) st)) (append_assoc (contents x) (tokens s) rest)

  taken : (x : Content) (s : Response) (e : ℕ) → Takes c x d e → Left r s d e → Left (field l c r) (field l x s) d e
  unfolding Shorter tokens Within
  taken x s e t i = record {
    remains = i.remains;
    within = i.within;
    runs = λ rest z f st b. named x s rest f st ∙ t.runs l (tokens r ++ f) (tokens s ++ rest) st wl b ∙ i.runs rest z f st b;
    complete = ⊎_elim
        (λ h. i.complete (tail r l x s h))
        (λ k. i.complete (subst (λ (t : Response). Shorter r t) (let z : k.rest ≡ s = cc in z) k.then));
    sound = λ p. let q = i.sound p in record {
      read = field l t.read q.read;
      same = rw (t.same, q.same);
      fits = (wl, t.fits, q.fits);
      shorter = inr (record { content = t.read; rest = q.read; is = refl; kept = t.keeps; then = q.shorter });
    };
  }

  passed-by : (x : Content) (s : Response) (e : ℕ) → Leaves c x d → Left r (field l x s) d e → Left (field l c r) (field l x s) d e
  unfolding Shorter tokens
  passed-by x s e t i = record {
    remains = i.remains;
    within = i.within;
    runs = λ rest z f st b.
        named x s rest f st
        ∙ t.runs l (tokens r ++ f) (tokens s ++ rest) st wl b
        ∙ ap (λ (z : List ℕ). pass (tokens r ++ f) (way InBoth (label l ∷ z) st)) (sym (append_assoc (contents x) (tokens s) rest))
        ∙ i.runs rest z f st b;
    complete = ⊎_elim
        i.complete
        (λ k. absurd (t.never (subst (λ (y : Content). Keeps c y) (let z : k.content ≡ x = cc in z) k.kept)));
    sound = λ p. let q = i.sound p in record { read = q.read; same = q.same; fits = q.fits; shorter = inl q.shorter };
  }

  pub fields : Meets c d → Passes r d → Passes (field l c r) d
  unfolding Within tokens Stops
  fields m p done e w = struck done e (λ rest z. z l wl) (λ content s q. differ (cc)) (p done e w)
  fields m p (field k x s) e w = go (ℕ_discrete l k)
    where
      met : Takes c x d e ⊎ Leaves c x d → Left (field l c r) (field l x s) d e
      met (inl t) = taken x s e t (p s e w.2)
      met (inr t) = passed-by x s e t (p (field l x s) e (wl, w.1, w.2))

      go : Dec (l ≡ k) → Left (field l c r) (field k x s) d e
      go (yes q) = subst (λ (n : ℕ). Left (field l c r) (field n x s) d e) q (met (m x e w.1))
      go (no n) =
          struck (field k x s) e
          (λ rest z. ne_eqb (label k) (label l) (λ q. n (omega arith)))
          (λ content t q. n (cc))
          (p (field k x s) e w)

-- ---- a content whose first token is another

unfoldable pub head : Content → ℕ
head (value v) = v
head null = nullToken
head (values vs) = open_list
head (object r) = open_object
head (objects os) = open_list

missed_bracket : (x : ℕ) (c : Content) (d : ℕ) → WithinContent c d → (f rest S : List ℕ) (st : List (List ℕ)) → side_of x ≡ Opener
    → contents c ++ f ≡ x ∷ rest
    → hits x (drop 1 S) ≡ false
    → pass (contents c ++ f) (way Labelled S st) ≡ pass f (way InBoth S st)
missed_bracket x c d w f rest S st o e h =
    ap (λ (z : List ℕ). pass z (way Labelled S st)) e
    ∙ step x rest Labelled S st Opener false o h
    ∙ sym (gone x rest 0 S st Opener o)
    ∙ ap (λ (z : List ℕ). pass z (way (Striking 0) S st)) (sym e)
    ∙ strike_content c d w 0 f S st

missed_content : (c : Content) (d : ℕ) → WithinContent c d → (f S : List ℕ) (st : List (List ℕ)) → hits (head c) (drop 1 S) ≡ false
    → pass (contents c ++ f) (way Labelled S st) ≡ pass f (way InBoth S st)
unfolding head tokens Within
missed_content (value v) d w f S st h = step v f Labelled S st Plain false (side_value v w) h
missed_content null d w f S st h = step nullToken f Labelled S st Plain false side_null h
missed_content (values vs) d w f S st h = missed_bracket open_list (values vs) d w f _ S st side_begin refl h
missed_content (object r) d w f S st h = missed_bracket open_object (object r) d w f _ S st side_open refl h
missed_content (objects os) d w f S st h = missed_bracket open_list (objects os) d w f _ S st side_begin refl h

module _ (c : Content) (d : ℕ) (w : WithinContent c d) where
  pub refused : (x : Content) (e : ℕ) → ((s : List ℕ) → hits (head c) (contents x ++ s) ≡ false) → (Keeps c x → ⊥)
      → Takes c x d e ⊎ Leaves c x d
  refused x e h n = inr (record { runs = λ l f s st wl b. missed_content c d w f (field_of l x s) st (h s); never = n })
