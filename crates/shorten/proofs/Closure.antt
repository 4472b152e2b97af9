-- What `Shorter` says is what striking out, one thing at a time, can make. Assumes nothing.
use mathlib.Core.Path.{refl, sym, subst}
use mathlib.Core.Logic.{inl, inr}
use Rattle.tokens.specs.Response.{Response, done, field, Content, value, null, values, object, objects, Objects, none, one}
use Rattle.shorten.proofs.Shorter.{Shorter, Keeps, Among}
use Rattle.shorten.specs.Strikes.{Strike, this, later, within, StrikeContent, in_object, in_objects, StrikeObjects, this-object, later-object, within-object, Many, enough, more, Strikes}

-- ---- what is struck out, one thing at a time, is made by recursion

-- nothing struck out
mutual
  unfolding Shorter

  same : (R : Response) → Shorter R R
  same done = refl
  same (field l c r) = inr (record { content = c; rest = r; is = refl; kept = same_content c; then = same r })

  same_content : (c : Content) → Keeps c c
  same_content (value v) = refl
  same_content null = refl
  same_content (values vs) = refl
  same_content (object r) = record { inside = r; is = refl; shorter = same r }
  same_content (objects os) = record { inside = os; is = refl; among = same-objects os }

  same-objects : (os : Objects) → Among os os
  same-objects none = refl
  same-objects (one r os) = inr (record { object = r; rest = os; is = refl; shorter = same r; then = same-objects os })

-- one thing struck out first
mutual
  unfolding Shorter

  first : {R S : Response} → Strike R S → (T : Response) → Shorter S T → Shorter R T
  first this T h = inl h
  first (later k) T (inl h) = inl (first k T h)
  first (later k) T (inr h) =
      inr (record { content = h.content; rest = h.rest; is = h.is; kept = h.kept; then = first k h.rest h.then })
  first (within k) T (inl h) = inl h
  first (within k) T (inr h) =
      inr (record { content = h.content; rest = h.rest; is = h.is; kept = first_content k h.content h.kept; then = h.then })

  first_content : {c d : Content} → StrikeContent c d → (x : Content) → Keeps d x → Keeps c x
  first_content (in_object k) x h = record { inside = h.inside; is = h.is; shorter = first k h.inside h.shorter }
  first_content (in_objects k) x h = record { inside = h.inside; is = h.is; among = first-objects k h.inside h.among }

  first-objects : {os ps : Objects} → StrikeObjects os ps → (x : Objects) → Among ps x → Among os x
  first-objects this-object x h = inl h
  first-objects (later-object k) x (inl h) = inl (first-objects k x h)
  first-objects (later-object k) x (inr h) =
      inr (record { object = h.object; rest = h.rest; is = h.is; shorter = h.shorter; then = first-objects k h.rest h.then })
  first-objects (within-object k) x (inl h) = inl h
  first-objects (within-object k) x (inr h) =
      inr (record { object = h.object; rest = h.rest; is = h.is; shorter = first k h.object h.shorter; then = h.then })

pub strikes_shorter : {R S : Response} → Strikes R S → Shorter R S
strikes_shorter {R} enough = same R
strikes_shorter {S} (more k h) = first k S (strikes_shorter h)

-- ---- the other way

join : {A : Type 0} {S : A → A → Type 0} {a b c : A} → Many S a b → Many S b c → Many S a c
join enough k = k
join (more h i) k = more h (join i k)

-- the same inside something larger
along : {A B : Type 0} {S : A → A → Type 0} {T : B → B → Type 0} (g : A → B) → ((a b : A) → S a b → T (g a) (g b)) → {a b : A}
    → Many S a b → Many T (g a) (g b)
along g h enough = enough
along g h (more {a} {b} k l) = more (h a b k) (along g h l)

mutual
  unfolding Shorter

  pub shorter_strikes : (R S : Response) → Shorter R S → Strikes R S
  shorter_strikes done S h = subst (λ (s : Response). Strikes done s) (sym h) enough
  shorter_strikes (field l c r) S (inl h) = more this (shorter_strikes r S h)
  shorter_strikes (field l c r) S (inr k) =
      subst (λ (s : Response). Strikes (field l c r) s) (sym k.is)
      (join
      (along (λ (x : Content). field l x r) (λ a b h. within h) (keeps_strikes c k.content k.kept))
      (along (λ (x : Response). field l k.content x) (λ a b h. later h) (shorter_strikes r k.rest k.then)))

  keeps_strikes : (c d : Content) → Keeps c d → Many StrikeContent c d
  keeps_strikes (value v) d h = subst (λ (x : Content). Many StrikeContent (value v) x) (sym h) enough
  keeps_strikes null d h = subst (λ (x : Content). Many StrikeContent null x) (sym h) enough
  keeps_strikes (values vs) d h = subst (λ (x : Content). Many StrikeContent (values vs) x) (sym h) enough
  keeps_strikes (object r) d h =
      subst (λ (x : Content). Many StrikeContent (object r) x) (sym h.is)
      (along object (λ a b k. in_object k) (shorter_strikes r h.inside h.shorter))
  keeps_strikes (objects os) d h =
      subst (λ (x : Content). Many StrikeContent (objects os) x) (sym h.is)
      (along objects (λ a b k. in_objects k) (among_strikes os h.inside h.among))

  among_strikes : (os ps : Objects) → Among os ps → Many StrikeObjects os ps
  among_strikes none ps h = subst (λ (x : Objects). Many StrikeObjects none x) (sym h) enough
  among_strikes (one r os) ps (inl h) = more this-object (among_strikes os ps h)
  among_strikes (one r os) ps (inr k) =
      subst (λ (x : Objects). Many StrikeObjects (one r os) x) (sym k.is)
      (join
      (along (λ (x : Response). one x os) (λ a b h. within-object h) (shorter_strikes r k.object k.shorter))
      (along (λ (x : Objects). one k.object x) (λ a b h. later-object h) (among_strikes os k.rest k.then)))
