-- The loop of the pass: it stands where `Way` has it. Assumes nothing.
use mathlib.Core.Path.{◌≡◌, refl, sym, ap, subst, ◌∙◌}
use mathlib.Core.Logic.{◌↔◌}
use mathlib.Core.Bool.{Bool, true, false, cond}
use mathlib.Core.List.{List, [], ◌∷◌}
use Prim.Native.Nat.{ℕ, zero, suc, ◌+◌, ◌-◌, ◌≤◌, ◌<◌}
use native.Mathlib.Numerals.{add-one}
use native.Mathlib.Omega.{arith}
use lib.Dec.{eqb, ltb}
use lib.ListN.{length, get_or, set, drop, drop_of_length-le, length-set}
use lib.Seq.{drop-drop, get_or-set_same, get_or-set_other}
use borrow.Author.Tests.{ltb-true, ne_eqb}
use denote.Ref.{Bor}
use Rattle.std.specs.Prelude.{Option, Some, None}
use Rattle.std.specs.Bool.{then_some, ◌==◌}
use Rattle.std.proofs.lemmas.List.{drop_more}
use Rattle.rules.specs.Lists.{is_empty}
use Rattle.tokens.specs.Response.{IsResponse}
use Rattle.shorten.specs.Strikes.{Shortened}
use Rattle.shorten.specs.Pass.{side_of, hits, most_brackets, found, struck, settled, strike_of, Standing, stand, shows, past_of, turn_of}
use Rattle.shorten.specs.declared.Mode.{Mode}
use Rattle.shorten.specs.declared.Mode.TheVariants.{InBoth, Labelled, Striking}
use Rattle.shorten.specs.declared.Side.{Side}
use Rattle.shorten.specs.declared.Side.TheVariants.{Plain, Named, Opener, Closer}
use Rattle.shorten.specs.declared.Stand.{Stand}
use Rattle.shorten.proofs.Way.{Way, way, back_to, outer, live, turned, pass, passes}
use Rattle.shorten.proofs.Passes.{passes_exactly}

-- ---- one turn

-- the rest behind a token, by whether the token stands first
past-then_some : (x : ℕ) (s : List ℕ) → past_of x s ≡ then_some (hits x s) (drop 1 s)
past-then_some x [] = refl
past-then_some x (y ∷ s) = go (eqb y x)
  where
    go : (b : Bool) → cond b (Some s) None ≡ then_some b s
    go true = refl
    go false = refl

-- what the code shows of the pass on its way
abbrev shown : Way → Standing
shown v = stand v.mode v.left (length v.saved)

module _ (s : List ℕ) (st : List (List ℕ)) where
  outer-length : length st - 1 ≡ length (outer st)
  outer-length = go st
    where
      go : (u : List (List ℕ)) → length u - 1 ≡ length (outer u)
      go [] = omega arith
      go (t ∷ u) = omega arith

  opened : (b : Bool) (t : List ℕ)
      → cond b (stand InBoth t (length st + 1)) (stand (Striking 1) s (length st)) ≡ shown (cond b (way InBoth t (s ∷ st)) (way (Striking 1) s st))
  opened true t = ap (λ (n : ℕ). stand InBoth t n) (add-one (length st))
  opened false t = refl

  lives : (d : Side) (b : Bool) (m : Mode)
      → turn_of d (then_some b (drop (suc (found m)) s)) (stand m s (length st)) (back_to s st) ≡ shown (turned d b m s st)
  lives Plain true InBoth = refl
  lives Plain true Labelled = refl
  lives Plain false InBoth = refl
  lives Plain false Labelled = refl
  lives Named true InBoth = refl
  lives Named true Labelled = refl
  lives Named false InBoth = refl
  lives Named false Labelled = refl
  lives Opener true InBoth = opened (ltb (length st) most_brackets) (drop 1 s)
  lives Opener true Labelled = opened (ltb (length st) most_brackets) (drop 2 s)
  lives Opener false InBoth = refl
  lives Opener false Labelled = refl
  lives Closer true InBoth = ap (stand InBoth (drop 1 s)) outer-length
  lives Closer true Labelled = ap (stand InBoth (drop 2 s)) outer-length
  lives Closer false InBoth = ap (stand InBoth (back_to s st)) outer-length
  lives Closer false Labelled = ap (stand InBoth (back_to s st)) outer-length
  lives Plain b (Striking k) = refl
  lives Named b (Striking k) = refl
  lives Opener b (Striking k) = refl
  lives Closer b (Striking k) = refl

-- ---- the saved rests

-- those of the array are those of the open brackets, the innermost last
abbrev Holds : List (Bor (List ℕ)) → List (List ℕ) → Type 0
Holds a [] = Unit {0}
Holds a (t ∷ st) = ((d : Bor (List ℕ)) → (get_or a (length st) d).now ≡ t) × Holds a st

module _ (a : List (Bor (List ℕ))) (n : ℕ) (r : Bor (List ℕ)) (size : length a ≡ suc most_brackets) where
  holds-set : (st : List (List ℕ)) → length st ≤ n → Holds a st → Holds (set a n r) st
  holds-set [] h w = tt
  holds-set (t ∷ st) h w =
      (λ d. ap (λ (x : Bor (List ℕ)). x.now) (get_or-set_other a n (length st) r d (omega arith)) ∙ w.0 d, holds-set st (omega arith) w.1)

  holds-outer : (st : List (List ℕ)) → length st ≤ n → Holds a st → Holds (set a n r) (outer st)
  holds-outer [] h w = tt
  holds-outer (t ∷ st) h w = holds-set st (omega arith) w.1

  holds-pushed : (st : List (List ℕ)) → n ≡ length st → n ≤ most_brackets → Holds a st → Holds (set a n r) (r.now ∷ st)
  holds-pushed st e h w = (
    λ d. ap (λ (k : ℕ). (get_or (set a n r) k d).now) (sym e) ∙ ap (λ (x : Bor (List ℕ)). x.now) (get_or-set_same a n r d (omega arith)),
    holds-set st (omega arith) w,
  )

  -- what holds of the saved rests of a turn
  record Kept (st : List (List ℕ)) : Type 0 where
    held : Holds (set a n r) st
    room : length st ≤ most_brackets

  module _ (st : List (List ℕ)) (depth : n ≡ length st) (room : n ≤ most_brackets) (w : Holds a st) where
    stays : Kept st
    stays = record { held = holds-set st (omega arith) w; room = omega arith }

    leaves : Kept (outer st)
    leaves = record { held = holds-outer st (omega arith) w; room = go st (omega arith) }
      where
        go : (u : List (List ℕ)) → length u ≤ most_brackets → length (outer u) ≤ most_brackets
        go [] h = h
        go (t ∷ u) h = omega arith

    opens : (b : Bool) (t : List ℕ) → ltb (length st) most_brackets ≡ b → Kept (cond b (way InBoth t (r.now ∷ st)) (way (Striking 1) r.now st)).saved
    opens true t h =
        let low : length st < most_brackets = ltb-true _ _ h in
        record { held = holds-pushed st depth room w; room = omega arith }
    opens false t h = stays

    keeps : (d : Side) (b : Bool) (m : Mode) → Kept (live d b m r.now st).saved
    keeps Plain true m = stays
    keeps Plain false m = stays
    keeps Named true m = stays
    keeps Named false m = stays
    keeps Opener true m = opens (ltb (length st) most_brackets) (drop (suc (found m)) r.now) refl
    keeps Opener false m = stays
    keeps Closer true m = leaves
    keeps Closer false m = leaves

    turn-keeps : (d : Side) (b : Bool) (m : Mode) → Kept (turned d b m r.now st).saved
    turn-keeps d b InBoth = keeps d b InBoth
    turn-keeps d b Labelled = keeps d b Labelled
    turn-keeps d b (Striking k) = stays

-- the innermost one
none_saved : (st : List (List ℕ)) (s : List ℕ) → length st ≡ 0 → s ≡ back_to s st
none_saved [] s h = refl
none_saved (t ∷ st) s h = absurd (omega arith)

some_saved : (a : List (Bor (List ℕ))) (st : List (List ℕ)) (s : List ℕ) (d : Bor (List ℕ)) → Holds a st → (length st ≡ 0 → ⊥)
    → (get_or a (length st - 1) d).now ≡ back_to s st
some_saved a [] s d w h = absurd (h refl)
some_saved a (t ∷ st) s d w h =
    ap (λ (k : ℕ). (get_or a k d).now) (let less : suc (length st) - 1 ≡ length st = omega arith in less) ∙ w.0 d

-- ---- of what is struck out no more brackets are open than tokens were passed

settled-low : (k : ℕ) → struck (settled k) ≤ k
settled-low zero = omega arith
settled-low (suc k) = omega arith

strike-low : (d : Side) (k : ℕ) → struck (strike_of d k) ≤ k + 1
strike-low Plain k = omega (arith, settled-low k)
strike-low Named k = omega (arith, settled-low k)
strike-low Opener k = omega arith
strike-low Closer zero = omega arith
strike-low Closer (suc k) = omega (arith, settled-low k)

opened-low : (b : Bool) (s t : List ℕ) (st : List (List ℕ)) → struck (cond b (way InBoth t (s ∷ st)) (way (Striking 1) s st)).mode ≤ 1
opened-low true s t st = omega arith
opened-low false s t st = omega arith

live-low : (d : Side) (b : Bool) (m : Mode) (s : List ℕ) (st : List (List ℕ)) → struck (live d b m s st).mode ≤ 1
live-low Plain true m s st = omega arith
live-low Plain false m s st = omega arith
live-low Named true m s st = omega arith
live-low Named false m s st = omega arith
live-low Opener true m s st = opened-low (ltb (length st) most_brackets) s (drop (suc (found m)) s) st
live-low Opener false m s st = omega arith
live-low Closer true m s st = omega arith
live-low Closer false m s st = omega arith

turned-low : (d : Side) (b : Bool) (m : Mode) (i : ℕ) (s : List ℕ) (st : List (List ℕ)) → struck m ≤ i
    → struck (turned d b m s st).mode ≤ i + 1
turned-low d b InBoth i s st h = omega (arith, live-low d b InBoth s st)
turned-low d b Labelled i s st h = omega (arith, live-low d b Labelled s st)
turned-low d b (Striking k) i s st h = omega (arith, strike-low d k)

-- ---- the loop

pub record At (f s : List ℕ) (saved : List (Bor (List ℕ))) (w : Stand) (i : ℕ) : Type 0 where
  pub first : IsResponse f
  pub second : IsResponse s
  pub st : List (List ℕ)
  pub size : length saved ≡ suc most_brackets
  pub seen : i ≤ length f
  pub depth : w.depth ≡ length st
  pub room : w.depth ≤ most_brackets
  pub held : Holds saved st
  pub shallow : struck w.mode ≤ i
  pub same : pass (drop i f) (way w.mode w.rest.now st) ≡ pass f (way InBoth s [])

length-empty : (s : List ℕ) → (length s == 0) ≡ is_empty s
length-empty [] = refl
length-empty (x ∷ s) = ne_eqb (suc (length s)) 0 (omega arith)

module _ {f s : List ℕ} {saved : List (Bor (List ℕ))} {w : Stand} {i : ℕ} (at : At f s saved w i) where
  -- one token more of the full response
  pass-more : i < length f → (d : Side) → d ≡ side_of (get_or f i 0)
      → pass (drop (i + 1) f) (turned d (hits (get_or f i 0) (drop (found w.mode) w.rest.now)) w.mode w.rest.now at.st) ≡ pass f (way InBoth s [])
  unfolding pass
  pass-more h d e =
      rw e (ap (λ (z : List ℕ). pass z (way w.mode w.rest.now at.st)) (sym (drop_more f i 0 h)) ∙ at.same)

  pub next : i < length f → (d : Side) (n : List ℕ) (p : Option (List ℕ)) (back : List ℕ) (w' : Stand) → d ≡ side_of (get_or f i 0)
      → n ≡ drop (found w.mode) w.rest.now
      → p ≡ past_of (get_or f i 0) n
      → back ≡ back_to w.rest.now at.st
      → shows w' ≡ turn_of d p (shows w) back
      → At f s (set saved w.depth w.rest) w' (i + 1)
  next h d n p back w' e z k u q =
      let b : Bool = hits (get_or f i 0) (drop (found w.mode) w.rest.now) in
      let v : Way = turned d b w.mode w.rest.now at.st in
      let past : p ≡ then_some b (drop (suc (found w.mode)) w.rest.now) =
      k ∙ ap (past_of (get_or f i 0)) z ∙ past-then_some (get_or f i 0) (drop (found w.mode) w.rest.now)
      ∙ ap (then_some b) (drop-drop 1 (found w.mode) w.rest.now ∙ ap (λ (j : ℕ). drop j w.rest.now) (add-one (found w.mode))) in
      let there : shows w' ≡ shown v =
      q ∙ ap (λ (o : Option (List ℕ)). turn_of d o (shows w) back) past
      ∙ ap (λ (x : List ℕ). turn_of d (then_some b (drop (suc (found w.mode)) w.rest.now)) (shows w) x) u
      ∙ ap (λ (x : ℕ). turn_of d (then_some b (drop (suc (found w.mode)) w.rest.now)) (stand w.mode w.rest.now x) (back_to w.rest.now at.st)) at.depth
      ∙ lives w.rest.now at.st d b w.mode in
      let kept = turn-keeps saved w.depth w.rest at.size at.st at.depth at.room at.held d b w.mode in
      record {
        first = at.first;
        second = at.second;
        st = v.saved;
        size = length-set saved w.depth w.rest ∙ at.size;
        seen = omega arith;
        depth = ap (λ (x : Standing). x.depth) there;
        room = let e' : w'.depth ≡ length v.saved = ap (λ (x : Standing). x.depth) there in let low : length v.saved ≤ most_brackets = kept.room in omega arith;
        held = kept.held;
        shallow = subst (λ (x : Standing). struck x.mode ≤ i + 1) (sym there) (turned-low d b w.mode i w.rest.now at.st at.shallow);
        same = ap (λ (x : Standing). pass (drop (i + 1) f) (way x.mode x.rest v.saved)) there ∙ pass-more h d e;
      }

  -- where to go back to, as the code reads it
  pub back-none : (back : Bor (List ℕ)) → w.depth ≡ 0 → back ≡ w.rest → back.now ≡ back_to w.rest.now at.st
  back-none back h e = ap (λ (x : Bor (List ℕ)). x.now) e ∙ none_saved at.st w.rest.now (sym at.depth ∙ h)

  pub back-some : (back d : Bor (List ℕ)) → (w.depth ≡ 0 → ⊥) → back ≡ get_or saved (w.depth - 1) d → back.now ≡ back_to w.rest.now at.st
  back-some back d h e =
      ap (λ (x : Bor (List ℕ)). x.now) e
      ∙ ap (λ (k : ℕ). (get_or saved (k - 1) d).now) at.depth
      ∙ some_saved saved at.st w.rest.now d at.held (λ z. h (at.depth ∙ z))

  -- at the end
  over : length f ≤ i → w.rest.now ≡ pass f (way InBoth s [])
  unfolding pass
  over h = ap (λ (z : List ℕ). pass z (way w.mode w.rest.now at.st)) (sym (drop_of_length-le f h)) ∙ at.same

  pub decides : length f ≤ i → (b : Bool) → b ≡ (length w.rest.now == 0) → (b ≡ true) ↔ Shortened f s
  decides h b e =
      let says : b ≡ passes f s = e ∙ length-empty w.rest.now ∙ ap is_empty (over h) in
      (λ t. (passes_exactly at.first at.second).0 (sym says ∙ t), λ m. says ∙ (passes_exactly at.first at.second).1 m)
