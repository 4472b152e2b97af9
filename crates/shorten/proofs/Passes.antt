-- The pass leaves nothing exactly when the second response is made from the first. Assumes nothing.
use mathlib.Core.Path.{◌≡◌, refl, sym, ap, ap₂, ◌∙◌}
use mathlib.Core.Logic.{◌↔◌}
use mathlib.Core.Bool.{true, false≢true}
use mathlib.Core.List.{List, [], append-nil}
use Prim.Native.Nat.{ℕ}
use native.Mathlib.Omega.{arith}
use Rattle.rules.specs.Lists.{is_empty}
use Rattle.tokens.specs.Response.{Response, done, field, tokens, most_open, Reading, IsResponse}
use Rattle.shorten.specs.Strikes.{Shortened}
use Rattle.shorten.specs.declared.Mode.TheVariants.{InBoth}
use Rattle.shorten.proofs.Way.{way, pass, passes}
use Rattle.shorten.proofs.Shorter.{Shorter}
use Rattle.shorten.proofs.Closure.{strikes_shorter, shorter_strikes}
use Rattle.shorten.proofs.Left.{Stops, Left}
use Rattle.shorten.proofs.Nested.{greedy}

stops_end : Stops []
unfolding Stops
stops_end l h = refl

module _ {f s : List ℕ} {R S : Response} (r : Reading f R) (q : Reading s S) where
  i : Left R S most_open most_open
  i = greedy R most_open r.within S most_open q.within

  remaining : pass f (way InBoth s []) ≡ tokens i.remains
  unfolding pass
  remaining =
      ap₂ (λ (x y : List ℕ). pass x (way InBoth y [])) (sym (append-nil (tokens R) ∙ r.is)) (sym (append-nil (tokens S) ∙ q.is))
      ∙ i.runs [] stops_end [] [] (omega arith)
      ∙ append-nil (tokens i.remains)

  yes_shortened : passes f s ≡ true → Shortened f s
  unfolding tokens
  yes_shortened h = go i.remains refl
    where
      go : (k : Response) → i.remains ≡ k → Shortened f s
      go done p =
          let a = i.sound p in
          (R, a.read, r, record { is = a.same ∙ q.is; within = a.fits; few = q.few }, shorter_strikes R a.read a.shorter)
      go (field l c t) p = absurd (false≢true (sym (ap is_empty (remaining ∙ ap tokens p)) ∙ h))

  shorter_yes : Shorter R S → passes f s ≡ true
  unfolding tokens
  shorter_yes h = ap is_empty (remaining ∙ ap tokens (i.complete h))

shortened_yes : {f s : List ℕ} → Shortened f s → passes f s ≡ true
shortened_yes h = shorter_yes h.2 h.3 (strikes_shorter h.4)

pub passes_exactly : {f s : List ℕ} → IsResponse f → IsResponse s → (passes f s ≡ true) ↔ Shortened f s
passes_exactly a b = (λ h. yes_shortened a.1 b.1 h, λ h. shortened_yes h)
