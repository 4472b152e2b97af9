-- "Two labels are equal when field and pairs are equal": the test of labels is equality. Assumes nothing.
use mathlib.Core.Path.{◌≡◌, refl, ap₂, subst}
use mathlib.Core.Logic.{◌↔◌}
use mathlib.Core.Bool.{true, ◌&&◌, false≢true}
use mathlib.Core.List.{List, [], ◌∷◌}
use lib.Dec.{eqb}
use borrow.Author.Tests.{eq-eqb, eqb-true}
use Rattle.rules.specs.Text.{Pair}
use Rattle.rules.specs.Graph.{Label, same_pairs, same_label}
use Rattle.rules.proofs.Bools.{and-true, and-true_left, and-true_right}

same-pairs : (a b : List Pair) → same_pairs a b ≡ true → a ≡ b
same-pairs [] [] h = refl
same-pairs [] (q ∷ b) h = absurd (false≢true h)
same-pairs (p ∷ a) [] h = absurd (false≢true h)
same-pairs (p ∷ a) (q ∷ b) h =
    let arg = eqb p.arg.0 q.arg.0 in
    let val = eqb p.value q.value in
    let rest = and-true_right arg (val && same_pairs a b) h in
    let ea = eqb-true p.arg.0 q.arg.0 (and-true_left arg (val && same_pairs a b) h) in
    let ev = eqb-true p.value q.value (and-true_left val (same_pairs a b) rest) in
    let one : p ≡ q = λ i. record { arg = record { 0 = ea i }; value = ev i } in
    ap₂ (λ (x : Pair) (xs : List Pair). x ∷ xs) one (same-pairs a b (and-true_right val (same_pairs a b) rest))

pairs-same : (a : List Pair) → same_pairs a a ≡ true
pairs-same [] = refl
pairs-same (p ∷ a) = and-true (eq-eqb p.arg.0 p.arg.0 refl) (and-true (eq-eqb p.value p.value refl) (pairs-same a))

pub same-label : (a b : Label) → (same_label a b ≡ true) ↔ (a ≡ b)
same-label a b = (
  λ h.
      let ef = eqb-true a.field.0 b.field.0 (and-true_left (eqb a.field.0 b.field.0) (same_pairs a.args b.args) h) in
      let ep = same-pairs a.args b.args (and-true_right (eqb a.field.0 b.field.0) (same_pairs a.args b.args) h) in
      λ i. record { field = record { 0 = ef i }; args = ep i },
  λ e. subst (λ (x : Label). same_label a x ≡ true) e (and-true (eq-eqb a.field.0 a.field.0 refl) (pairs-same a.args)),
)
