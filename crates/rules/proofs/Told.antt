-- What is promised of a value that was told by another. By its name that is the one that was named; by a number it is the one that the
-- number means, and what each kind has is had by each number. Assumes nothing.
use mathlib.Core.Path.{◌≡◌, refl, ap, ◌∙◌}
use mathlib.Core.Bool.{Bool, true, false, cond}
use Prim.Native.Nat.{ℕ}
use lib.Dec.{eqb}
use Rattle.rules.specs.Forms.{schema_forms, graph_forms, query_forms}
use Rattle.rules.specs.Schema.{check11}
use Rattle.rules.specs.Graph.{check21}
use Rattle.rules.specs.Query.{check31}
use Rattle.rules.specs.Kinds.{kind_for, forms_of, maxima_of}
use Rattle.rules.specs.declared.TextKind.TheVariants.{Schema, Graph, Query}

module _ {A B : Type 0} (f : A → B) where
  -- what holds of some value that is k holds of k
  pub told : {k : A} {b : B} → ((t : A) × (t ≡ k) × (b ≡ f t)) → b ≡ f k
  told s = s.2 ∙ ap f s.1

  pub chosen : (c : Bool) (x y : A) → f (cond c x y) ≡ cond c (f x) (f y)
  chosen true x y = refl
  chosen false x y = refl

-- by the number of a text's first check: its form, and its maxima
pub forms_by_number : (n : ℕ) → forms_of (kind_for n) ≡ cond (eqb n 10) schema_forms (cond (eqb n 20) graph_forms query_forms)
unfolding forms_of
forms_by_number n =
    chosen forms_of (eqb n 10) Schema (cond (eqb n 20) Graph Query)
    ∙ ap (cond (eqb n 10) schema_forms) (chosen forms_of (eqb n 20) Graph Query)

pub maxima_by_number : (n : ℕ) → maxima_of (kind_for n) ≡ cond (eqb n 10) check11 (cond (eqb n 20) check21 check31)
unfolding maxima_of
maxima_by_number n =
    chosen maxima_of (eqb n 10) Schema (cond (eqb n 20) Graph Query)
    ∙ ap (cond (eqb n 10) check11) (chosen maxima_of (eqb n 20) Graph Query)
