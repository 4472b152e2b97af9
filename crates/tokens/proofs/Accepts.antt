-- The check accepts every response. Assumes nothing.
use mathlib.Core.Path.{◌≡◌, refl, sym, ap, ◌∙◌}
use mathlib.Core.Bool.{Bool, true, false}
use mathlib.Core.List.{List, [], ◌∷◌, ◌++◌, append_assoc, append-nil}
use Prim.Native.Nat.{ℕ, ◌+◌, ◌-◌, ◌≤◌, ◌<◌}
use native.Mathlib.Omega.{arith}
use lib.ListN.{length}
use Rattle.std.specs.Prelude.{Option, Some}
use Rattle.rules.specs.Lists.{Each}
use Rattle.rules.specs.Text.{largest}
use Rattle.rules.specs.Eval.{label, open_object, close_object, open_list, close_list, null as nullToken}
use Rattle.tokens.specs.Response.{Response, done, field, Content, value, null, values, object, objects, Objects, none, one, tokens, contents, listed, Within, WithinContent, WithinObjects, most_open, Reading}
use Rattle.tokens.specs.Check.{state, start, onward, accepts}
use Rattle.tokens.specs.declared.Mode.TheVariants.{Fields, Labelled, Opened, InValues, InObjects}
use Rattle.tokens.specs.declared.State.{State}
use Rattle.tokens.proofs.Steps.{nest, step, after-label, after_close, after-value, after-first_value, after-further_value, opened, closed_field, closed_row}

regroup : (a b f : List ℕ) (p : Option State) → accepts ((a ++ b) ++ f) p ≡ accepts (a ++ (b ++ f)) p
regroup a b f p = rw append_assoc

-- ---- lists

further-values : (vs : List ℕ) → Each (λ v. v ≤ largest) vs → (n : ℕ) (f : List ℕ)
    → accepts (vs ++ close_list ∷ f) (onward InValues n) ≡ accepts f (onward Fields n)
further-values [] w n f = step close_list f (state InValues n) (onward Fields n) refl
further-values (v ∷ vs) w n f =
    step v (vs ++ close_list ∷ f) (state InValues n) (onward InValues n) (after-further_value v n w.0) ∙ further-values vs w.1 n f

list_of_values : (vs : List ℕ) → Each (λ v. v ≤ largest) vs → (n : ℕ) (f : List ℕ)
    → accepts (vs ++ close_list ∷ f) (onward Opened n) ≡ accepts f (onward Fields n)
list_of_values [] w n f = step close_list f (state Opened n) (onward Fields n) refl
list_of_values (v ∷ vs) w n f =
    step v (vs ++ close_list ∷ f) (state Opened n) (onward InValues n) (after-first_value v n w.0) ∙ further-values vs w.1 n f

-- at its beginning a list of objects goes on as further on
first-object : (os : Objects) (n : ℕ) (f : List ℕ)
    → accepts (listed os ++ close_list ∷ f) (onward Opened n) ≡ accepts (listed os ++ close_list ∷ f) (onward InObjects n)
unfolding tokens accepts
first-object none n f = refl
first-object (one r os) n f = refl

-- ---- responses

mutual
  unfolding tokens Within

  reads : (R : Response) (d : ℕ) → Within R d → (st : List Bool) → length st + d ≤ most_open → (f : List ℕ)
      → accepts (tokens R ++ f) (onward Fields (nest st)) ≡ accepts f (onward Fields (nest st))
  reads done d w st h f = refl
  reads (field l c r) d w st h f =
      step (label l) ((contents c ++ tokens r) ++ f) (state Fields (nest st)) (onward Labelled (nest st)) (after-label l (nest st) w.0)
      ∙ regroup (contents c) (tokens r) f (onward Labelled (nest st))
      ∙ reads_content c d w.1 st h (tokens r ++ f)
      ∙ reads r d w.2 st h f

  reads_content : (c : Content) (d : ℕ) → WithinContent c d → (st : List Bool) → length st + d ≤ most_open → (f : List ℕ)
      → accepts (contents c ++ f) (onward Labelled (nest st)) ≡ accepts f (onward Fields (nest st))
  reads_content (value v) d w st h f = step v f (state Labelled (nest st)) (onward Fields (nest st)) (after-value v (nest st) w)
  reads_content null d w st h f = step nullToken f (state Labelled (nest st)) (onward Fields (nest st)) refl
  reads_content (values vs) d w st h f =
      step open_list ((vs ++ close_list ∷ []) ++ f) (state Labelled (nest st)) (onward Opened (nest st)) refl
      ∙ regroup vs (close_list ∷ []) f (onward Opened (nest st))
      ∙ list_of_values vs w (nest st) f
  reads_content (object r) d w st h f =
      let some : 0 < d = w.0 in
      step open_object ((tokens r ++ close_object ∷ []) ++ f) (state Labelled (nest st)) (onward Fields (nest (false ∷ st)))
      (opened false st (omega arith))
      ∙ regroup (tokens r) (close_object ∷ []) f (onward Fields (nest (false ∷ st)))
      ∙ reads r (d - 1) w.1 (false ∷ st) (omega arith) (close_object ∷ f)
      ∙ step close_object f (state Fields (nest (false ∷ st))) (onward Fields (nest st)) (after_close (nest (false ∷ st)) ∙ closed_field st)
  reads_content (objects os) d w st h f =
      step open_list ((listed os ++ close_list ∷ []) ++ f) (state Labelled (nest st)) (onward Opened (nest st)) refl
      ∙ regroup (listed os) (close_list ∷ []) f (onward Opened (nest st))
      ∙ first-object os (nest st) f
      ∙ reads-objects os d w st h f

  reads-objects : (os : Objects) (d : ℕ) → WithinObjects os d → (st : List Bool) → length st + d ≤ most_open → (f : List ℕ)
      → accepts (listed os ++ close_list ∷ f) (onward InObjects (nest st)) ≡ accepts f (onward Fields (nest st))
  reads-objects none d w st h f = step close_list f (state InObjects (nest st)) (onward Fields (nest st)) refl
  reads-objects (one r os) d w st h f =
      let some : 0 < d = w.0 in
      let rest = listed os ++ close_list ∷ f in
      step open_object ((tokens r ++ close_object ∷ listed os) ++ close_list ∷ f) (state InObjects (nest st)) (onward Fields (nest (true ∷ st)))
      (opened true st (omega arith))
      ∙ regroup (tokens r) (close_object ∷ listed os) (close_list ∷ f) (onward Fields (nest (true ∷ st)))
      ∙ reads r (d - 1) w.1 (true ∷ st) (omega arith) (close_object ∷ rest)
      ∙ step close_object rest (state Fields (nest (true ∷ st))) (onward InObjects (nest st)) (after_close (nest (true ∷ st)) ∙ closed_row st)
      ∙ reads-objects os d w.2 st h f

pub response-accepted : {s : List ℕ} {R : Response} → Reading s R → accepts s (Some start) ≡ true
unfolding accepts
response-accepted {s} {R} r =
    ap (λ (x : List ℕ). accepts x (Some start)) (sym (append-nil (tokens R) ∙ r.is)) ∙ reads R most_open r.within [] (omega arith) []
