-- What is struck out leaves the rest as it is. Assumes nothing.
use mathlib.Core.Path.{◌≡◌, refl, ◌∙◌}
use mathlib.Core.Bool.{true}
use mathlib.Core.List.{List, [], ◌∷◌, ◌++◌}
use Prim.Native.Nat.{ℕ, suc, ◌-◌}
use Rattle.rules.specs.Eval.{label, open_object, close_object, open_list, close_list, null as nullToken}
use Rattle.rules.proofs.Sound.{Small}
use Rattle.tokens.specs.Response.{Response, done, field, Content, value, null, values, object, objects, Objects, none, one, tokens, contents, listed, Within, WithinContent, WithinObjects}
use Rattle.shorten.specs.Pass.{side_of, hits, settled}
use Rattle.shorten.specs.declared.Side.{Side}
use Rattle.shorten.specs.declared.Mode.TheVariants.{Striking}
use Rattle.shorten.specs.declared.Side.TheVariants.{Plain, Named, Opener, Closer}
use Rattle.shorten.proofs.Sides.{side_value, side_label, side_open, side_close, side_begin, side_end, side_null}
use Rattle.shorten.proofs.Way.{way, turned, pass, step, regroup}

-- one token of what is struck out
pub gone : (x : ℕ) (f : List ℕ) (k : ℕ) (s : List ℕ) (st : List (List ℕ)) (d : Side) → side_of x ≡ d
    → pass (x ∷ f) (way (Striking k) s st) ≡ pass f (turned d true (Striking k) s st)
gone x f k s st d p = step x f (Striking k) s st d (hits x s) p refl

strike-values : (vs : List ℕ) → Small vs → (k : ℕ) (f s : List ℕ) (st : List (List ℕ))
    → pass (vs ++ f) (way (Striking (suc k)) s st) ≡ pass f (way (Striking (suc k)) s st)
strike-values [] w k f s st = refl
strike-values (v ∷ vs) w k f s st = gone v (vs ++ f) (suc k) s st Plain (side_value v w.0) ∙ strike-values vs w.1 k f s st

mutual
  unfolding tokens Within

  pub strike : (R : Response) (d : ℕ) → Within R d → (k : ℕ) (f s : List ℕ) (st : List (List ℕ))
      → pass (tokens R ++ f) (way (Striking (suc k)) s st) ≡ pass f (way (Striking (suc k)) s st)
  strike done d w k f s st = refl
  strike (field l c r) d w k f s st =
      gone (label l) ((contents c ++ tokens r) ++ f) (suc k) s st Named (side_label l w.0)
      ∙ regroup (contents c) (tokens r) f _
      ∙ strike_content c d w.1 (suc k) (tokens r ++ f) s st
      ∙ strike r d w.2 k f s st

  pub strike_content : (c : Content) (d : ℕ) → WithinContent c d → (k : ℕ) (f s : List ℕ) (st : List (List ℕ))
      → pass (contents c ++ f) (way (Striking k) s st) ≡ pass f (way (settled k) s st)
  strike_content (value v) d w k f s st = gone v f k s st Plain (side_value v w)
  strike_content null d w k f s st = gone nullToken f k s st Plain side_null
  strike_content (values vs) d w k f s st =
      gone open_list ((vs ++ close_list ∷ []) ++ f) k s st Opener side_begin
      ∙ regroup vs (close_list ∷ []) f _
      ∙ strike-values vs w k (close_list ∷ f) s st
      ∙ gone close_list f (suc k) s st Closer side_end
  strike_content (object r) d w k f s st =
      gone open_object ((tokens r ++ close_object ∷ []) ++ f) k s st Opener side_open
      ∙ regroup (tokens r) (close_object ∷ []) f _
      ∙ strike r (d - 1) w.1 k (close_object ∷ f) s st
      ∙ gone close_object f (suc k) s st Closer side_close
  strike_content (objects os) d w k f s st =
      gone open_list ((listed os ++ close_list ∷ []) ++ f) k s st Opener side_begin
      ∙ regroup (listed os) (close_list ∷ []) f _
      ∙ strike-objects os d w k (close_list ∷ f) s st
      ∙ gone close_list f (suc k) s st Closer side_end

  pub strike-objects : (os : Objects) (d : ℕ) → WithinObjects os d → (k : ℕ) (f s : List ℕ) (st : List (List ℕ))
      → pass (listed os ++ f) (way (Striking (suc k)) s st) ≡ pass f (way (Striking (suc k)) s st)
  strike-objects none d w k f s st = refl
  strike-objects (one r os) d w k f s st =
      gone open_object ((tokens r ++ close_object ∷ listed os) ++ f) (suc k) s st Opener side_open
      ∙ regroup (tokens r) (close_object ∷ listed os) f _
      ∙ strike r (d - 1) w.1 (suc k) (close_object ∷ (listed os ++ f)) s st
      ∙ gone close_object (listed os ++ f) (suc (suc k)) s st Closer side_close
      ∙ strike-objects os d w.2 k f s st
