-- Striking out by recursion on the full response; `Closure` shows that it says the same as the definition. Assumes nothing.
use mathlib.Core.Path.{◌≡◌}
use mathlib.Core.Logic.{◌⊎◌}
use Prim.Native.Nat.{ℕ}
use native.Mathlib.Omega.{arith}
use Rattle.tokens.specs.Response.{Response, done, field, Content, value, null, values, object, objects, Objects, none, one}

-- Of no fields nothing is made but no fields. Otherwise the first field is struck out, or it is kept: the label stays, and its content is
-- kept or shortened.
unfoldable mutual
  pub Shorter : Response → Response → Type 0
  Shorter done s = s ≡ done
  Shorter (field l c r) s =
      Shorter r s ⊎ (record { content : Content; rest : Response; is : s ≡ field l content rest; kept : Keeps c content; then : Shorter r rest })

  pub Keeps : Content → Content → Type 0
  Keeps (value v) d = d ≡ value v
  Keeps null d = d ≡ null
  Keeps (values vs) d = d ≡ values vs
  Keeps (object r) d = record { inside : Response; is : d ≡ object inside; shorter : Shorter r inside }
  Keeps (objects os) d = record { inside : Objects; is : d ≡ objects inside; among : Among os inside }

  pub Among : Objects → Objects → Type 0
  Among none ps = ps ≡ none
  Among (one r os) ps =
      Among os ps ⊎ (record { object : Response; rest : Objects; is : ps ≡ one object rest; shorter : Shorter r object; then : Among os rest })

-- Two things that are built otherwise are not the same: `cc` then has 0 and 1 equal.
pub differ : {A : Type 0} → ◌≡◌ {A = ℕ} 0 1 → A
differ e = absurd (omega arith)
