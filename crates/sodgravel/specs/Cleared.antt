-- What the public calls leave in a work area. Assumes nothing.
use Rattle.std.specs.Prelude.{ℕ, List}
use Rattle.rules.specs.Answer.{zeroed}

-- "every work area holds zeros only"
unfoldable pub cleared : List ℕ → List ℕ
cleared held = zeroed held
