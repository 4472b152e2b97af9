-- `tokens::is_response` meets its contract: what is left is accepted from where the check stands as the whole is from its beginning. Assumes nothing.
use mathlib.Core.Path.{◌≡◌}
use Prim.Native.Nat.{◌≤◌}
use lib.ListN.{length, drop}
use Rattle.std.specs.Prelude.{Some}
use Rattle.tokens.specs.Response.{most_tokens}
use Rattle.tokens.specs.Check.{start, accepts}
use Rattle.tokens.proofs.is_response.Given as goal

abbrev pub invariant-loop-token : goal.invariant-loop-token
invariant-loop-token l =
    (l.token-index ≤ length l.s) × (length l.s ≤ most_tokens) × (accepts (drop l.token-index l.s) (Some l.state) ≡ accepts l.s (Some start))
