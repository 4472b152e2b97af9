-- The entries that a query area holds, as rows. Assumes nothing.
use Rattle.std.specs.Prelude.{ℕ, zero, suc, ◌-◌, ◌≤◌, ◌<◌, List, [], ◌∷◌, map, length}
use Rattle.rules.specs.Lists.{count_up}
use Rattle.rules.specs.Text.{Row}
use Rattle.tables.specs.Read.{cell, wide_at, numbers_at}

-- A query area that can be read: long enough, at most 256 entries, depths to 15, no more than four pairs.
pub record QueryHeld (q : List ℕ) : Type 0 where
  pub long : 3592 ≤ length q
  pub entries : cell q 0 ≤ 256
  pub depths : (k : ℕ) → k < cell q 0 → wide_at q 8 k 2 ≤ 15
  pub pairs : (k : ℕ) → k < cell q 0 → wide_at q 8 k 5 ≤ 4

-- entry k: its letter and its first twelve numbers
unfoldable pub entry_at : List ℕ → ℕ → Row
entry_at q k = record { letter = wide_at q 8 k 0; numbers = numbers_at q 8 k }

-- the n entries from k on; all of them; those behind entry k; those before it, the latest first
unfoldable pub entries_from : List ℕ → ℕ → ℕ → List Row
entries_from q k n = map (entry_at q) (count_up k n)

unfoldable pub entries_at : List ℕ → List Row
entries_at q = entries_from q 0 (cell q 0)

unfoldable pub behind : List ℕ → ℕ → List Row
behind q k = entries_from q (suc k) (cell q 0 - suc k)

unfoldable pub before : List ℕ → ℕ → List Row
before q zero = []
before q (suc k) = entry_at q k ∷ before q k
