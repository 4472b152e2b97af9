-- What remains of a query for the functions that call each other. 01, of "Evaluating an entry calls evaluating a selection, which calls
-- evaluating an entry": "remaining depth and entries fall at each call". Assumes nothing.
use Rattle.std.specs.Prelude.{ℕ, ◌+◌, ◌-◌, List}
use Rattle.tables.specs.Read.{cell}

-- the remaining entries: those from entry k on
unfoldable pub entries_left : List ℕ → ℕ → ℕ
entries_left q k = cell q 0 - k

-- the remaining depth: the depths from d on, an entry's depth being at most 15
unfoldable pub depth_left : ℕ → ℕ
depth_left d = 16 - d

-- both together, for the entries at depth d from entry k on
unfoldable pub remaining : List ℕ → ℕ → ℕ → ℕ
remaining q k d = entries_left q k + depth_left d
