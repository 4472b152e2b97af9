-- A slice that a call is lent, at its entry and at its exit: how a contract reads what is given and what is left. Assumes nothing.
use Rattle.std.specs.Prelude.{ℕ, List}
use Rattle.std.specs.Borrow.{Bor}
use denote.Triple.Both.{Both}

abbrev pub Slice : Type 0
Slice = Both (Bor (List ℕ)) (Bor (List ℕ))

-- what it holds when the call is made, and what it holds when the call returns
abbrev pub before : Slice → List ℕ
before s = s.entry.now

abbrev pub after : Slice → List ℕ
after s = s.exit.now
