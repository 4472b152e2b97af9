-- The text that the programs write of what a call returned. Assumes nothing.
use Rattle.std.specs.Prelude.{ℕ, List, ◌++◌, codes}
use Rattle.std.specs.Fmt.{decimal}
use Rattle.rules.specs.declared.Outcome.{Outcome}

-- a further field of a line
abbrev pub field : ℕ → List ℕ
field n = codes "\t" ++ decimal n

-- number, place, size and visits
abbrev pub fields_text : Outcome → List ℕ
fields_text o = decimal o.number ++ (field o.place ++ (field o.size ++ field o.visits))
