-- Which call a case makes, by the number that it begins with. Assumes nothing.
use Rattle.std.specs.Prelude.{ℕ, cond, eqb}
use Rattle.cases.specs.declared.Wanted.TheVariants.{Size, Answer}
use Rattle.cases.specs.declared.Call.{Call}
use Rattle.cases.specs.declared.Call.TheVariants.{OnTexts, Judge}

abbrev pub call_of : ℕ → Call
call_of n = cond (eqb n 0) (OnTexts Size) (cond (eqb n 2) Judge (OnTexts Answer))
