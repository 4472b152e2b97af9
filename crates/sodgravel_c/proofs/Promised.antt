-- The contract of `sodgravel_judge`, as the prover reads it: it is that of `shorten::judge`. Assumes nothing.
use contract.Lifetimes.{Lfts}
use borrow.Fn.World.{ArgsD, ResD}
use borrow.Fn.Kinds.{ended_of}
use denote.Triple.Clauses.{AtExit}
use Rattle.shorten.specs.Judge.{Judged}
use Rattle.sodgravel_c.specs.contracts.sodgravel_judge as judge-of
use Rattle.sodgravel_c.proofs.sodgravel_judge.Kinds as judge-kinds
use Rattle.sodgravel_c.proofs.sodgravel_judge.Reads as judge

module _
    (κs : Lfts 2)
    (x : ArgsD judge-of.signature κs)
    (r : ResD judge-of.signature κs)
    (y : AtExit (ended_of 2 judge-kinds.ps judge-kinds.r) κs)
  where
    pub judge_asks_nothing : judge.Pre κs x
    judge_asks_nothing = tt

    pub judge_ensures : judge.Post κs x r y → Judged x.0.now x.1.0.now r
    judge_ensures h = h
