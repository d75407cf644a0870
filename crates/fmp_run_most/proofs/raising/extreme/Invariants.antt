use Rattle.fmp_run_most.specs.Raised.{IsExtremeOf}
use Rattle.fmp_run_most.proofs.raising.extreme.Given as goal

-- the farthest so far
abbrev pub invariant-loop-number : goal.invariant-loop-number
invariant-loop-number l = IsExtremeOf l.measure l.bound l.marks l.at l.number l.extreme
