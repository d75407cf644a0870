use Rattle.std.proofs.Common.{◌≡◌, drop}
use Rattle.fmp_run_most.specs.Gauged.{first_beyond}
use Rattle.fmp_run_most.proofs.gauge.number_beyond.Given as goal

-- it is one of those that are left
abbrev pub invariant-loop-at : goal.invariant-loop-at
invariant-loop-at g l = let W = g.M.Words in
    let w = W.world l.machine in first_beyond w (drop l.at l.figures) l.bounds l.at ≡ first_beyond w l.figures l.bounds 0
