use Rattle.std.proofs.Common.{◌≡◌, take}
use Rattle.fmp_setup.specs.Setup.{counts_for}
use Rattle.fmp_rules.specs.Tick.{lowered}
use Rattle.fmp_plain_machine.proofs.counts.lower.Given as goal

abbrev pub invariant-loop-index : goal.invariant-loop-index
invariant-loop-index g l =
    l.counts ≡ lowered (λ x. counts_for l.timer l.p (g.T.Assigned.assigned x)) (take l.index l.items) l.fn.counts
