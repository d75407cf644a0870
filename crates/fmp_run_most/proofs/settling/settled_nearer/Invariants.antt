use Rattle.std.proofs.Common.{◌-◌}
use Rattle.fmp_run_most.proofs.Nearest.{Gone}
use Rattle.fmp_run_most.proofs.settling.settled_nearer.Given as goal

-- what is known is known of some orders, and of all those of so many lines, if there is a line
abbrev pub invariant-loop-lines : goal.invariant-loop-lines
invariant-loop-lines g l = Gone l.sizing.config.now l.sizing.scripts.now l.sizing.rules l.fn.within.turns.count l.sizing.figures.now l.best.items l.lines l.reach

abbrev pub decreases-loop-lines : goal.decreases-loop-lines
decreases-loop-lines g l = l.fn.within.turns.count - l.lines
