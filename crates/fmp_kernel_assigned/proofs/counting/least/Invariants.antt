use Rattle.std.proofs.Common.{◌<◌}
use Rattle.fmp_rules.specs.Due.{IsLeast}
use Rattle.fmp_time.specs.Times.{AreWaits}
use Rattle.fmp_kernel_assigned.specs.Counting.{ticks_below, AreShown}
use Rattle.fmp_kernel_assigned.proofs.counting.least.Given as goal

-- the least of the processors so far
abbrev pub invariant-loop-index : goal.invariant-loop-index
invariant-loop-index l = record {
  least : IsLeast (AreShown (ticks_below l.index) l.timers) l.least;
  waits : 0 < l.index → AreWaits l.timers;
}
