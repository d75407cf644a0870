use Rattle.std.proofs.Common.{◌≡◌, map}
use Rattle.fmp_kernel_assigned.specs.Counting.{less_below}
use Rattle.fmp_kernel_assigned.proofs.counting.lower_all.Given as goal

-- the processors so far have one tick less
abbrev pub invariant-loop-index : goal.invariant-loop-index
invariant-loop-index l = record {
  left : l.timers.left ≡ map (less_below l.index) l.initial.timers.left;
  waits : l.timers.waits ≡ l.initial.timers.waits;
}
