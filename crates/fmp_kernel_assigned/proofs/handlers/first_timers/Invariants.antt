use Rattle.std.proofs.Common.{◌≡◌, ℕ, ◌<◌, None, [], get_or, length}
use Rattle.fmp_kernel_assigned.specs.Starting.{started_at}
use Rattle.fmp_kernel_assigned.proofs.handlers.first_timers.Given as goal

-- those so far are started
abbrev pub invariant-loop-index : goal.invariant-loop-index
invariant-loop-index l = record {
  left : (k : ℕ) → k < 128 → get_or l.timers.left k None ≡ started_at l.cyclics l.index k;
  all : length l.timers.left ≡ 128;
  waits : l.timers.waits ≡ [];
}
