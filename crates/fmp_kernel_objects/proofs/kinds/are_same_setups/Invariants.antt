use Rattle.std.proofs.Common.{◌≡◌, ℕ, ◌<◌, slice_index_or}
use Rattle.fmp_dtq.specs.DataQueue.{DataQueue}
use Rattle.fmp_kernel_objects.proofs.kinds.are_same_setups.Given as goal

abbrev pub invariant-loop-at : goal.invariant-loop-at
invariant-loop-at l = (k : ℕ) (d e : DataQueue) → k < l.at → (slice_index_or l.queues k d).setup ≡ (slice_index_or l.others k e).setup
