use Rattle.std.proofs.Common.{◌≡◌, ℕ, ◌<◌}
use Rattle.fmp_time.specs.Left.{left_in}
use Rattle.fmp_time.proofs.differences.Differences.has_each_left.Given as goal

abbrev pub invariant-loop-item : goal.invariant-loop-item
invariant-loop-item l = (k : ℕ) → k < l.item → left_in l.self k ≡ left_in l.other k
