use Rattle.std.proofs.Common.{ℕ, ◌<◌, slice_index_or}
use Rattle.fmp_world.specs.Findings.{IsPassed}
use Rattle.fmp_world.specs.Views.{Seat}
use Rattle.fmp_world.proofs.findings.Findings.all_passed.Given as goal

abbrev pub invariant-loop-at : goal.invariant-loop-at
invariant-loop-at l = (k : ℕ) (d : Seat) → k < l.at → IsPassed l.self.passed k (slice_index_or l.cpus k d)
