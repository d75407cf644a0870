use Rattle.std.proofs.Common.{◌≡◌, ℕ, ◌<◌, ◌+◌, true}
use Rattle.fmp_codes.specs.Numbers.{as_proc}
use Rattle.fmp_smp_histories.specs.Histories.{state_after, is_idle}
use Rattle.fmp_world.proofs.history.History.quiet.Given as goal

abbrev pub invariant-loop-at : goal.invariant-loop-at
invariant-loop-at l = (i : ℕ) → i < l.at → is_idle (state_after l.self.config l.self.records) (as_proc (i + 1)) ≡ true
