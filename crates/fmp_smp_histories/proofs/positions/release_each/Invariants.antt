use Rattle.std.proofs.Common.{◌≡◌, drop}
use Rattle.fmp_smp_histories.specs.Places.{released_tasks}
use Rattle.fmp_smp_histories.proofs.positions.release_each.Given as goal

abbrev pub invariant-loop-at : goal.invariant-loop-at
invariant-loop-at l = released_tasks l.config l.scripts l.initial.positions l.made.releases ≡ released_tasks l.config l.scripts l.positions (drop l.at l.made.releases)
