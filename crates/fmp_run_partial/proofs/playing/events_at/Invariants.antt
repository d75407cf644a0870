use Rattle.std.proofs.Common.{◌≡◌, ◌++◌, length}
use Rattle.fmp_run_partial.specs.Playing.{events_at}
use Rattle.fmp_run_partial.proofs.playing.events_at.Given as goal

abbrev pub invariant-loop-line : goal.invariant-loop-line
invariant-loop-line l = l.all.items ++ events_at l.events l.rest ≡ events_at l.events l.order

abbrev pub decreases-loop-line : goal.decreases-loop-line
decreases-loop-line l = length l.rest
