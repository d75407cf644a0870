use Rattle.std.proofs.Common.{◌≡◌, ◌+◌, length}
use Rattle.fmp_rules.specs.Arrivals.{numbered}
use Rattle.fmp_rules.specs.Step.{replay}
use Rattle.fmp_run_partial.proofs.playing.play.Given as goal

abbrev pub invariant-loop-event : goal.invariant-loop-event
invariant-loop-event l = record {
  state : replay numbered l.plain.state l.rest ≡ replay numbered l.fn.plain.state l.events;
  steps : l.plain.steps + length l.rest ≡ l.fn.plain.steps + length l.events;
}

abbrev pub decreases-loop-event : goal.decreases-loop-event
decreases-loop-event l = length l.rest
