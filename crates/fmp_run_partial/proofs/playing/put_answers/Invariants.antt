use Rattle.std.proofs.Common.{◌≡◌, ◌+◌, length}
use Rattle.fmp_out.specs.Putting.{Owes}
use Rattle.fmp_rules.specs.Arrivals.{numbered}
use Rattle.fmp_rules.specs.Step.{answers, replay}
use Rattle.fmp_trace.specs.Lines.{lines_from}
use Rattle.fmp_run_partial.proofs.playing.put_answers.Given as goal

abbrev pub invariant-loop-event : goal.invariant-loop-event
invariant-loop-event l = record {
  made : Owes (lines_from l.names (l.number + 1) (answers numbered l.plain.state l.rest))
      (lines_from l.names 1 (answers numbered l.fn.plain.state l.events)) l.fn.out l.out;
  state : replay numbered l.plain.state l.rest ≡ replay numbered l.fn.plain.state l.events;
  steps : l.plain.steps + length l.rest ≡ l.fn.plain.steps + length l.events;
  count : l.number + length l.rest ≡ length l.events;
}

abbrev pub decreases-loop-event : goal.decreases-loop-event
decreases-loop-event l = length l.rest
