use Rattle.std.proofs.Common.{drop}
use Rattle.fmp_out.specs.Putting.{Owes, nothing}
use Rattle.fmp_run_shrink.specs.Written.Telling.{event_lines}
use Rattle.fmp_run_shrink.proofs.written.events.events_text.Given as goal

-- the lines so far, and those of the events that are left
abbrev pub invariant-loop-event : goal.invariant-loop-event
invariant-loop-event l = record { so_far : Owes (event_lines l.names (drop l.event-index l.events)) (event_lines l.names l.events) nothing l.out }
