use Rattle.fmp_out.specs.Putting.{Adds}
use Rattle.fmp_show_state.specs.Changes.{alarm_at, lines_to}
use Rattle.fmp_show_state.proofs.handlers.put_alarms.Given as goal

-- the lines so far
abbrev pub invariant-loop-index : goal.invariant-loop-index
invariant-loop-index g l = let W = g.M.Words in Adds (lines_to (alarm_at l.names (W.world l.machine).alarms_left) l.index) l.fn.out l.out
