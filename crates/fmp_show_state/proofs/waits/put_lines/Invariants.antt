use Rattle.fmp_out.specs.Putting.{Adds}
use Rattle.fmp_show_state.specs.Waits.{waits_text}
use Rattle.fmp_show_state.proofs.waits.put_lines.Given as goal

-- the lines so far
abbrev pub invariant-loop-index : goal.invariant-loop-index
invariant-loop-index g l = let W = g.M.Words in Adds (waits_text l.names (W.world l.machine) l.index) l.fn.out l.out
