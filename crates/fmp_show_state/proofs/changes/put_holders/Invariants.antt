use Rattle.fmp_out.specs.Putting.{Adds}
use Rattle.fmp_show_state.specs.Changes.{holder_at, lines_to}
use Rattle.fmp_show_state.proofs.changes.put_holders.Given as goal

-- the lines so far
abbrev pub invariant-loop-index : goal.invariant-loop-index
invariant-loop-index g l = let W = g.M.Words in Adds (lines_to (holder_at l.names (W.world l.machine).holders) l.index) l.fn.out l.out
