use Rattle.fmp_out.specs.Putting.{Adds}
use Rattle.fmp_show_state.specs.Changes.{cyclic_at, lines_to}
use Rattle.fmp_show_state.proofs.handlers.put_cyclics.Given as goal

-- the lines so far
abbrev pub invariant-loop-index : goal.invariant-loop-index
invariant-loop-index g l =
    let W = g.M.Words in
    Adds (lines_to (cyclic_at l.names (W.world l.machine).cyclics (W.world l.machine).cyclics_left) l.index) l.fn.out l.out
