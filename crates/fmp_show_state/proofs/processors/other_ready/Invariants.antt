use Rattle.std.proofs.Common.{◌≡◌}
use Rattle.fmp_show_state.specs.States.{ready_to}
use Rattle.fmp_show_state.proofs.processors.other_ready.Given as goal

-- those of the priorities so far
abbrev pub invariant-loop-index : goal.invariant-loop-index
invariant-loop-index g l = let W = g.M.Words in l.others.items ≡ ready_to W.ordering (W.world l.machine) l.p l.index
