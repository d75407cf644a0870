use Rattle.std.proofs.Common.{drop}
use Rattle.fmp_out.specs.Putting.{Owes}
use Rattle.fmp_rules.specs.Objects.{values}
use Rattle.fmp_show_state.specs.Changes.{values_from}
use Rattle.fmp_show_state.proofs.changes.put_values.Given as goal

-- what is written, and what is to come
abbrev pub invariant-loop-index : goal.invariant-loop-index
invariant-loop-index g l =
    let W = g.M.Words in
    Owes (values_from l.index (drop l.index (values (W.world l.machine) l.d))) (values_from 0 (values (W.world l.machine) l.d)) l.fn.out l.out
