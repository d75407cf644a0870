use Rattle.std.proofs.Common.{drop}
use Rattle.fmp_out.specs.Putting.{Owes}
use Rattle.fmp_trace_partial.specs.Partial.{kept_each}
use Rattle.fmp_trace_partial.proofs.kept.put_each_release.Given as goal

abbrev pub invariant-loop-index : goal.invariant-loop-index
invariant-loop-index l = Owes (kept_each l.names (drop l.index l.kept) (drop l.index l.releases)) (kept_each l.names l.kept l.releases) l.fn.out l.out
