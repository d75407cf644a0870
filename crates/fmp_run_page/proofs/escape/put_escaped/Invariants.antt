use Rattle.std.proofs.Common.{length}
use Rattle.fmp_out.specs.Putting.{Owes}
use Rattle.fmp_run_page.specs.Escapes.{escaped}
use Rattle.fmp_run_page.proofs.escape.put_escaped.Given as goal

abbrev pub invariant-loop-at : goal.invariant-loop-at
invariant-loop-at l = Owes (escaped l.rest) (escaped l.fn.bytes) l.fn.out l.out

abbrev pub decreases-loop-at : goal.decreases-loop-at
decreases-loop-at l = length l.rest
