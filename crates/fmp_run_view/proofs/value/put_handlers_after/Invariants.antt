use Rattle.std.proofs.Common.{drop}
use Rattle.fmp_out.specs.Putting.{Owes}
use Rattle.fmp_run_view.specs.Values.{handlers_after}
use Rattle.fmp_run_view.proofs.value.put_handlers_after.Given as goal

-- the handlers so far, and those that are left
abbrev pub invariant-loop-handler : goal.invariant-loop-handler
invariant-loop-handler l = Owes (handlers_after (drop l.handler-index l.handlers)) (handlers_after l.fn.handlers) l.fn.out l.out
