use Rattle.std.proofs.Common.{drop}
use Rattle.fmp_out.specs.Putting.{Owes}
use Rattle.fmp_show_state.specs.States.{ready_from}
use Rattle.fmp_show_state.proofs.processors.put_ready.Given as goal

abbrev pub invariant-loop-index : goal.invariant-loop-index
invariant-loop-index l = Owes (ready_from l.names l.index (drop l.index l.tasks)) (ready_from l.names 0 l.tasks) l.fn.out l.out
