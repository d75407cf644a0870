use Rattle.std.proofs.Common.{drop}
use Rattle.fmp_out.specs.Putting.{Owes}
use Rattle.fmp_show_state.specs.States.{due_from}
use Rattle.fmp_show_state.proofs.processors.put_due.Given as goal

abbrev pub invariant-loop-index : goal.invariant-loop-index
invariant-loop-index l = Owes (due_from l.names l.index (drop l.index l.due)) (due_from l.names 0 l.due) l.fn.out l.out
