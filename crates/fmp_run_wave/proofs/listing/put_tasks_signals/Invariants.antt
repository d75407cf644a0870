use Rattle.fmp_out.specs.Putting.{Adds}
use Rattle.fmp_run_wave.specs.Listing.{each, task_signals}
use Rattle.fmp_run_wave.proofs.listing.put_tasks_signals.Given as goal

-- the lines so far
abbrev pub invariant-loop-index : goal.invariant-loop-index
invariant-loop-index l = Adds (each (task_signals l.form l.names) l.index) l.fn.out l.out
