use Rattle.fmp_out.specs.Putting.{Adds}
use Rattle.fmp_run_wave.specs.Listing.{each}
use Rattle.fmp_run_wave.specs.Values.{task_lines}
use Rattle.fmp_run_wave.proofs.values.put_tasks.Given as goal

-- the lines so far
abbrev pub invariant-loop-index : goal.invariant-loop-index
invariant-loop-index l = Adds (each (task_lines l.names l.shown) l.index) l.fn.out l.out
