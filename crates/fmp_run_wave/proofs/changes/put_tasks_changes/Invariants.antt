use Rattle.std.proofs.Common.{◌≡◌}
use Rattle.fmp_out.specs.Putting.{Adds}
use Rattle.fmp_codes.specs.Numbers.{as_task}
use Rattle.fmp_run_wave.specs.Changes.{task_told}
use Rattle.fmp_run_wave.specs.Listing.{each}
use Rattle.fmp_run_wave.specs.Shown.{no_task_shown, shown_task}
use Rattle.fmp_run_wave.proofs.Alike.{renewed}
use Rattle.fmp_run_wave.proofs.Counted.{told_at}
use Rattle.fmp_run_wave.proofs.changes.put_tasks_changes.Given as goal

-- the lines so far, and what is shown so far
abbrev pub invariant-loop-index : goal.invariant-loop-index
invariant-loop-index l = record {
  told : Adds (each (told_at (task_told l.names) no_task_shown (λ n. shown_task l.machine (as_task n)) l.fn.shown.items) l.index) l.fn.out l.out;
  shown : l.shown.items ≡ renewed (λ n. shown_task l.machine (as_task n)) l.fn.shown.items l.index;
}
