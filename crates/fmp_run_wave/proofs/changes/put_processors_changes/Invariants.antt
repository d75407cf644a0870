use Rattle.std.proofs.Common.{◌≡◌}
use Rattle.fmp_out.specs.Putting.{Adds}
use Rattle.fmp_codes.specs.Numbers.{as_proc}
use Rattle.fmp_run_wave.specs.Changes.{processor_told}
use Rattle.fmp_run_wave.specs.Listing.{each}
use Rattle.fmp_run_wave.specs.Shown.{nothing_shown, shown_processor}
use Rattle.fmp_run_wave.proofs.Alike.{renewed}
use Rattle.fmp_run_wave.proofs.Counted.{told_at}
use Rattle.fmp_run_wave.proofs.changes.put_processors_changes.Given as goal

-- the lines so far, and what is shown so far
abbrev pub invariant-loop-index : goal.invariant-loop-index
invariant-loop-index l = record {
  told : Adds (each (told_at (processor_told l.names) nothing_shown (λ n. shown_processor l.machine (as_proc n)) l.fn.shown.items) l.index) l.fn.out l.out;
  shown : l.shown.items ≡ renewed (λ n. shown_processor l.machine (as_proc n)) l.fn.shown.items l.index;
}
