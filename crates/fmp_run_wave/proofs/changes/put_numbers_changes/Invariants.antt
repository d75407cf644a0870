use Rattle.std.proofs.Common.{◌≡◌}
use Rattle.fmp_out.specs.Putting.{Adds}
use Rattle.fmp_codes.specs.Numbers.{as_object}
use Rattle.fmp_run_wave.specs.Changes.{number_told}
use Rattle.fmp_run_wave.specs.Listing.{each}
use Rattle.fmp_run_wave.specs.Resources.{number_in}
use Rattle.fmp_run_wave.proofs.Alike.{renewed}
use Rattle.fmp_run_wave.proofs.Counted.{told_at}
use Rattle.fmp_run_wave.proofs.changes.put_numbers_changes.Given as goal

-- the lines so far, and what is shown so far
abbrev pub invariant-loop-index : goal.invariant-loop-index
invariant-loop-index l = record {
  told : Adds (each (told_at (number_told l.resource) 0 (λ n. number_in l.machine l.resource (as_object n)) l.fn.numbers.items) l.index) l.fn.out l.out;
  shown : l.numbers.items ≡ renewed (λ n. number_in l.machine l.resource (as_object n)) l.fn.numbers.items l.index;
}
