use Rattle.fmp_out.specs.Putting.{Adds}
use Rattle.fmp_run_wave.specs.Listing.{each}
use Rattle.fmp_run_wave.specs.Values.{number_line}
use Rattle.fmp_run_wave.proofs.values.put_numbers.Given as goal

-- the lines so far
abbrev pub invariant-loop-index : goal.invariant-loop-index
invariant-loop-index l = Adds (each (number_line l.shown l.resource) l.index) l.fn.out l.out
