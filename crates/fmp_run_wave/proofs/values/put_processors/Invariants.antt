use Rattle.fmp_out.specs.Putting.{Adds}
use Rattle.fmp_run_wave.specs.Listing.{each}
use Rattle.fmp_run_wave.specs.Values.{processor_lines}
use Rattle.fmp_run_wave.proofs.values.put_processors.Given as goal

-- the lines so far
abbrev pub invariant-loop-index : goal.invariant-loop-index
invariant-loop-index l = Adds (each (processor_lines l.names l.shown) l.index) l.fn.out l.out
