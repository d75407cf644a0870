use Rattle.fmp_out.specs.Putting.{Adds}
use Rattle.fmp_run_wave.specs.Listing.{each, line}
use Rattle.fmp_run_wave.proofs.listing.put_lines.Given as goal

-- the lines so far
abbrev pub invariant-loop-index : goal.invariant-loop-index
invariant-loop-index l = Adds (each (line l.form l.names l.signal) l.index) l.fn.out l.out
