use Rattle.fmp_out.specs.Putting.{Adds}
use Rattle.fmp_run_wave.specs.Listing.{each, processor_scope}
use Rattle.fmp_run_wave.proofs.listing.put_processor_scopes.Given as goal

-- the lines so far
abbrev pub invariant-loop-index : goal.invariant-loop-index
invariant-loop-index l = Adds (each (processor_scope l.form l.names) l.index) l.fn.out l.out
