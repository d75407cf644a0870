use Rattle.fmp_out.specs.Putting.{Adds}
use Rattle.fmp_run_list.specs.Listing.Listing.{objects_to}
use Rattle.fmp_run_list.proofs.listing.listing.put_objects.Given as goal

-- the lines so far
abbrev pub invariant-loop-index : goal.invariant-loop-index
invariant-loop-index l = Adds (objects_to l.config l.kind l.index) l.fn.out l.out
