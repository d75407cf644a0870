use Rattle.std.proofs.Common.{drop}
use Rattle.fmp_out.specs.Putting.{Owes}
use Rattle.fmp_run_list.specs.Listing.Listing.{objects_over}
use Rattle.fmp_run_list.proofs.listing.listing.put_kinds.Given as goal

-- the lines of the kinds that are left
abbrev pub invariant-loop-kind : goal.invariant-loop-kind
invariant-loop-kind l = Owes (objects_over l.config (drop l.kind-index l.kinds)) (objects_over l.config l.fn.kinds) l.fn.out l.out
