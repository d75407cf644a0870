use Rattle.std.proofs.Common.{◌+◌, drop}
use Rattle.fmp_out.specs.Putting.{Owes}
use Rattle.fmp_run_list.specs.Listing.Classes.{members_from}
use Rattle.fmp_run_list.proofs.listing.classes.put_members.Given as goal

-- the members that are left
abbrev pub invariant-loop-index : goal.invariant-loop-index
invariant-loop-index l = Owes (members_from (l.index + 1) (drop l.index l.members)) (members_from 1 l.members) l.fn.out l.out
