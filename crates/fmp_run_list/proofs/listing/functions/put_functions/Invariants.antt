use Rattle.std.proofs.Common.{◌≤◌, ◌+◌, ◌-◌, drop, length}
use Rattle.fmp_out.specs.Putting.{Owes}
use Rattle.fmp_run_list.specs.Listing.Functions.{functions_from}
use Rattle.fmp_run_list.proofs.listing.functions.put_functions.Given as goal

-- the lines of the functions that are left
abbrev pub invariant-loop-name : goal.invariant-loop-name
invariant-loop-name l = record {
  least : 1 ≤ l.number;
  most : l.number ≤ length l.config.names.functions + 1;
  made : Owes (functions_from l.number (drop (l.number - 1) l.config.names.functions)) (functions_from 1 l.config.names.functions) l.fn.out l.out;
}

abbrev pub decreases-loop-name : goal.decreases-loop-name
decreases-loop-name l = (length l.config.names.functions + 1) - l.number
