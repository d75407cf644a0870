use Rattle.std.proofs.Common.{◌≡◌, true}
use Rattle.fmp_search_orders.specs.Orders.{each}
use Rattle.fmp_search_kernel.specs.Walked.{is_ticked}
use Rattle.fmp_search_kernel.proofs.ticks.all_ticked.Given as goal

abbrev pub invariant-loop-at : goal.invariant-loop-at
invariant-loop-at l = each (is_ticked l.config l.taken) l.at ≡ true
