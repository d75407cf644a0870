use Rattle.std.proofs.Common.{◌≡◌, true}
use Rattle.fmp_search_orders.specs.Orders.{each}
use Rattle.fmp_search_kernel.specs.Walked.{is_idle_on}
use Rattle.fmp_search_kernel.proofs.sights.are_idle.Given as goal

abbrev pub invariant-loop-at : goal.invariant-loop-at
invariant-loop-at l = each (is_idle_on l.kernel) l.at ≡ true
