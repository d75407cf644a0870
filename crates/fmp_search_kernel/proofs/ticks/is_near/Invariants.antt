use Rattle.std.proofs.Common.{◌≡◌, true}
use Rattle.fmp_search_orders.specs.Orders.{each}
use Rattle.fmp_search_kernel.specs.Walked.{is_beside}
use Rattle.fmp_search_kernel.proofs.ticks.is_near.Given as goal

abbrev pub invariant-loop-at : goal.invariant-loop-at
invariant-loop-at l = each (is_beside l.config l.drift l.taken l.count) l.at ≡ true
