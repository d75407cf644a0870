use Rattle.std.proofs.Common.{◌≡◌, true}
use Rattle.fmp_search_orders.specs.Orders.{each}
use Rattle.fmp_search_kernel.specs.Walked.{is_out}
use Rattle.fmp_search_kernel.proofs.ticks.is_out_of_time.Given as goal

abbrev pub invariant-loop-at : goal.invariant-loop-at
invariant-loop-at l = each (is_out l.config l.rules l.taken) l.at ≡ true
