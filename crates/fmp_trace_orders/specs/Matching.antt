-- What the machine plays with lists and with numbers.
use Rattle.std.specs.Prelude.{◌≡◌, ℕ, List, is_some}
use Rattle.fmp_setup.specs.Setup.{Setup}
use Rattle.fmp_rules.specs.Arrivals.{numbered}
use Rattle.fmp_kernel_order.specs.Queues.{listed}
use Rattle.fmp_search.specs.Runs.{run}
use Rattle.fmp_trace_orders.specs.Playing.{at_boot, at_booted, plays}

-- lines are right one after the other for the machine with lists exactly where they are for that with numbers
abbrev pub OrdersMatch : Setup → List (List ℕ) → Type 0
OrdersMatch c lines = (order : List ℕ) → is_some (run (plays listed) (at_boot c lines) order) ≡ is_some (run (plays numbered) (at_booted c lines) order)
