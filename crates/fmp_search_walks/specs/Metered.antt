-- Places of all orders with the number that each state has.
use Rattle.std.specs.Prelude.{ℕ, Option, None, Some, option_map}
use Rattle.fmp_rules.specs.World.{World}
use Rattle.fmp_kernel_order.specs.Queues.{Queues}
use Rattle.fmp_search_orders.specs.Places.{Place, after}

pub record Metered : Type 0 where
  pub place : Place
  pub number : World Queues → ℕ  -- that of a state

abbrev pub metered : (World Queues → ℕ) → Place → Metered
metered number w = record { place = w; number = number }

abbrev pub metered_after : Metered → ℕ → Option Metered
metered_after w s = option_map (metered w.number) (after w.place s)

-- the number of the state to which a step leads, if it can be made
abbrev pub passed : (World Queues → ℕ) → Option Place → ℕ
passed number None = 0
passed number (Some r) = number r.machine

abbrev pub metered_number : Metered → ℕ → ℕ
metered_number w s = passed w.number (after w.place s)
