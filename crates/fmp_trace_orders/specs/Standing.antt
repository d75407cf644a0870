-- What contracts see of a kernel that plays lines.
use Rattle.std.specs.Prelude.{ℕ}
use Rattle.fmp_codes.specs.declared.records.Record.{Record}
use Rattle.fmp_kernel_order.specs.Queues.{Queues}
use Rattle.fmp_trace_orders.specs.Playing.{Playing, at_boot}

-- a kernel that plays lines
pub record Standing : Type 0 where
  pub state : Playing Queues  -- the machine, and the lines
  pub left : ℕ  -- for how many lines more there is room
  pub made : Record  -- what the last event was told to have done

-- where all begins
abbrev pub begun : Playing Queues → Playing Queues
begun w = at_boot w.config w.lines
