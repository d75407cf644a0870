-- Keys of a machine that plays lines.
use Rattle.std.specs.Prelude.{◌≡◌, ℕ, ◌/◌, ◌%◌, ◌^◌}
use Rattle.fmp_kernel_order.specs.Queues.{Queues}
use Rattle.fmp_kernel_packed.specs.Kept.{KeptParts}
use Rattle.fmp_kernel_packed.specs.Kernels.{IsKernel}
use Rattle.fmp_trace_orders.specs.Playing.{Playing}
use Rattle.fmp_trace_orders.specs.Standing.{begun}

-- a number is the key of a machine that began as another one, with the same configuration and the same lines: its halves are the two numbers of the kernel
pub record IsPlayingKey (kept : KeptParts) (o : Playing Queues) (key : ℕ) (w : Playing Queues) : Type 0 where
  pub begins : begun w ≡ begun o
  pub kernel : IsKernel kept (begun o).machine w.machine (key / 2 ^ 32) (key % 2 ^ 32)
