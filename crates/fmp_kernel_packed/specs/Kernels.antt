-- Kernels of one configuration by their numbers.
use Rattle.std.specs.Prelude.{ℕ}
use Rattle.fmp_kernel.specs.Kept.{IsKept}
use Rattle.fmp_kernel_order.specs.Queues.{Queues}
use Rattle.fmp_kernel_packed.specs.Kept.{KeptParts}
use Rattle.fmp_kernel_packed.specs.Packed.{IsPacked}
use Rattle.fmp_kernel_packed.specs.Shaped.{AreShaped}
use Rattle.fmp_rules.specs.World.{World}

-- these are the numbers of a kernel of the configuration of another one
pub record IsKernel (kept : KeptParts) (start w : World Queues) (machine counting : ℕ) : Type 0 where
  pub packed : IsPacked kept w machine counting
  pub shaped : AreShaped start w
  pub safe : IsKept w
