-- Kernels of one configuration.
use Rattle.std.specs.Prelude.{◌≡◌, length}
use Rattle.fmp_kernel_machine.specs.Alike.{AreAlike}
use Rattle.fmp_kernel_order.specs.Queues.{Queues}
use Rattle.fmp_rules.specs.World.{World}

-- as many of each kind, and the same of what no event changes, as all states of one configuration have
pub record AreShaped (v w : World Queues) : Type 0 where
  pub timer : v.timer ≡ w.timer
  pub limits : v.limits ≡ w.limits
  pub tasks : length v.tasks ≡ length w.tasks
  pub cyclics : length v.cyclics ≡ length w.cyclics
  pub alarms : length v.alarms ≡ length w.alarms
  pub alike : AreAlike v w
