-- When a machine has the places for what is in another one.
use Rattle.std.specs.Prelude.{◌≡◌, length}
use Rattle.fmp_rules.specs.World.{World}
use Rattle.fmp_kernel_order.specs.Queues.{Queues}
use Rattle.fmp_kernel_objects.specs.Objects as objects
use Rattle.fmp_kernel_objects.specs.Objects.{objects_of}

-- as many processors and objects of each kind, and the same data queues, as all states of one configuration have
pub record AreAlike (v w : World Queues) : Type 0 where
  pub processors : length v.processors ≡ length w.processors
  pub objects : objects.AreAlike (objects_of v) (objects_of w)
