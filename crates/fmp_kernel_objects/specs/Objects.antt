-- All objects for which tasks wait, with their wait queues.
use Rattle.std.specs.Prelude.{◌≡◌, ℤ, List, length}
use Rattle.fmp_codes.specs.declared.numbers.Object.{Object}
use Rattle.fmp_setup.specs.declared.setup.Order.{Order}
use Rattle.fmp_setup.specs.declared.setup.Order.TheVariants as order
use Rattle.fmp_setup.specs.declared.setup.DataQueueSetup.{DataQueueSetup}
use Rattle.fmp_rules.specs.declared.machine.Semaphore.{Semaphore}
use Rattle.fmp_rules.specs.declared.machine.Eventflag.{Eventflag}
use Rattle.fmp_rules.specs.declared.machine.Pool.{Pool}
use Rattle.fmp_rules.specs.declared.machine.Wait.{Wait}
use Rattle.fmp_rules.specs.declared.machine.Wait.TheVariants as wait
use Rattle.fmp_rules.specs.declared.machine.QueueKind.{QueueKind}
use Rattle.fmp_rules.specs.declared.machine.QueueKind.TheVariants as kind
use Rattle.fmp_setup.specs.Setup.{Setup}
use Rattle.fmp_rules.specs.World.{World}
use Rattle.fmp_rules.specs.Ordering.{order_among}
use Rattle.fmp_rules.specs.Boot.{blank}
use Rattle.fmp_kernel_order.specs.Queues.{WaitQueues, Queues, no_queues}

pub record AllObjects : Type 0 where
  pub semaphores : List Semaphore
  pub eventflags : List Eventflag
  pub data_queues : List DataQueueSetup
  pub contents : List (List ℤ)  -- the values of each data queue, the oldest first
  pub pools : List Pool
  pub waits : WaitQueues

-- as many objects of each kind, and the same data queues: the one has the places for what is in the other
pub record AreAlike (a b : AllObjects) : Type 0 where
  pub semaphores : length a.semaphores ≡ length b.semaphores
  pub eventflags : length a.eventflags ≡ length b.eventflags
  pub data_queues : a.data_queues ≡ b.data_queues
  pub pools : length a.pools ≡ length b.pools

-- those of a state
abbrev pub objects_of : World Queues → AllObjects
objects_of w = record {
  semaphores = w.semaphores;
  eventflags = w.eventflags;
  data_queues = w.data_queues;
  contents = w.contents;
  pools = w.pools;
  waits = w.order.waits;
}

-- those of a configuration, as it says, and nobody waits
abbrev pub blank_objects : Setup → AllObjects
blank_objects c = objects_of (blank (no_queues c) c)

-- the order of a queue
abbrev pub order_in : AllObjects → QueueKind → Object → Order
order_in a = order_among a.semaphores a.eventflags a.data_queues a.pools

-- the order of the queue in which a wait stands
abbrev pub order_for : AllObjects → Wait → Order
order_for a wait.Sleep = order.First
order_for a wait.Delay = order.First
order_for a (wait.Semaphore s) = order_in a kind.Semaphore s
order_for a (wait.Eventflag f pattern mode) = order_in a kind.Eventflag f
order_for a (wait.Send d value) = order_in a kind.Send d
order_for a (wait.Receive d) = order_in a kind.Receive d
order_for a (wait.Pool m) = order_in a kind.Pool m
