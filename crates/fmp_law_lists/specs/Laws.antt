-- believed: see docs/PROOF.md, "What has to be believed"
-- What a state with lists tells, where it stands for one with numbers.
use Rattle.std.specs.Prelude.{◌≡◌}
use Rattle.fmp_codes.specs.declared.numbers.Proc.{Proc}
use Rattle.fmp_codes.specs.declared.numbers.Task.{Task}
use Rattle.fmp_codes.specs.declared.numbers.Object.{Object}
use Rattle.fmp_codes.specs.declared.numbers.Pri.{Pri}
use Rattle.fmp_rules.specs.declared.machine.QueueKind.{QueueKind}
use Rattle.fmp_rules.specs.World.{World}
use Rattle.fmp_rules.specs.Ordering.{top, queue}
use Rattle.fmp_rules.specs.Arrivals.{State, numbered}
use Rattle.fmp_kernel_order.specs.Queues.{Queues, listed}
use Rattle.fmp_law_lists.specs.Listing.{StandsOnceIf}
use Rattle.fmp_law_lists.specs.Stands.{is_ready_at, is_waiter_of, has_ticks}

-- the lists are the model's lists
pub record TellsAlike (k : World Queues) (m : State) : Type 0 where
  pub top : (p : Proc) → top listed k p ≡ top numbered m p
  pub ready : (p : Proc) (n : Pri) → listed.ready k.order k.tasks p n ≡ numbered.ready m.order m.tasks p n
  pub waiters : (x : QueueKind) (o : Object) → queue listed k x o ≡ queue numbered m x o
  pub timed : listed.timed k.order k.waits_left ≡ numbered.timed m.order m.waits_left

-- a task stands once in each list that its fields name, and in no other
pub record ListsAreRight (k : World Queues) : Type 0 where
  -- in the ready queue of a processor and a priority, where it is ready there with that priority
  pub ready : (p : Proc) (n : Pri) (t : Task) → StandsOnceIf (is_ready_at k.tasks p n t) t (listed.ready k.order k.tasks p n)
  -- in the queue of an object, where it waits for that
  pub waiters : (x : QueueKind) (o : Object) (t : Task) → StandsOnceIf (is_waiter_of k.tasks x o t) t (queue listed k x o)
  -- among the timed waits, where its wait has ticks left
  pub timed : (t : Task) → StandsOnceIf (has_ticks k.waits_left t) t (listed.timed k.order k.waits_left)
