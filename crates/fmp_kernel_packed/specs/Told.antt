-- The numbers that tell a kernel.
use Rattle.std.specs.Prelude.{◌≡◌, ℕ, ◌+◌, List, ◌++◌, length}
use Rattle.fmp_kernel_assigned.specs.Telling.{times_in}
use Rattle.fmp_kernel_machine.specs.Parts.{assignments_in}
use Rattle.fmp_kernel_objects.specs.Objects.{objects_of}
use Rattle.fmp_kernel_order.specs.Queues.{Queues}
use Rattle.fmp_kernel_packed.specs.Kept.{KeptParts}
use Rattle.fmp_kernel_packed.specs.Packed.{AreHandled, AreObjects, IsRest}
use Rattle.fmp_rules.specs.World.{World}
use Rattle.fmp_time.specs.Words.{words_of}

-- how many things there are that have a number of their own: alarms, cyclic handlers, tasks, pools, eventflags, semaphores and data queues
abbrev pub things_of : World Queues → ℕ
things_of w =
    length w.alarms + length w.cyclics + length w.tasks + (length w.pools + length w.eventflags + length w.semaphores + length w.data_queues)

-- these are the numbers of the parts of a state: of the alarms, the cyclic handlers and the tasks, of the pools, the eventflags, the semaphores and the data
-- queues, and of the spin locks, the processors and the ready queues
pub record ArePartsOf (kept : KeptParts) (w : World Queues) (numbers : List ℕ) : Type 0 where
  pub handled : List ℕ
  pub objects : List ℕ
  pub rest : List ℕ
  pub are : numbers ≡ handled ++ (objects ++ rest)
  pub of_handled : AreHandled kept.handled (assignments_in w) handled
  pub of_objects : AreObjects kept.objects (objects_of w) objects
  pub of_rest : IsRest kept.rest w rest

-- the numbers that tell what counts: three for each item
abbrev pub times_of : World Queues → List ℕ
times_of w = words_of (times_in (assignments_in w))
