-- The numbers of a kernel's parts.
use Rattle.std.specs.Prelude.{◌≡◌, ℕ, Some, List, [], ◌∷◌, ◌++◌, map, slice_get}
use Rattle.fmp_interned.specs.Trees.{IsTree}
use Rattle.fmp_interned.specs.Parts.{AreNumbersOf}
use Rattle.fmp_kernel_assigned.specs.Assignments.{Assignments}
use Rattle.fmp_kernel_assigned.specs.Telling.{times_in, IsTold}
use Rattle.fmp_kernel_machine.specs.Parts.{assignments_in, dispatching_in}
use Rattle.fmp_kernel_objects.specs.Rows.{semaphores_in, eventflags_in, queues_in, pools_in}
use Rattle.fmp_kernel_objects.specs.Objects.{AllObjects, objects_of}
use Rattle.fmp_kernel_order.specs.Queues.{Queues}
use Rattle.fmp_kernel_packed.specs.Kept.{KeptHandled, KeptObjects, KeptRest, KeptParts}
use Rattle.fmp_rules.specs.World.{World}
use Rattle.fmp_time.specs.Words.{words_of}

-- these are the numbers of the alarms, of the cyclic handlers and of the tasks, one after the other
pub record AreHandled (kept : KeptHandled) (a : Assignments) (numbers : List ℕ) : Type 0 where
  pub alarms : List ℕ
  pub cyclics : List ℕ
  pub tasks : List ℕ
  pub are : numbers ≡ alarms ++ (cyclics ++ tasks)
  pub of_alarms : AreNumbersOf kept.alarms alarms a.alarms
  pub of_cyclics : AreNumbersOf kept.cyclics cyclics a.cyclics
  pub of_tasks : AreNumbersOf kept.tasks tasks a.tasks

-- all that is told of objects is told of each
pub record AreColumns (a : AllObjects) : Type 0 where
  pub semaphores : map (λ s. s.semaphore) (semaphores_in a) ≡ a.semaphores
  pub semaphore_waiters : map (λ s. s.waiters) (semaphores_in a) ≡ a.waits.semaphores
  pub eventflags : map (λ f. f.eventflag) (eventflags_in a) ≡ a.eventflags
  pub eventflag_waiters : map (λ f. f.waiters) (eventflags_in a) ≡ a.waits.eventflags
  pub data_queues : map (λ q. q.setup) (queues_in a) ≡ a.data_queues
  pub contents : map (λ q. q.values) (queues_in a) ≡ a.contents
  pub senders : map (λ q. q.senders) (queues_in a) ≡ a.waits.senders
  pub receivers : map (λ q. q.receivers) (queues_in a) ≡ a.waits.receivers
  pub pools : map (λ m. m.pool) (pools_in a) ≡ a.pools
  pub pool_waiters : map (λ m. m.waiters) (pools_in a) ≡ a.waits.pools

-- these are the numbers of the pools, of the eventflags, of the semaphores and of the data queues, one after the other
pub record AreObjects (kept : KeptObjects) (a : AllObjects) (numbers : List ℕ) : Type 0 where
  pub pools : List ℕ
  pub eventflags : List ℕ
  pub semaphores : List ℕ
  pub data_queues : List ℕ
  pub are : numbers ≡ pools ++ (eventflags ++ (semaphores ++ data_queues))
  pub of_pools : AreNumbersOf kept.pools pools (pools_in a)
  pub of_eventflags : AreNumbersOf kept.eventflags eventflags (eventflags_in a)
  pub of_semaphores : AreNumbersOf kept.semaphores semaphores (semaphores_in a)
  pub of_data_queues : AreNumbersOf kept.data_queues data_queues (queues_in a)
  pub columns : AreColumns a

-- these are the numbers of the spin locks, of the processors and of the ready queues
pub record IsRest (kept : KeptRest) (w : World Queues) (numbers : List ℕ) : Type 0 where
  pub spins : ℕ
  pub dispatch : ℕ
  pub ready : ℕ
  pub are : numbers ≡ spins ∷ dispatch ∷ ready ∷ []
  pub of_spins : slice_get kept.spins spins ≡ Some w.holders
  pub of_dispatch : slice_get kept.dispatch dispatch ≡ Some (dispatching_in w)
  pub of_ready : slice_get kept.ready ready ≡ Some (record { lists = w.order.ready })

-- a kernel is told by the key of the numbers of its parts, and by the number of what counts
pub record IsPacked (kept : KeptParts) (w : World Queues) (machine counting : ℕ) : Type 0 where
  pub handled : List ℕ
  pub objects : List ℕ
  pub rest : List ℕ
  pub tree : IsTree kept.pairs (handled ++ (objects ++ rest)) machine
  pub of_handled : AreHandled kept.handled (assignments_in w) handled
  pub of_objects : AreObjects kept.objects (objects_of w) objects
  pub of_rest : IsRest kept.rest w rest
  pub of_counting : slice_get kept.counting counting ≡ Some (words_of (times_in (assignments_in w)))
  pub told : IsTold (assignments_in w)
