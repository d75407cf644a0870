-- What the cells have of the order that the kernel keeps by lists.
use Rattle.std.specs.Prelude.{◌≡◌, ℕ, ◌*◌, true, List, take, drop}
use Rattle.std.specs.List.{list_any}
use Rattle.fmp_codes.specs.declared.numbers.Task.{Task}
use Rattle.fmp_kernel_parts.specs.Tasks.{has_task}
use Rattle.fmp_waitq.specs.Queue.{Waiter}
use Rattle.fmp_kernel_order.specs.Queues.{Queues, queues}
use Rattle.fmp_law_footprint.specs.Cells.{Cell, OfTask, CountsOf, WaitOf, LeftOf, SpotOf, ReadyOn, WaitersOf, TimedWaits, Arriving, OfProcessor, LatchOf, DueOn, OfSemaphore, OfEventflag, OfDataQueue, OfPool, OfCyclic, OfAlarm, OfLock, Shape, at}

-- the ready lists of the processor at a place, one for each of the 32 priorities
abbrev pub lists_on : List (List Task) → ℕ → List (List Task)
lists_on q n = take 32 (drop (32 * n) q)

-- the queue at a place, if there is one
abbrev pub queue_on : List (List Waiter) → ℕ → List (List Waiter)
queue_on qs n = take 1 (drop n qs)

-- the ready lists of a processor, a queue, and the list of timed waits; nothing is kept for a task alone, or for all tasks
abbrev pub Lists : Cell → Type 0
Lists (ReadyOn n) = List (List Task)
Lists (WaitersOf x n) = List (List Waiter)
Lists TimedWaits = List Task
Lists _ = Unit {0}

abbrev pub lists : Queues → (c : Cell) → Lists c
lists q (ReadyOn n) = lists_on q.ready n
lists q (WaitersOf x n) = queue_on (queues q.waits x) n
lists q TimedWaits = q.timed
lists q (SpotOf n) = tt
lists q Arriving = tt
lists q (OfTask n) = tt
lists q (CountsOf n) = tt
lists q (WaitOf n) = tt
lists q (LeftOf n) = tt
lists q (OfProcessor n) = tt
lists q (LatchOf n) = tt
lists q (DueOn n) = tt
lists q (OfSemaphore n) = tt
lists q (OfEventflag n) = tt
lists q (OfDataQueue n) = tt
lists q (OfPool n) = tt
lists q (OfCyclic n) = tt
lists q (OfAlarm n) = tt
lists q (OfLock n) = tt
lists q Shape = tt

-- no task whose spot is in S stands among the ready tasks of a processor or the timed waits where these are not in S
pub record StandsInside (S : Cell → Type 0) (q : Queues) : Type 0 where
  pub ready : (n : ℕ) (t : Task) → list_any (has_task t) (lists_on q.ready n) ≡ true → S (SpotOf (at t)) → S (ReadyOn n)
  pub timed : (t : Task) → has_task t q.timed ≡ true → S (SpotOf (at t)) → S TimedWaits
