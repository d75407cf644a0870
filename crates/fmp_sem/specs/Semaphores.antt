-- A semaphore with the tasks that wait for it.
use Rattle.std.specs.Prelude.{◌≡◌, ℕ, ◌+◌, ◌-◌, ◌&&◌, Bool, true, Option, None, Some, List, nat_le, if◌then◌else◌, is_none, map}
use Rattle.fmp_codes.specs.declared.numbers.Task.{Task}
use Rattle.fmp_rules.specs.declared.machine.Semaphore.{Semaphore}
use Rattle.fmp_kernel_parts.specs.Digests.{added}
use Rattle.fmp_rules.specs.World.{first}
use Rattle.fmp_waitq.specs.Queue.{Waiter, task_of, added_waiters, has_waiter, left_by}
use Rattle.fmp_sem.specs.declared.operations.Signal.{Signal}
use Rattle.fmp_sem.specs.declared.operations.Signal.TheVariants as signal

pub record SemaphoreState : Type 0 where
  pub semaphore : Semaphore
  pub waiters : List Waiter

-- what a digest is after it was added, with nothing of what the configuration says of it
abbrev pub added_semaphore : SemaphoreState → ℕ → ℕ
added_semaphore s sum = added_waiters s.waiters (added sum s.semaphore.count)

-- the first task that waits
abbrev pub waiter : SemaphoreState → Option Task
waiter s = first (map task_of s.waiters)

-- nobody waits, and the count cannot rise
abbrev pub is_full : SemaphoreState → Bool
is_full s = is_none (waiter s) && nat_le s.semaphore.setup.most s.semaphore.count

-- the first waiter is released, or else the count rises
abbrev pub signal_to : SemaphoreState → Option Task → SemaphoreState × Signal
signal_to s None = (record s { semaphore = record s.semaphore { count = s.semaphore.count + 1 } }, signal.Counted)
signal_to s (Some t) = (record s { waiters = left_by t s.waiters }, signal.Released t)

abbrev pub signalled : SemaphoreState → SemaphoreState × Signal
signalled s = if is_full s then (s, signal.Over) else signal_to s (waiter s)

-- the count falls, if it can
abbrev pub polled : SemaphoreState → SemaphoreState
polled s = record s { semaphore = record s.semaphore { count = s.semaphore.count - 1 } }

-- tasks wait only while the count is 0
abbrev pub WaitsAtZero : SemaphoreState → Type 0
WaitsAtZero s = (t : Task) → has_waiter t s.waiters ≡ true → s.semaphore.count ≡ 0
