-- A data queue as an object: what the configuration says of it, its values, and its two wait queues.
use Rattle.std.specs.Prelude.{ℕ, ℤ, List, map, Option}
use Rattle.std.specs.Int.{w64, cast_unsigned}
use Rattle.fmp_codes.specs.declared.numbers.Task.{Task}
use Rattle.fmp_setup.specs.declared.setup.DataQueueSetup.{DataQueueSetup}
use Rattle.fmp_kernel_parts.specs.Digests.{added, added_all}
use Rattle.fmp_rules.specs.World.{first}
use Rattle.fmp_waitq.specs.Queue.{Waiter, task_of, added_waiters}

pub record DataQueue : Type 0 where
  pub setup : DataQueueSetup
  pub values : List ℤ  -- the oldest first
  pub senders : List Waiter
  pub receivers : List Waiter

abbrev pub added_value : ℤ → ℕ → ℕ
added_value v sum = added sum (cast_unsigned w64 v)

-- what a digest is after it was added, with nothing of what the configuration says of it
abbrev pub added_queue : DataQueue → ℕ → ℕ
added_queue q sum = added_waiters q.receivers (added_waiters q.senders (added_all added_value q.values sum))

-- the first task that waits to receive, and the first one that waits to send
abbrev pub receiver : DataQueue → Option Task
receiver q = first (map task_of q.receivers)

abbrev pub sender : DataQueue → Option Task
sender q = first (map task_of q.senders)
