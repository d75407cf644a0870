-- What stands where there is no object of a kind, and the blocks of a pool.
use Rattle.std.specs.Prelude.{ℤ, Bool, []}
use Rattle.fmp_rules.specs.declared.machine.Pool.{Pool}
use Rattle.fmp_rules.specs.Objects.{blank_semaphore, blank_eventflag, no_data_queue, blank_pool}
use Rattle.fmp_sem.specs.Semaphores.{SemaphoreState}
use Rattle.fmp_flag.specs.Eventflags.{EventflagState}
use Rattle.fmp_dtq.specs.DataQueue.{DataQueue}
use Rattle.fmp_mpf.specs.MemoryPool.{MemoryPool, is_handed}

-- what stands where there is none of a kind
abbrev pub no_semaphore : SemaphoreState
no_semaphore = record { semaphore = blank_semaphore; waiters = [] }

abbrev pub no_eventflag : EventflagState
no_eventflag = record { eventflag = blank_eventflag; waiters = [] }

abbrev pub no_queue : DataQueue
no_queue = record { setup = no_data_queue; values = []; senders = []; receivers = [] }

abbrev pub no_pool : MemoryPool
no_pool = record { pool = blank_pool; waiters = [] }

-- the number is that of a block of a pool that is handed out
abbrev pub is_handed_in : Pool → ℤ → Bool
is_handed_in m = is_handed (record { pool = m; waiters = [] })
