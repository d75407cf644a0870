-- All objects of a kind out of their columns.
use Rattle.std.specs.Prelude.{ℤ, List, [], ◌∷◌}
use Rattle.fmp_setup.specs.declared.setup.DataQueueSetup.{DataQueueSetup}
use Rattle.fmp_waitq.specs.Queue.{Waiter}
use Rattle.fmp_sem.specs.Semaphores.{SemaphoreState}
use Rattle.fmp_flag.specs.Eventflags.{EventflagState}
use Rattle.fmp_dtq.specs.DataQueue.{DataQueue}
use Rattle.fmp_mpf.specs.MemoryPool.{MemoryPool}
use Rattle.fmp_kernel_objects.specs.Objects.{AllObjects}

-- of two columns each row
abbrev pub rows_of : {A B X : Type 0} → (A → B → X) → List A → List B → List X
rows_of make [] ys = []
rows_of make (x ∷ xs) [] = []
rows_of make (x ∷ xs) (y ∷ ys) = make x y ∷ rows_of make xs ys

abbrev pub semaphores_in : AllObjects → List SemaphoreState
semaphores_in a = rows_of (λ s es. record { semaphore = s; waiters = es }) a.semaphores a.waits.semaphores

abbrev pub eventflags_in : AllObjects → List EventflagState
eventflags_in a = rows_of (λ f es. record { eventflag = f; waiters = es }) a.eventflags a.waits.eventflags

-- a data queue, column by column
abbrev pub with_values : DataQueueSetup → List ℤ → DataQueue
with_values s vs = record { setup = s; values = vs; senders = []; receivers = [] }

abbrev pub with_senders : DataQueue → List Waiter → DataQueue
with_senders q es = record q { senders = es }

abbrev pub with_receivers : DataQueue → List Waiter → DataQueue
with_receivers q es = record q { receivers = es }

abbrev pub queues_in : AllObjects → List DataQueue
queues_in a = rows_of with_receivers (rows_of with_senders (rows_of with_values a.data_queues a.contents) a.waits.senders) a.waits.receivers

abbrev pub pools_in : AllObjects → List MemoryPool
pools_in a = rows_of (λ m es. record { pool = m; waiters = es }) a.pools a.waits.pools
