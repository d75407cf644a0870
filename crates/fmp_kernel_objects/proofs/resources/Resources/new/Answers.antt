use Rattle.std.proofs.Common.{[], false, replicate, refl, ◌∙◌}
use Rattle.fmp_setup.specs.declared.setup.SemaphoreSetup.{SemaphoreSetup}
use Rattle.fmp_setup.specs.declared.setup.EventflagSetup.{EventflagSetup}
use Rattle.fmp_setup.specs.declared.setup.DataQueueSetup.{DataQueueSetup}
use Rattle.fmp_setup.specs.declared.setup.PoolSetup.{PoolSetup}
use Rattle.fmp_sem.specs.Semaphores.{SemaphoreState}
use Rattle.fmp_flag.specs.Eventflags.{EventflagState}
use Rattle.fmp_dtq.specs.DataQueue.{DataQueue}
use Rattle.fmp_mpf.specs.MemoryPool.{MemoryPool}
use Rattle.fmp_kernel_objects.proofs.Columns.{of_each, as_they_are}
use Rattle.fmp_kernel_objects.proofs.resources.Resources.new.Goals as goal

abbrev semaphore : SemaphoreSetup → SemaphoreState
semaphore s = record { semaphore = record { setup = s; count = s.initial }; waiters = [] }

abbrev eventflag : EventflagSetup → EventflagState
eventflag s = record { eventflag = record { setup = s; pattern = s.initial }; waiters = [] }

abbrev queue : DataQueueSetup → DataQueue
queue s = record { setup = s; values = []; senders = []; receivers = [] }

abbrev pool : PoolSetup → MemoryPool
pool s = record { pool = record { setup = s; handed = replicate 64 false }; waiters = [] }

pub returns : goal.returns
returns c = let k = c.args.config.now in
    rw (
      c.in_ok-new.ensures,
      c.in_ok-new-2.ensures,
      c.in_ok-new-3.ensures,
      c.in_ok-new-4.ensures,
      c.semaphores.ensures.value,
      c.eventflags.ensures.value,
      c.data_queues.ensures.value,
      c.pools.ensures.value,
      of_each (λ (s : SemaphoreState). s.semaphore) semaphore k.semaphores,
      of_each (λ (s : SemaphoreState). s.waiters) semaphore k.semaphores,
      of_each (λ (f : EventflagState). f.eventflag) eventflag k.eventflags,
      of_each (λ (f : EventflagState). f.waiters) eventflag k.eventflags,
      of_each (λ (q : DataQueue). q.setup) queue k.data_queues ∙ as_they_are k.data_queues,
      of_each (λ (q : DataQueue). q.values) queue k.data_queues,
      of_each (λ (q : DataQueue). q.senders) queue k.data_queues,
      of_each (λ (q : DataQueue). q.receivers) queue k.data_queues,
      of_each (λ (m : MemoryPool). m.pool) pool k.pools,
      of_each (λ (m : MemoryPool). m.waiters) pool k.pools,
    ) refl
