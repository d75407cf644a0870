-- What kernels are made of, each part once.
use Rattle.std.specs.Prelude.{ℕ, Option, List, []}
use Rattle.fmp_codes.specs.declared.numbers.Proc.{Proc}
use Rattle.fmp_dispatch.specs.Dispatching.{Dispatching}
use Rattle.fmp_dtq.specs.DataQueue.{DataQueue}
use Rattle.fmp_flag.specs.Eventflags.{EventflagState}
use Rattle.fmp_interned.specs.Values.{AreDistinct, IsBeginning}
use Rattle.fmp_mpf.specs.MemoryPool.{MemoryPool}
use Rattle.fmp_ready.specs.Queues.{PriorityLists}
use Rattle.fmp_rules.specs.declared.machine.Alarm.{Alarm}
use Rattle.fmp_rules.specs.declared.machine.Cyclic.{Cyclic}
use Rattle.fmp_rules.specs.declared.machine.TaskRecord.{TaskRecord}
use Rattle.fmp_sem.specs.Semaphores.{SemaphoreState}

-- tasks and handlers
pub record KeptHandled : Type 0 where
  pub tasks : List TaskRecord
  pub cyclics : List Cyclic
  pub alarms : List Alarm

-- objects, with those who wait for them
pub record KeptObjects : Type 0 where
  pub semaphores : List SemaphoreState
  pub eventflags : List EventflagState
  pub data_queues : List DataQueue
  pub pools : List MemoryPool

-- spin locks, processors and ready queues, all of a kernel together
pub record KeptRest : Type 0 where
  pub spins : List (List (Option Proc))
  pub dispatch : List Dispatching
  pub ready : List PriorityLists

pub record KeptParts : Type 0 where
  pub handled : KeptHandled
  pub objects : KeptObjects
  pub rest : KeptRest
  pub counting : List (List ℕ)  -- the numbers that tell what counts
  pub pairs : List (List ℕ)  -- of the trees of the parts' numbers

-- nothing yet
abbrev pub no_parts : KeptParts
no_parts = record {
  handled = record { tasks = []; cyclics = []; alarms = [] };
  objects = record { semaphores = []; eventflags = []; data_queues = []; pools = [] };
  rest = record { spins = []; dispatch = []; ready = [] };
  counting = [];
  pairs = [];
}

-- no two that are kept are the same
pub record AreHandledOnce (k : KeptHandled) : Type 0 where
  pub tasks : AreDistinct k.tasks
  pub cyclics : AreDistinct k.cyclics
  pub alarms : AreDistinct k.alarms

pub record AreObjectsOnce (k : KeptObjects) : Type 0 where
  pub semaphores : AreDistinct k.semaphores
  pub eventflags : AreDistinct k.eventflags
  pub data_queues : AreDistinct k.data_queues
  pub pools : AreDistinct k.pools

pub record IsRestOnce (k : KeptRest) : Type 0 where
  pub spins : AreDistinct k.spins
  pub dispatch : AreDistinct k.dispatch
  pub ready : AreDistinct k.ready

pub record ArePartsOnce (k : KeptParts) : Type 0 where
  pub handled : AreHandledOnce k.handled
  pub objects : AreObjectsOnce k.objects
  pub rest : IsRestOnce k.rest
  pub counting : AreDistinct k.counting
  pub pairs : AreDistinct k.pairs

-- those of the one come first in the other
pub record AreHandledBefore (k l : KeptHandled) : Type 0 where
  pub tasks : IsBeginning k.tasks l.tasks
  pub cyclics : IsBeginning k.cyclics l.cyclics
  pub alarms : IsBeginning k.alarms l.alarms

pub record AreObjectsBefore (k l : KeptObjects) : Type 0 where
  pub semaphores : IsBeginning k.semaphores l.semaphores
  pub eventflags : IsBeginning k.eventflags l.eventflags
  pub data_queues : IsBeginning k.data_queues l.data_queues
  pub pools : IsBeginning k.pools l.pools

pub record IsRestBefore (k l : KeptRest) : Type 0 where
  pub spins : IsBeginning k.spins l.spins
  pub dispatch : IsBeginning k.dispatch l.dispatch
  pub ready : IsBeginning k.ready l.ready

pub record ArePartsBefore (k l : KeptParts) : Type 0 where
  pub handled : AreHandledBefore k.handled l.handled
  pub objects : AreObjectsBefore k.objects l.objects
  pub rest : IsRestBefore k.rest l.rest
  pub counting : IsBeginning k.counting l.counting
  pub pairs : IsBeginning k.pairs l.pairs
