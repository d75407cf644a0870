-- What S must have for a call on an object, if its processor has its own cells there: every cell that the call reads.
use Rattle.std.specs.Prelude.{IfSome}
use Rattle.fmp_codes.specs.declared.numbers.Object.{Object}
use Rattle.fmp_codes.specs.declared.numbers.Proc.{Proc}
use Rattle.fmp_codes.specs.declared.numbers.Task.{Task}
use Rattle.fmp_codes.specs.declared.calls.SyncCall.{SyncCall}
use Rattle.fmp_codes.specs.declared.calls.SyncCall.TheVariants as sync
use Rattle.fmp_rules.specs.declared.machine.QueueKind.{QueueKind}
use Rattle.fmp_rules.specs.declared.machine.QueueKind.TheVariants as kind
use Rattle.fmp_codes.specs.declared.calls.BufferCall.{BufferCall}
use Rattle.fmp_codes.specs.declared.calls.BufferCall.TheVariants as buffer
use Rattle.fmp_rules.specs.World.{World, first}
use Rattle.fmp_rules.specs.Arguments.{caller}
use Rattle.fmp_rules.specs.BufferCalls.{receiver, sender}
use Rattle.fmp_rules.specs.Ordering.{Ordering, queue}
use Rattle.fmp_law_footprint.specs.Cells.{Cell, OfTask, WaitOf, WaitersOf, OfSemaphore, OfEventflag, OfDataQueue, OfPool, at, there}
use Rattle.fmp_law_footprint.specs.Words.{Each}
use Rattle.fmp_law_footprint.specs.Named.{semaphore_named, eventflag_named, data_queue_named, pool_named}

module _ (S : Cell → Type 0) where
  -- the record of a task, but for what is counted
  abbrev pub Knows : Task → Type 0
  Knows t = S (OfTask (at t)) × S (WaitOf (at t))

  -- an object with its queue
  abbrev pub KnowsSemaphore : Object → Type 0
  KnowsSemaphore s = S (OfSemaphore (there s)) × S (WaitersOf kind.Semaphore (there s))

  abbrev pub KnowsFlag : Object → Type 0
  KnowsFlag f = S (OfEventflag (there f)) × S (WaitersOf kind.Eventflag (there f))

  -- a data queue and both of its queues
  abbrev pub KnowsQueue : Object → Type 0
  KnowsQueue d = S (OfDataQueue (there d)) × S (WaitersOf kind.Send (there d)) × S (WaitersOf kind.Receive (there d))

  abbrev pub KnowsPool : Object → Type 0
  KnowsPool m = S (OfPool (there m)) × S (WaitersOf kind.Pool (there m))

module _ {Q : Type 0} (k : Ordering Q) (S : Cell → Type 0) (w : World Q) (p : Proc) where
  -- the first that waits in the queue of an object
  abbrev pub KnowsFirst : QueueKind → Object → Type 0
  KnowsFirst x o = IfSome (first (queue k w x o)) (Knows S)

  abbrev pub ReadsSync : SyncCall → Type 0
  ReadsSync (sync.SigSem id) = KnowsSemaphore S (semaphore_named w id) × KnowsFirst kind.Semaphore (semaphore_named w id)
  ReadsSync (sync.IsigSem id) = KnowsSemaphore S (semaphore_named w id) × KnowsFirst kind.Semaphore (semaphore_named w id)
  ReadsSync (sync.WaiSem id) = KnowsSemaphore S (semaphore_named w id) × Knows S (caller w p)
  ReadsSync (sync.TwaiSem id timeout) = KnowsSemaphore S (semaphore_named w id) × Knows S (caller w p)
  ReadsSync (sync.PolSem id) = KnowsSemaphore S (semaphore_named w id)
  ReadsSync (sync.SetFlg id x) = KnowsFlag S (eventflag_named w id) × Each (Knows S) (queue k w kind.Eventflag (eventflag_named w id))
  ReadsSync (sync.IsetFlg id x) = KnowsFlag S (eventflag_named w id) × Each (Knows S) (queue k w kind.Eventflag (eventflag_named w id))
  ReadsSync (sync.ClrFlg id x) = KnowsFlag S (eventflag_named w id)
  ReadsSync (sync.WaiFlg id x m) = KnowsFlag S (eventflag_named w id) × Knows S (caller w p)
  ReadsSync (sync.TwaiFlg id x m timeout) = KnowsFlag S (eventflag_named w id) × Knows S (caller w p)
  ReadsSync (sync.PolFlg id x m) = KnowsFlag S (eventflag_named w id)

  -- a data queue with the first that waits to receive, and with the first that waits to send
  abbrev pub KnowsReceiver : Object → Type 0
  KnowsReceiver d = KnowsQueue S d × IfSome (receiver k w d) (Knows S)

  abbrev pub KnowsSender : Object → Type 0
  KnowsSender d = KnowsQueue S d × IfSome (sender k w d) (Knows S)

  abbrev pub ReadsBuffer : BufferCall → Type 0
  ReadsBuffer (buffer.SndDtq id v) = KnowsReceiver (data_queue_named w id) × Knows S (caller w p)
  ReadsBuffer (buffer.TsndDtq id v timeout) = KnowsReceiver (data_queue_named w id) × Knows S (caller w p)
  ReadsBuffer (buffer.PsndDtq id v) = KnowsReceiver (data_queue_named w id)
  ReadsBuffer (buffer.IpsndDtq id v) = KnowsReceiver (data_queue_named w id)
  ReadsBuffer (buffer.FsndDtq id v) = KnowsReceiver (data_queue_named w id)
  ReadsBuffer (buffer.IfsndDtq id v) = KnowsReceiver (data_queue_named w id)
  ReadsBuffer (buffer.RcvDtq id) = KnowsSender (data_queue_named w id) × Knows S (caller w p)
  ReadsBuffer (buffer.TrcvDtq id timeout) = KnowsSender (data_queue_named w id) × Knows S (caller w p)
  ReadsBuffer (buffer.PrcvDtq id) = KnowsSender (data_queue_named w id)
  ReadsBuffer (buffer.GetMpf id) = KnowsPool S (pool_named w id) × Knows S (caller w p)
  ReadsBuffer (buffer.TgetMpf id timeout) = KnowsPool S (pool_named w id) × Knows S (caller w p)
  ReadsBuffer (buffer.PgetMpf id) = KnowsPool S (pool_named w id)
  ReadsBuffer (buffer.RelMpf id b) = KnowsPool S (pool_named w id) × KnowsFirst kind.Pool (pool_named w id)
