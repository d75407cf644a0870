-- What S must have for a call on an object, if the call is accepted: every cell that the call may change.
use Rattle.std.specs.Prelude.{ℕ, ℤ, is_some, nat_lt, IfSome}
use Rattle.fmp_codes.specs.declared.numbers.Object.{Object}
use Rattle.fmp_codes.specs.declared.numbers.Proc.{Proc}
use Rattle.fmp_codes.specs.declared.calls.SyncCall.{SyncCall}
use Rattle.fmp_codes.specs.declared.calls.SyncCall.TheVariants as sync
use Rattle.fmp_codes.specs.declared.calls.BufferCall.{BufferCall}
use Rattle.fmp_codes.specs.declared.calls.BufferCall.TheVariants as buffer
use Rattle.fmp_codes.specs.declared.calls.Mode.{Mode}
use Rattle.fmp_rules.specs.declared.machine.Wait.TheVariants as wait
use Rattle.fmp_rules.specs.declared.machine.QueueKind.TheVariants as kind
use Rattle.fmp_rules.specs.World.{World, first}
use Rattle.fmp_rules.specs.Objects.{semaphore, eventflag, holds, free_block}
use Rattle.fmp_rules.specs.Ordering.{Ordering, queue}
use Rattle.fmp_rules.specs.Arguments.{forever}
use Rattle.fmp_rules.specs.BufferCalls.{receiver, sender, can_send, can_receive}
use Rattle.fmp_law_footprint.specs.Cells.{Cell, OfSemaphore, OfEventflag, OfDataQueue, OfPool, there}
use Rattle.fmp_law_footprint.specs.Words.{Either, Each, Wakes, WakesOr, DoneOrWait}
use Rattle.fmp_law_footprint.specs.Named.{semaphore_named, eventflag_named, data_queue_named, pool_named}

module _ {Q : Type 0} (k : Ordering Q) (S : Cell → Type 0) (w : World Q) (p : Proc) where
  -- the first that waits for a unit is released, or the count rises
  abbrev pub Signals : Object → Type 0
  Signals s = WakesOr S (OfSemaphore (there s)) (first (queue k w kind.Semaphore s))

  -- a unit is taken, or the caller waits for one
  abbrev pub TakesUnit : Object → ℤ → Type 0
  TakesUnit s timeout = DoneOrWait S w p (nat_lt 0 (semaphore w s).count) (S (OfSemaphore (there s))) (wait.Semaphore s) timeout

  -- a pattern is set, and of those who wait for the flag any may be released
  abbrev pub Sets : Object → Type 0
  Sets f = S (OfEventflag (there f)) × Each (Wakes S) (queue k w kind.Eventflag f)

  -- a pattern is taken, which may clear it, or the caller waits for it
  abbrev pub TakesPattern : Object → ℕ → Mode → ℤ → Type 0
  TakesPattern f x m timeout = DoneOrWait S w p (holds (eventflag w f).pattern x m) (S (OfEventflag (there f))) (wait.Eventflag f x m) timeout

  abbrev pub CoversSync : SyncCall → Type 0
  CoversSync (sync.SigSem id) = Signals (semaphore_named w id)
  CoversSync (sync.IsigSem id) = Signals (semaphore_named w id)
  CoversSync (sync.WaiSem id) = TakesUnit (semaphore_named w id) forever
  CoversSync (sync.TwaiSem id timeout) = TakesUnit (semaphore_named w id) timeout
  CoversSync (sync.PolSem id) = S (OfSemaphore (there (semaphore_named w id)))
  CoversSync (sync.SetFlg id x) = Sets (eventflag_named w id)
  CoversSync (sync.IsetFlg id x) = Sets (eventflag_named w id)
  CoversSync (sync.ClrFlg id x) = S (OfEventflag (there (eventflag_named w id)))
  CoversSync (sync.WaiFlg id x m) = TakesPattern (eventflag_named w id) x m forever
  CoversSync (sync.TwaiFlg id x m timeout) = TakesPattern (eventflag_named w id) x m timeout
  CoversSync (sync.PolFlg id x m) = S (OfEventflag (there (eventflag_named w id)))

  -- the first that waits to receive is released, or the value goes into the queue
  abbrev pub Sends : Object → Type 0
  Sends d = WakesOr S (OfDataQueue (there d)) (receiver k w d)

  abbrev pub SendsOrWaits : Object → ℤ → ℤ → Type 0
  SendsOrWaits d v timeout = DoneOrWait S w p (can_send k w d) (Sends d) (wait.Send d v) timeout

  -- the value goes into the queue even if that is full
  abbrev pub Forces : Object → Type 0
  Forces d = Either (can_send k w d) (Sends d) (S (OfDataQueue (there d)))

  -- a value is taken, and the first that waits to send is released
  abbrev pub Receives : Object → Type 0
  Receives d = S (OfDataQueue (there d)) × IfSome (sender k w d) (Wakes S)

  abbrev pub ReceivesOrWaits : Object → ℤ → Type 0
  ReceivesOrWaits d timeout = DoneOrWait S w p (can_receive k w d) (Receives d) (wait.Receive d) timeout

  -- a block is taken, or the caller waits for one
  abbrev pub TakesBlock : Object → ℤ → Type 0
  TakesBlock m timeout = DoneOrWait S w p (is_some (free_block w m)) (S (OfPool (there m))) (wait.Pool m) timeout

  abbrev pub CoversBuffer : BufferCall → Type 0
  CoversBuffer (buffer.SndDtq id v) = SendsOrWaits (data_queue_named w id) v forever
  CoversBuffer (buffer.TsndDtq id v timeout) = SendsOrWaits (data_queue_named w id) v timeout
  CoversBuffer (buffer.PsndDtq id v) = Sends (data_queue_named w id)
  CoversBuffer (buffer.IpsndDtq id v) = Sends (data_queue_named w id)
  CoversBuffer (buffer.FsndDtq id v) = Forces (data_queue_named w id)
  CoversBuffer (buffer.IfsndDtq id v) = Forces (data_queue_named w id)
  CoversBuffer (buffer.RcvDtq id) = ReceivesOrWaits (data_queue_named w id) forever
  CoversBuffer (buffer.TrcvDtq id timeout) = ReceivesOrWaits (data_queue_named w id) timeout
  CoversBuffer (buffer.PrcvDtq id) = Receives (data_queue_named w id)
  CoversBuffer (buffer.GetMpf id) = TakesBlock (pool_named w id) forever
  CoversBuffer (buffer.TgetMpf id timeout) = TakesBlock (pool_named w id) timeout
  CoversBuffer (buffer.PgetMpf id) = S (OfPool (there (pool_named w id)))
  CoversBuffer (buffer.RelMpf id b) = WakesOr S (OfPool (there (pool_named w id))) (first (queue k w kind.Pool (pool_named w id)))
