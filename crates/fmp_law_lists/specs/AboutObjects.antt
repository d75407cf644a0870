-- What a call on an object is about: the object, the task that the call serves, and the caller, if it may wait.
use Rattle.std.specs.Prelude.{ℤ, Bool, false, Option, None, Some, List, [], ◌∷◌, is_some}
use Rattle.fmp_codes.specs.declared.numbers.Object.{Object}
use Rattle.fmp_codes.specs.declared.numbers.Proc.{Proc}
use Rattle.fmp_codes.specs.declared.numbers.Task.{Task}
use Rattle.fmp_codes.specs.declared.calls.BufferCall.{BufferCall}
use Rattle.fmp_codes.specs.declared.calls.BufferCall.TheVariants as buffer
use Rattle.fmp_codes.specs.declared.calls.SyncCall.{SyncCall}
use Rattle.fmp_codes.specs.declared.calls.SyncCall.TheVariants as sync
use Rattle.fmp_rules.specs.declared.machine.QueueKind.TheVariants as kind
use Rattle.fmp_rules.specs.BufferCalls.{receiver, sender}
use Rattle.fmp_rules.specs.World.{World, first}
use Rattle.fmp_rules.specs.Arguments.{caller, forever, ticks_of}
use Rattle.fmp_rules.specs.Ordering.{Ordering, queue}
use Rattle.fmp_law_footprint.specs.Cells.{there}
use Rattle.fmp_law_footprint.specs.Named.{semaphore_named, eventflag_named, data_queue_named, pool_named}
use Rattle.fmp_law_lists.specs.About.{About, nothing}

abbrev pub these : {X : Type 0} → Option X → List X
these None = []
these (Some x) = x ∷ []

-- an object with these tasks, and whether a timed wait may begin
abbrev pub about_semaphore : Object → List Task → Bool → About
about_semaphore s ts timed = record nothing { tasks = ts; semaphores = there s ∷ []; timed = timed }

abbrev pub about_flag : Object → List Task → Bool → About
about_flag f ts timed = record nothing { tasks = ts; eventflags = there f ∷ []; timed = timed }

abbrev pub about_queue : Object → List Task → Bool → About
about_queue d ts timed = record nothing { tasks = ts; data_queues = there d ∷ []; timed = timed }

abbrev pub about_pool : Object → List Task → Bool → About
about_pool m ts timed = record nothing { tasks = ts; pools = there m ∷ []; timed = timed }

module _ {Q : Type 0} (k : Ordering Q) (w : World Q) (p : Proc) where
  -- a unit is given
  abbrev pub about_signal : Object → About
  about_signal s = about_semaphore s (these (first (queue k w kind.Semaphore s))) false

  -- a unit is taken, or waited for
  abbrev pub about_unit : Object → ℤ → About
  about_unit s timeout = about_semaphore s (caller w p ∷ []) (is_some (ticks_of timeout))

  -- a pattern is set
  abbrev pub about_set : Object → About
  about_set f = about_flag f (queue k w kind.Eventflag f) false

  -- a pattern is taken, or waited for
  abbrev pub about_pattern : Object → ℤ → About
  about_pattern f timeout = about_flag f (caller w p ∷ []) (is_some (ticks_of timeout))

  abbrev pub about_sync : SyncCall → About
  about_sync (sync.SigSem id) = about_signal (semaphore_named w id)
  about_sync (sync.IsigSem id) = about_signal (semaphore_named w id)
  about_sync (sync.WaiSem id) = about_unit (semaphore_named w id) forever
  about_sync (sync.TwaiSem id timeout) = about_unit (semaphore_named w id) timeout
  about_sync (sync.PolSem id) = about_semaphore (semaphore_named w id) [] false
  about_sync (sync.SetFlg id x) = about_set (eventflag_named w id)
  about_sync (sync.IsetFlg id x) = about_set (eventflag_named w id)
  about_sync (sync.ClrFlg id x) = about_flag (eventflag_named w id) [] false
  about_sync (sync.WaiFlg id x m) = about_pattern (eventflag_named w id) forever
  about_sync (sync.TwaiFlg id x m timeout) = about_pattern (eventflag_named w id) timeout
  about_sync (sync.PolFlg id x m) = about_flag (eventflag_named w id) [] false

  -- a value is sent, and perhaps waited for a place
  abbrev pub about_sent : Object → About
  about_sent d = about_queue d (these (receiver k w d)) false

  abbrev pub about_sending : Object → ℤ → About
  about_sending d timeout = about_queue d (caller w p ∷ these (receiver k w d)) (is_some (ticks_of timeout))

  -- a value is received, and perhaps waited for
  abbrev pub about_received : Object → About
  about_received d = about_queue d (these (sender k w d)) false

  abbrev pub about_receiving : Object → ℤ → About
  about_receiving d timeout = about_queue d (caller w p ∷ these (sender k w d)) (is_some (ticks_of timeout))

  -- a block is taken, or waited for
  abbrev pub about_block : Object → ℤ → About
  about_block m timeout = about_pool m (caller w p ∷ []) (is_some (ticks_of timeout))

  -- a block is given back
  abbrev pub about_return : Object → About
  about_return m = about_pool m (these (first (queue k w kind.Pool m))) false

  abbrev pub about_buffer : BufferCall → About
  about_buffer (buffer.SndDtq id v) = about_sending (data_queue_named w id) forever
  about_buffer (buffer.TsndDtq id v timeout) = about_sending (data_queue_named w id) timeout
  about_buffer (buffer.PsndDtq id v) = about_sent (data_queue_named w id)
  about_buffer (buffer.IpsndDtq id v) = about_sent (data_queue_named w id)
  about_buffer (buffer.FsndDtq id v) = about_sent (data_queue_named w id)
  about_buffer (buffer.IfsndDtq id v) = about_sent (data_queue_named w id)
  about_buffer (buffer.RcvDtq id) = about_receiving (data_queue_named w id) forever
  about_buffer (buffer.TrcvDtq id timeout) = about_receiving (data_queue_named w id) timeout
  about_buffer (buffer.PrcvDtq id) = about_received (data_queue_named w id)
  about_buffer (buffer.GetMpf id) = about_block (pool_named w id) forever
  about_buffer (buffer.TgetMpf id timeout) = about_block (pool_named w id) timeout
  about_buffer (buffer.PgetMpf id) = about_pool (pool_named w id) [] false
  about_buffer (buffer.RelMpf id b) = about_return (pool_named w id)
