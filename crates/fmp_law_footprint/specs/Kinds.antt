-- Which kinds of cells a call and a tick may change, whatever the state.
use Rattle.std.specs.Prelude.{Bool, true, false}
use Rattle.fmp_codes.specs.declared.calls.Call.{Call}
use Rattle.fmp_codes.specs.declared.calls.Call.TheVariants as calls
use Rattle.fmp_codes.specs.declared.calls.TaskCall.TheVariants as task_call
use Rattle.fmp_codes.specs.declared.calls.SyncCall.TheVariants as sync
use Rattle.fmp_codes.specs.declared.calls.BufferCall.TheVariants as buffer
use Rattle.fmp_codes.specs.declared.calls.TimeCall.TheVariants as time
use Rattle.fmp_codes.specs.declared.calls.SystemCall.TheVariants as system
use Rattle.fmp_law_footprint.specs.Cells.{Cell, OfTask, CountsOf, WaitOf, LeftOf, SpotOf, ReadyOn, WaitersOf, TimedWaits, Arriving, OfProcessor, DueOn, OfSemaphore, OfEventflag, OfDataQueue, OfPool, OfCyclic, OfAlarm, OfLock}

-- the order of tasks
abbrev pub of_order : Cell → Bool
of_order (SpotOf n) = true
of_order (ReadyOn n) = true
of_order (WaitersOf x n) = true
of_order TimedWaits = true
of_order Arriving = true
of_order other = false

-- and the waits of tasks
abbrev pub of_waits : Cell → Bool
of_waits (WaitOf n) = true
of_waits (LeftOf n) = true
of_waits x = of_order x

-- and all else of them
abbrev pub of_tasks : Cell → Bool
of_tasks (OfTask n) = true
of_tasks (CountsOf n) = true
of_tasks x = of_waits x

-- what processors run, and whether they are CPU-locked or their dispatching is disabled
abbrev pub of_processors : Cell → Bool
of_processors (OfProcessor n) = true
of_processors other = false

abbrev pub of_locks : Cell → Bool
of_locks (OfProcessor n) = true
of_locks (OfLock n) = true
of_locks other = false

abbrev pub of_handlers : Cell → Bool
of_handlers (DueOn n) = true
of_handlers x = of_locks x

-- objects of a kind, and the waits of tasks
abbrev pub of_semaphores : Cell → Bool
of_semaphores (OfSemaphore n) = true
of_semaphores x = of_waits x

abbrev pub of_eventflags : Cell → Bool
of_eventflags (OfEventflag n) = true
of_eventflags x = of_waits x

abbrev pub of_data_queues : Cell → Bool
of_data_queues (OfDataQueue n) = true
of_data_queues x = of_waits x

abbrev pub of_pools : Cell → Bool
of_pools (OfPool n) = true
of_pools x = of_waits x

abbrev pub of_cyclics : Cell → Bool
of_cyclics (OfCyclic n) = true
of_cyclics other = false

abbrev pub of_alarms : Cell → Bool
of_alarms (OfAlarm n) = true
of_alarms other = false

-- what the end of the caller may change
abbrev pub of_exit : Cell → Bool
of_exit (OfProcessor n) = true
of_exit (OfLock n) = true
of_exit x = of_tasks x

-- what a tick may change, but for who runs and is sent a request at its end
abbrev pub of_tick : Cell → Bool
of_tick (DueOn n) = true
of_tick (OfCyclic n) = true
of_tick (OfAlarm n) = true
of_tick x = of_waits x

-- calls that may change the same kinds
pub data Group : Type 0 where
  OnTasks OnExit OnSemaphores OnEventflags OnDataQueues OnPools OnCyclics OnAlarms OnOrder OnProcessors OnLocks OnReturn : Group

abbrev pub of_group : Group → Cell → Bool
of_group OnTasks = of_tasks
of_group OnExit = of_exit
of_group OnSemaphores = of_semaphores
of_group OnEventflags = of_eventflags
of_group OnDataQueues = of_data_queues
of_group OnPools = of_pools
of_group OnCyclics = of_cyclics
of_group OnAlarms = of_alarms
of_group OnOrder = of_order
of_group OnProcessors = of_processors
of_group OnLocks = of_locks
of_group OnReturn = of_handlers

abbrev pub group : Call → Group
group (calls.Task task_call.ExtTsk) = OnExit
group (calls.Task c) = OnTasks
group (calls.Sync (sync.SigSem id)) = OnSemaphores
group (calls.Sync (sync.IsigSem id)) = OnSemaphores
group (calls.Sync (sync.WaiSem id)) = OnSemaphores
group (calls.Sync (sync.TwaiSem id timeout)) = OnSemaphores
group (calls.Sync (sync.PolSem id)) = OnSemaphores
group (calls.Sync c) = OnEventflags
group (calls.Buffer (buffer.GetMpf id)) = OnPools
group (calls.Buffer (buffer.TgetMpf id timeout)) = OnPools
group (calls.Buffer (buffer.PgetMpf id)) = OnPools
group (calls.Buffer (buffer.RelMpf id b)) = OnPools
group (calls.Buffer c) = OnDataQueues
group (calls.Time (time.StaCyc id)) = OnCyclics
group (calls.Time (time.MstaCyc id to)) = OnCyclics
group (calls.Time (time.StpCyc id)) = OnCyclics
group (calls.Time c) = OnAlarms
group (calls.System (system.RotRdq n)) = OnOrder
group (calls.System (system.IrotRdq n)) = OnOrder
group (calls.System (system.MrotRdq n q)) = OnOrder
group (calls.System (system.ImrotRdq n q)) = OnOrder
group (calls.System c) = OnProcessors
group (calls.Spin c) = OnLocks
group calls.RetHdr = OnReturn

-- A call may change no other kinds before its end. It may not change all of these, and some calls of a group change none.
abbrev pub may_change : Call → Cell → Bool
may_change c x = of_group (group c) x
