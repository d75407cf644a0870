-- The cells of the kinds that a call or a tick may change cover it.
use Rattle.std.proofs.Common.{◌≡◌, ℕ, ℤ, Bool, false, List, [], ◌∷◌, refl, Option, None, Some}
use Rattle.std.specs.Prelude.{IfSome, unwrap_or}
use Rattle.std.proofs.lemmas.Bool.{both_ways}
use Rattle.fmp_codes.specs.declared.numbers.Task.{Task}
use Rattle.fmp_codes.specs.declared.calls.BufferCall.TheVariants as buffer
use Rattle.fmp_codes.specs.declared.calls.Call.{Call}
use Rattle.fmp_codes.specs.declared.calls.Call.TheVariants as calls
use Rattle.fmp_codes.specs.declared.calls.Mode.{Mode}
use Rattle.fmp_codes.specs.declared.numbers.Object.{Object}
use Rattle.fmp_codes.specs.declared.calls.SyncCall.TheVariants as sync
use Rattle.fmp_codes.specs.declared.calls.SystemCall.TheVariants as system
use Rattle.fmp_codes.specs.declared.calls.TaskCall.{TaskCall}
use Rattle.fmp_codes.specs.declared.calls.TaskCall.TheVariants as task_call
use Rattle.fmp_codes.specs.declared.calls.TimeCall.TheVariants as time
use Rattle.fmp_codes.specs.declared.calls.SpinCall.TheVariants as spin
use Rattle.fmp_codes.specs.declared.numbers.Proc.{Proc}
use Rattle.fmp_rules.specs.declared.machine.TaskRecord.{TaskRecord}
use Rattle.fmp_rules.specs.declared.machine.QueueKind.{QueueKind}
use Rattle.fmp_rules.specs.declared.machine.Wait.{Wait}
use Rattle.fmp_rules.specs.declared.machine.Wait.TheVariants as wait
use Rattle.fmp_rules.specs.World.{World, first}
use Rattle.fmp_rules.specs.Arguments.{caller, ticks_of, forever, processor_named}
use Rattle.fmp_rules.specs.BufferCalls.{receiver, sender}
use Rattle.fmp_rules.specs.declared.machine.QueueKind.TheVariants as kind
use Rattle.fmp_rules.specs.Ordering.{Ordering, queue}
use Rattle.fmp_law_footprint.specs.Cells.{Cell, OfTask, CountsOf, WaitOf, LeftOf, SpotOf, ReadyOn, WaitersOf, TimedWaits, OfSemaphore, OfDataQueue, OfPool, at, there}
use Rattle.fmp_law_footprint.specs.Footprints.{Within, InQueue, InTimed, Closed}
use Rattle.fmp_law_footprint.specs.Words.{Each, Wakes, Sleeps, WakesOr, DoneOrWait}
use Rattle.fmp_law_footprint.specs.Named.{named_or_caller, named_task, semaphore_named, eventflag_named, data_queue_named, pool_named, rotated}
use Rattle.fmp_law_footprint.specs.CoversObjects.{Signals, Sets, Sends, Receives, TakesUnit, TakesPattern, SendsOrWaits, ReceivesOrWaits, TakesBlock}
use Rattle.fmp_law_footprint.specs.CoversCalls.{CoversTask, CoversCall, Rotates}
use Rattle.fmp_law_footprint.specs.Covers.{CoversTick}
use Rattle.fmp_law_footprint.specs.Kinds.{of_order, of_waits, of_tasks, of_processors, of_locks, of_handlers, of_semaphores, of_eventflags, of_data_queues, of_pools, of_cyclics, of_alarms, of_exit, of_tick, Group, OnTasks, OnExit, OnSemaphores, OnEventflags, OnDataQueues, OnPools, OnCyclics, OnAlarms, OnOrder, OnProcessors, OnLocks, OnReturn, of_group, may_change}

-- S has the waits of all tasks, and their order
pub record HasWaits (S : Cell → Type 0) : Type 0 where
  pub wait : (n : ℕ) → S (WaitOf n)
  pub left : (n : ℕ) → S (LeftOf n)
  pub spot : (n : ℕ) → S (SpotOf n)
  pub ready : (n : ℕ) → S (ReadyOn n)
  pub waiters : (x : QueueKind) (n : ℕ) → S (WaitersOf x n)
  pub timed : S TimedWaits

pub record HasTasks (S : Cell → Type 0) : Type 0 where
  pub waits : HasWaits S
  pub task : (n : ℕ) → S (OfTask n)
  pub counts : (n : ℕ) → S (CountsOf n)

module _ (S : Cell → Type 0) where
  pub in_queue : ((x : QueueKind) (n : ℕ) → S (WaitersOf x n)) → (x : Option Wait) → InQueue S x
  in_queue h None = tt
  in_queue h (Some wait.Sleep) = tt
  in_queue h (Some wait.Delay) = tt
  in_queue h (Some (wait.Semaphore s)) = h _ _
  in_queue h (Some (wait.Eventflag f x m)) = h _ _
  in_queue h (Some (wait.Send d v)) = h _ _
  in_queue h (Some (wait.Receive d)) = h _ _
  in_queue h (Some (wait.Pool m)) = h _ _

  pub in_timed : S TimedWaits → (left : Option ℕ) → InTimed S left
  in_timed h None = tt
  in_timed h (Some n) = h

module _ (S : Cell → Type 0) (h : HasWaits S) where
  pub wakes : (t : Task) → Wakes S t
  wakes t = (h.wait _, h.left _, h.spot _)

  pub sleeps : (t : Task) (x : Wait) (left : Option ℕ) → Sleeps S t x left
  sleeps t x left = (wakes t, in_queue S h.waiters (Some x), in_timed S h.timed left)

  pub all_wake : (ts : List Task) → Each (Wakes S) ts
  all_wake [] = tt
  all_wake (t ∷ ts) = (wakes t, all_wake ts)

  closed : (tasks : List TaskRecord) (left : List (Option ℕ)) → Closed S tasks left
  closed tasks left = record { ready = λ n s. h.ready _; queue = λ n s. in_queue S h.waiters _; timed = λ n s. in_timed S h.timed _ }

some_wakes : (S : Cell → Type 0) → HasWaits S → (t : Option Task) → IfSome t (Wakes S)
some_wakes S h None = tt
some_wakes S h (Some t) = wakes S h t

pub some_spot : (S : Cell → Type 0) → ((n : ℕ) → S (SpotOf n)) → (t : Option Task) → IfSome t (λ u. S (SpotOf (at u)))
some_spot S h None = tt
some_spot S h (Some t) = h _

wakes_or : (S : Cell → Type 0) → HasWaits S → (c : Cell) → S c → (t : Option Task) → WakesOr S c t
wakes_or S h c here None = here
wakes_or S h c here (Some t) = wakes S h t

module _ {Q : Type 0} (k : Ordering Q) (S : Cell → Type 0) (w : World Q) (p : Proc) where
  waits : HasWaits S → (can : Bool) (X : Type 0) (x : Wait) (timeout : ℤ) → X → DoneOrWait S w p can X x timeout
  waits h can X x timeout here = (λ _. here, λ _. (λ _. tt, λ _. sleeps S h (caller w p) x (ticks_of timeout)))

  pub covers_task : HasTasks S → (c : TaskCall) → (c ≡ task_call.ExtTsk → CoversTask k S w p task_call.ExtTsk) → CoversTask k S w p c
  covers_task h (task_call.ActTsk id) e = (λ _. h.counts _, λ _. ((h.task _, h.waits.spot _), h.counts _, h.waits.wait _, h.waits.ready _))
  covers_task h (task_call.IactTsk id) e = (λ _. h.counts _, λ _. ((h.task _, h.waits.spot _), h.counts _, h.waits.wait _, h.waits.ready _))
  covers_task h (task_call.MactTsk id to) e = (λ _. h.counts _, λ _. ((h.task _, h.waits.spot _), h.counts _, h.waits.wait _, h.waits.ready _))
  covers_task h (task_call.ImactTsk id to) e = (λ _. h.counts _, λ _. ((h.task _, h.waits.spot _), h.counts _, h.waits.wait _, h.waits.ready _))
  covers_task h (task_call.CanAct id) e = h.counts _
  covers_task h (task_call.MigTsk id to) e = (λ _. tt, λ _. ((h.task _, h.waits.spot _), h.waits.ready _))
  covers_task h task_call.ExtTsk e = e refl
  covers_task h (task_call.TerTsk id) e = (wakes S h.waits (named_task w id), h.task _, h.counts _, h.waits.ready _)
  covers_task h (task_call.ChgPri id n) e = (h.task _, h.waits.spot _)
  covers_task h (task_call.GetPri id) e = tt
  covers_task h task_call.SlpTsk e = waits h.waits _ _ wait.Sleep forever (h.counts _)
  covers_task h (task_call.TslpTsk timeout) e = waits h.waits _ _ wait.Sleep timeout (h.counts _)
  covers_task h (task_call.WupTsk id) e = (λ _. wakes S h.waits (named_or_caller w p id), λ _. h.counts _)
  covers_task h (task_call.IwupTsk id) e = (λ _. wakes S h.waits (named_task w id), λ _. h.counts _)
  covers_task h (task_call.CanWup id) e = h.counts _
  covers_task h (task_call.RelWai id) e = wakes S h.waits (named_task w id)
  covers_task h (task_call.IrelWai id) e = wakes S h.waits (named_task w id)
  covers_task h (task_call.SusTsk id) e = (h.task _, h.waits.spot _)
  covers_task h (task_call.RsmTsk id) e = (h.task _, h.waits.spot _)
  covers_task h (task_call.DlyTsk n) e = sleeps S h.waits (caller w p) wait.Delay (ticks_of n)

-- The kinds.

tasks_wait : HasWaits (Within of_tasks)
tasks_wait = record { wait = λ n. refl; left = λ n. refl; spot = λ n. refl; ready = λ n. refl; waiters = λ x n. refl; timed = refl }

exit_waits : HasWaits (Within of_exit)
exit_waits = record { wait = λ n. refl; left = λ n. refl; spot = λ n. refl; ready = λ n. refl; waiters = λ x n. refl; timed = refl }

semaphores_wait : HasWaits (Within of_semaphores)
semaphores_wait = record { wait = λ n. refl; left = λ n. refl; spot = λ n. refl; ready = λ n. refl; waiters = λ x n. refl; timed = refl }

eventflags_wait : HasWaits (Within of_eventflags)
eventflags_wait = record { wait = λ n. refl; left = λ n. refl; spot = λ n. refl; ready = λ n. refl; waiters = λ x n. refl; timed = refl }

data_queues_wait : HasWaits (Within of_data_queues)
data_queues_wait = record { wait = λ n. refl; left = λ n. refl; spot = λ n. refl; ready = λ n. refl; waiters = λ x n. refl; timed = refl }

pools_wait : HasWaits (Within of_pools)
pools_wait = record { wait = λ n. refl; left = λ n. refl; spot = λ n. refl; ready = λ n. refl; waiters = λ x n. refl; timed = refl }

order_closed : (tasks : List TaskRecord) (left : List (Option ℕ)) → Closed (Within of_order) tasks left
order_closed tasks left = record {
  ready = λ n s. refl;
  queue = λ n s. in_queue (Within of_order) (λ x n. refl) _;
  timed = λ n s. in_timed (Within of_order) refl _;
}

-- S has the spot of no task
placeless : (f : Cell → Bool) → ((n : ℕ) → f (SpotOf n) ≡ false) → (tasks : List TaskRecord) (left : List (Option ℕ)) → Closed (Within f) tasks left
placeless f none tasks left = record {
  ready = λ n s. absurd (both_ways _ (none n) s);
  queue = λ n s. absurd (both_ways _ (none n) s);
  timed = λ n s. absurd (both_ways _ (none n) s);
}

pub closed_coarse : (g : Group) (tasks : List TaskRecord) (left : List (Option ℕ)) → Closed (Within (of_group g)) tasks left
closed_coarse OnExit = closed _ exit_waits
closed_coarse OnTasks = closed _ tasks_wait
closed_coarse OnSemaphores = closed _ semaphores_wait
closed_coarse OnEventflags = closed _ eventflags_wait
closed_coarse OnPools = closed _ pools_wait
closed_coarse OnDataQueues = closed _ data_queues_wait
closed_coarse OnCyclics = placeless of_cyclics (λ n. refl)
closed_coarse OnAlarms = placeless of_alarms (λ n. refl)
closed_coarse OnOrder = order_closed
closed_coarse OnProcessors = placeless of_processors (λ n. refl)
closed_coarse OnLocks = placeless of_locks (λ n. refl)
closed_coarse OnReturn = placeless of_handlers (λ n. refl)

waits_wait : HasWaits (Within of_waits)
waits_wait = record { wait = λ n. refl; left = λ n. refl; spot = λ n. refl; ready = λ n. refl; waiters = λ x n. refl; timed = refl }

pub closed_waits : (tasks : List TaskRecord) (left : List (Option ℕ)) → Closed (Within of_waits) tasks left
closed_waits = closed _ waits_wait

pub wakes_waits : (t : Task) → Wakes (Within of_waits) t
wakes_waits = wakes _ waits_wait

pub sleeps_waits : (t : Task) (x : Wait) (left : Option ℕ) → Sleeps (Within of_waits) t x left
sleeps_waits = sleeps _ waits_wait

tick_waits : HasWaits (Within of_tick)
tick_waits = record { wait = λ n. refl; left = λ n. refl; spot = λ n. refl; ready = λ n. refl; waiters = λ x n. refl; timed = refl }

pub closed_tick : (tasks : List TaskRecord) (left : List (Option ℕ)) → Closed (Within of_tick) tasks left
closed_tick = closed _ tick_waits

module _ {Q : Type 0} (k : Ordering Q) (w : World Q) (p : Proc) where
  pub covers_tick : CoversTick k (Within of_tick) w p
  covers_tick = record {
    left = λ n e. refl;
    cyclics = λ n e. refl;
    alarms = λ n e. refl;
    due = refl;
    cyclics_due = λ n e. refl;
    alarms_due = λ n e. refl;
    released = all_wake _ tick_waits _;
  }

  tasks_covered : (c : TaskCall) → (c ≡ task_call.ExtTsk → ⊥) → CoversTask k (Within of_tasks) w p c
  tasks_covered c none = covers_task k (Within of_tasks) w p (record { waits = tasks_wait; task = λ n. refl; counts = λ n. refl }) c (λ e. absurd (none e))

  signals : (s : Object) → Signals k (Within of_semaphores) w p s
  signals s = wakes_or _ semaphores_wait (OfSemaphore (there s)) refl (first (queue k w kind.Semaphore s))

  takes_unit : (s : Object) (timeout : ℤ) → TakesUnit k (Within of_semaphores) w p s timeout
  takes_unit s timeout = waits k _ w p semaphores_wait _ _ (wait.Semaphore s) timeout refl

  sets : (f : Object) → Sets k (Within of_eventflags) w p f
  sets f = (refl, all_wake _ eventflags_wait (queue k w kind.Eventflag f))

  takes_pattern : (f : Object) (x : ℕ) (m : Mode) (timeout : ℤ) → TakesPattern k (Within of_eventflags) w p f x m timeout
  takes_pattern f x m timeout = waits k _ w p eventflags_wait _ _ (wait.Eventflag f x m) timeout refl

  sends : (d : Object) → Sends k (Within of_data_queues) w p d
  sends d = wakes_or _ data_queues_wait (OfDataQueue (there d)) refl (receiver k w d)

  sends_or_waits : (d : Object) (v timeout : ℤ) → SendsOrWaits k (Within of_data_queues) w p d v timeout
  sends_or_waits d v timeout = waits k _ w p data_queues_wait _ _ (wait.Send d v) timeout (sends d)

  receives : (d : Object) → Receives k (Within of_data_queues) w p d
  receives d = (refl, some_wakes _ data_queues_wait (sender k w d))

  receives_or_waits : (d : Object) (timeout : ℤ) → ReceivesOrWaits k (Within of_data_queues) w p d timeout
  receives_or_waits d timeout = waits k _ w p data_queues_wait _ _ (wait.Receive d) timeout (receives d)

  takes_block : (m : Object) (timeout : ℤ) → TakesBlock k (Within of_pools) w p m timeout
  takes_block m timeout = waits k _ w p pools_wait _ _ (wait.Pool m) timeout refl

  rotates : (q : Proc) (n : ℤ) → Rotates k (Within of_order) w p q n
  rotates q n = some_spot (Within of_order) (λ n. refl) (rotated k w p q n)

  pub covers_coarse : (c : Call) → CoversCall k (Within (may_change c)) w p c
  covers_coarse (calls.Task task_call.ExtTsk) = ((wakes _ exit_waits (caller w p), refl, refl, refl), (refl, λ n e. refl))
  covers_coarse (calls.Task c) = tasks_covered c (λ e. cc)
  covers_coarse (calls.Sync (sync.SigSem id)) = signals (semaphore_named w id)
  covers_coarse (calls.Sync (sync.IsigSem id)) = signals (semaphore_named w id)
  covers_coarse (calls.Sync (sync.WaiSem id)) = takes_unit (semaphore_named w id) forever
  covers_coarse (calls.Sync (sync.TwaiSem id timeout)) = takes_unit (semaphore_named w id) timeout
  covers_coarse (calls.Sync (sync.PolSem id)) = refl
  covers_coarse (calls.Sync (sync.SetFlg id x)) = sets (eventflag_named w id)
  covers_coarse (calls.Sync (sync.IsetFlg id x)) = sets (eventflag_named w id)
  covers_coarse (calls.Sync (sync.ClrFlg id x)) = refl
  covers_coarse (calls.Sync (sync.WaiFlg id x m)) = takes_pattern (eventflag_named w id) x m forever
  covers_coarse (calls.Sync (sync.TwaiFlg id x m timeout)) = takes_pattern (eventflag_named w id) x m timeout
  covers_coarse (calls.Sync (sync.PolFlg id x m)) = refl
  covers_coarse (calls.Buffer (buffer.SndDtq id v)) = sends_or_waits (data_queue_named w id) v forever
  covers_coarse (calls.Buffer (buffer.TsndDtq id v timeout)) = sends_or_waits (data_queue_named w id) v timeout
  covers_coarse (calls.Buffer (buffer.PsndDtq id v)) = sends (data_queue_named w id)
  covers_coarse (calls.Buffer (buffer.IpsndDtq id v)) = sends (data_queue_named w id)
  covers_coarse (calls.Buffer (buffer.FsndDtq id v)) = (λ _. sends (data_queue_named w id), λ _. refl)
  covers_coarse (calls.Buffer (buffer.IfsndDtq id v)) = (λ _. sends (data_queue_named w id), λ _. refl)
  covers_coarse (calls.Buffer (buffer.RcvDtq id)) = receives_or_waits (data_queue_named w id) forever
  covers_coarse (calls.Buffer (buffer.TrcvDtq id timeout)) = receives_or_waits (data_queue_named w id) timeout
  covers_coarse (calls.Buffer (buffer.PrcvDtq id)) = receives (data_queue_named w id)
  covers_coarse (calls.Buffer (buffer.GetMpf id)) = takes_block (pool_named w id) forever
  covers_coarse (calls.Buffer (buffer.TgetMpf id timeout)) = takes_block (pool_named w id) timeout
  covers_coarse (calls.Buffer (buffer.PgetMpf id)) = refl
  covers_coarse (calls.Buffer (buffer.RelMpf id b)) = wakes_or _ pools_wait (OfPool (there (pool_named w id))) refl (first (queue k w kind.Pool (pool_named w id)))
  covers_coarse (calls.Time (time.StaCyc id)) = refl
  covers_coarse (calls.Time c) = refl
  covers_coarse (calls.System (system.RotRdq n)) = rotates p n
  covers_coarse (calls.System (system.IrotRdq n)) = rotates p n
  covers_coarse (calls.System (system.MrotRdq n q)) = rotates (unwrap_or (processor_named w q) p) n
  covers_coarse (calls.System (system.ImrotRdq n q)) = rotates (unwrap_or (processor_named w q) p) n
  covers_coarse (calls.System system.LocCpu) = refl
  covers_coarse (calls.System system.IlocCpu) = refl
  covers_coarse (calls.System system.UnlCpu) = refl
  covers_coarse (calls.System system.IunlCpu) = refl
  covers_coarse (calls.System system.DisDsp) = refl
  covers_coarse (calls.System system.EnaDsp) = refl
  covers_coarse (calls.System c) = tt
  covers_coarse (calls.Spin (spin.LocSpn id)) = (λ _. tt, λ _. (refl, refl))
  covers_coarse (calls.Spin (spin.IlocSpn id)) = (λ _. tt, λ _. (refl, refl))
  covers_coarse (calls.Spin (spin.TrySpn id)) = (refl, refl)
  covers_coarse (calls.Spin (spin.ItrySpn id)) = (refl, refl)
  covers_coarse (calls.Spin (spin.UnlSpn id)) = (refl, λ n e. refl)
  covers_coarse (calls.Spin (spin.IunlSpn id)) = (refl, λ n e. refl)
  covers_coarse calls.RetHdr = ((refl, λ n e. refl), refl)
