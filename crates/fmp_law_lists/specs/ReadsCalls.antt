-- What S must have for each call and for a tick, if their processor has its own cells there: every cell that they read.
use Rattle.std.specs.Prelude.{ℕ, ℤ, unwrap_or, Option, Some, IfSome}
use Rattle.fmp_codes.specs.declared.numbers.Proc.{Proc}
use Rattle.fmp_codes.specs.declared.numbers.Task.{Task}
use Rattle.fmp_codes.specs.declared.calls.Call.{Call}
use Rattle.fmp_codes.specs.declared.calls.Call.TheVariants as calls
use Rattle.fmp_codes.specs.declared.calls.TimeCall.{TimeCall}
use Rattle.fmp_codes.specs.declared.calls.TimeCall.TheVariants as time
use Rattle.fmp_codes.specs.declared.calls.SystemCall.{SystemCall}
use Rattle.fmp_codes.specs.declared.calls.SystemCall.TheVariants as system
use Rattle.fmp_codes.specs.declared.calls.SpinCall.{SpinCall}
use Rattle.fmp_codes.specs.declared.calls.SpinCall.TheVariants as spin
use Rattle.fmp_codes.specs.declared.calls.TaskCall.{TaskCall}
use Rattle.fmp_codes.specs.declared.calls.TaskCall.TheVariants as task_call
use Rattle.fmp_rules.specs.declared.machine.Wait.{Wait}
use Rattle.fmp_rules.specs.declared.machine.Wait.TheVariants as wait
use Rattle.fmp_rules.specs.World.{World, task}
use Rattle.fmp_rules.specs.Arguments.{caller, processor_named}
use Rattle.fmp_rules.specs.Tick.{counted_down, tasks_expired}
use Rattle.fmp_rules.specs.Ordering.{Ordering}
use Rattle.fmp_law_footprint.specs.Cells.{Cell, OfTask, CountsOf, LeftOf, ReadyOn, TimedWaits, OfSemaphore, OfEventflag, OfPool, OfCyclic, OfAlarm, OfLock, at, there, on}
use Rattle.fmp_law_footprint.specs.Words.{Each}
use Rattle.fmp_law_footprint.specs.Named.{named_or_caller, named_task, cyclic_named, alarm_named, lock_named, rotated}
use Rattle.fmp_law_lists.specs.ReadsObjects.{Knows, ReadsSync, ReadsBuffer}

module _ (S : Cell → Type 0) where
  -- a task, with what is counted for it
  abbrev pub KnowsAll : Task → Type 0
  KnowsAll t = Knows S t × S (CountsOf (at t))

  -- the object that has the queue of a wait, and tells its order
  abbrev pub KnowsObject : Option Wait → Type 0
  KnowsObject (Some (wait.Semaphore s)) = S (OfSemaphore (there s))
  KnowsObject (Some (wait.Eventflag f x m)) = S (OfEventflag (there f))
  KnowsObject (Some (wait.Pool m)) = S (OfPool (there m))
  KnowsObject other = Unit {0}

module _ {Q : Type 0} (k : Ordering Q) (S : Cell → Type 0) (w : World Q) (p : Proc) where
  -- all that tells where a task stands when its priority changes
  abbrev pub KnowsRank : Task → Type 0
  KnowsRank t = KnowsAll S t × S (LeftOf (at t)) × KnowsObject S (task w t).wait

  abbrev pub ReadsTask : TaskCall → Type 0
  ReadsTask (task_call.ActTsk id) = KnowsAll S (named_or_caller w p id)
  ReadsTask (task_call.IactTsk id) = KnowsAll S (named_task w id)
  ReadsTask (task_call.MactTsk id to) = KnowsAll S (named_or_caller w p id)
  ReadsTask (task_call.ImactTsk id to) = KnowsAll S (named_task w id)
  ReadsTask (task_call.CanAct id) = KnowsAll S (named_or_caller w p id)
  ReadsTask (task_call.MigTsk id to) = KnowsAll S (named_or_caller w p id)
  ReadsTask task_call.ExtTsk = KnowsAll S (caller w p)
  ReadsTask (task_call.TerTsk id) = KnowsAll S (named_task w id)
  ReadsTask (task_call.ChgPri id n) = KnowsRank (named_or_caller w p id)
  ReadsTask (task_call.GetPri id) = KnowsAll S (named_or_caller w p id)
  ReadsTask task_call.SlpTsk = KnowsAll S (caller w p)
  ReadsTask (task_call.TslpTsk timeout) = KnowsAll S (caller w p)
  ReadsTask (task_call.WupTsk id) = KnowsAll S (named_or_caller w p id)
  ReadsTask (task_call.IwupTsk id) = KnowsAll S (named_task w id)
  ReadsTask (task_call.CanWup id) = KnowsAll S (named_or_caller w p id)
  ReadsTask (task_call.RelWai id) = KnowsAll S (named_task w id)
  ReadsTask (task_call.IrelWai id) = KnowsAll S (named_task w id)
  ReadsTask (task_call.SusTsk id) = KnowsAll S (named_or_caller w p id)
  ReadsTask (task_call.RsmTsk id) = KnowsAll S (named_task w id)
  ReadsTask (task_call.DlyTsk n) = KnowsAll S (caller w p)

  abbrev pub ReadsTime : TimeCall → Type 0
  ReadsTime (time.StaCyc id) = S (OfCyclic (there (cyclic_named w id)))
  ReadsTime (time.MstaCyc id to) = S (OfCyclic (there (cyclic_named w id)))
  ReadsTime (time.StpCyc id) = S (OfCyclic (there (cyclic_named w id)))
  ReadsTime (time.StaAlm id n) = S (OfAlarm (there (alarm_named w id)))
  ReadsTime (time.IstaAlm id n) = S (OfAlarm (there (alarm_named w id)))
  ReadsTime (time.MstaAlm id n to) = S (OfAlarm (there (alarm_named w id)))
  ReadsTime (time.ImstaAlm id n to) = S (OfAlarm (there (alarm_named w id)))
  ReadsTime (time.StpAlm id) = S (OfAlarm (there (alarm_named w id)))
  ReadsTime (time.IstpAlm id) = S (OfAlarm (there (alarm_named w id)))

  -- the ready tasks of q, and the first of a priority, which may be that of the caller
  abbrev pub ReadsReady : Proc → ℤ → Type 0
  ReadsReady q n = Knows S (caller w p) × S (ReadyOn (on q)) × IfSome (rotated k w p q n) (Knows S)

  -- unl_cpu is refused where the processor holds any spin lock
  abbrev pub ReadsSystem : SystemCall → Type 0
  ReadsSystem (system.RotRdq n) = ReadsReady p n
  ReadsSystem (system.IrotRdq n) = ReadsReady p n
  ReadsSystem (system.MrotRdq n q) = ReadsReady (unwrap_or (processor_named w q) p) n
  ReadsSystem (system.ImrotRdq n q) = ReadsReady (unwrap_or (processor_named w q) p) n
  ReadsSystem system.UnlCpu = (n : ℕ) → S (OfLock n)
  ReadsSystem system.IunlCpu = (n : ℕ) → S (OfLock n)
  ReadsSystem other = Unit {0}

  abbrev pub ReadsSpin : SpinCall → Type 0
  ReadsSpin (spin.LocSpn id) = S (OfLock (there (lock_named w id)))
  ReadsSpin (spin.IlocSpn id) = S (OfLock (there (lock_named w id)))
  ReadsSpin (spin.TrySpn id) = S (OfLock (there (lock_named w id)))
  ReadsSpin (spin.ItrySpn id) = S (OfLock (there (lock_named w id)))
  ReadsSpin (spin.UnlSpn id) = S (OfLock (there (lock_named w id)))
  ReadsSpin (spin.IunlSpn id) = S (OfLock (there (lock_named w id)))

  abbrev pub ReadsCall : Call → Type 0
  ReadsCall (calls.Task c) = ReadsTask c
  ReadsCall (calls.Sync c) = ReadsSync k S w p c
  ReadsCall (calls.Buffer c) = ReadsBuffer k S w p c
  ReadsCall (calls.Time c) = ReadsTime c
  ReadsCall (calls.System c) = ReadsSystem c
  ReadsCall (calls.Spin c) = ReadsSpin c
  ReadsCall calls.RetHdr = Unit {0}

  -- Where S has the ticks left of a wait, it has the task, which tells whether they count there; and it has the timed waits, and the tasks whose time is over.
  pub record ReadsTick : Type 0 where
    pub tasks : (n : ℕ) → S (LeftOf n) → S (OfTask n)
    pub timed : S TimedWaits
    pub over : Each (Knows S) (tasks_expired (counted_down w p).waits_left (k.timed (counted_down w p).order (counted_down w p).waits_left))
