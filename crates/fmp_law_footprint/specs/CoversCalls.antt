-- What S must have for each call, if the call is accepted: every cell that the call may change.
use Rattle.std.specs.Prelude.{ℤ, is_some, nat_lt, unwrap_or, IfSome}
use Rattle.fmp_codes.specs.declared.numbers.Object.{Object}
use Rattle.fmp_codes.specs.declared.numbers.Proc.{Proc}
use Rattle.fmp_codes.specs.declared.numbers.Task.{Task}
use Rattle.fmp_codes.specs.declared.calls.Call.{Call}
use Rattle.fmp_codes.specs.declared.calls.Call.TheVariants as calls
use Rattle.fmp_codes.specs.declared.calls.TaskCall.{TaskCall}
use Rattle.fmp_codes.specs.declared.calls.TaskCall.TheVariants as task_call
use Rattle.fmp_codes.specs.declared.calls.TimeCall.{TimeCall}
use Rattle.fmp_codes.specs.declared.calls.TimeCall.TheVariants as time
use Rattle.fmp_codes.specs.declared.calls.SystemCall.{SystemCall}
use Rattle.fmp_codes.specs.declared.calls.SystemCall.TheVariants as system
use Rattle.fmp_codes.specs.declared.calls.SpinCall.{SpinCall}
use Rattle.fmp_codes.specs.declared.calls.SpinCall.TheVariants as spin
use Rattle.fmp_rules.specs.declared.machine.Wait.TheVariants as wait
use Rattle.fmp_rules.specs.World.{World, task}
use Rattle.fmp_rules.specs.Objects.{holder}
use Rattle.fmp_rules.specs.Ordering.{Ordering}
use Rattle.fmp_rules.specs.Arguments.{task_named, task_or_caller, processor_named, caller, ticks_of, forever}
use Rattle.fmp_rules.specs.TaskCalls.{is_sleep}
use Rattle.fmp_law_footprint.specs.Cells.{Cell, CountsOf, SpotOf, OfProcessor, DueOn, OfCyclic, OfAlarm, at, there, on}
use Rattle.fmp_law_footprint.specs.Words.{Either, Wakes, Sleeps, Changes, Takes, Activates, Ends, Migrates, Unlocks, DoneOrWait}
use Rattle.fmp_law_footprint.specs.Named.{named_or_caller, named_task, destination, cyclic_named, alarm_named, lock_named, rotated}
use Rattle.fmp_law_footprint.specs.CoversObjects.{CoversSync, CoversBuffer}

module _ {Q : Type 0} (k : Ordering Q) (S : Cell → Type 0) (w : World Q) (p : Proc) where
  -- a queued wakeup is taken, or the caller sleeps
  abbrev pub TakesWakeup : ℤ → Type 0
  TakesWakeup timeout = DoneOrWait S w p (nat_lt 0 (task w (caller w p)).wakeups) (S (CountsOf (at (caller w p)))) wait.Sleep timeout

  -- a task that sleeps is released, and of another one the wakeup is queued
  abbrev pub WakesUp : Task → Type 0
  WakesUp t = Either (is_sleep (task w t).wait) (Wakes S t) (S (CountsOf (at t)))

  abbrev pub CoversTask : TaskCall → Type 0
  CoversTask (task_call.ActTsk id) = Activates S w (named_or_caller w p id) (task w (named_or_caller w p id)).assigned
  CoversTask (task_call.IactTsk id) = Activates S w (named_task w id) (task w (named_task w id)).assigned
  CoversTask (task_call.MactTsk id to) = Activates S w (named_or_caller w p id) (destination w (task_or_caller w p id) to)
  CoversTask (task_call.ImactTsk id to) = Activates S w (named_task w id) (destination w (task_named w id) to)
  CoversTask (task_call.CanAct id) = S (CountsOf (at (named_or_caller w p id)))
  CoversTask (task_call.MigTsk id to) = Migrates S w (named_or_caller w p id) (destination w (task_or_caller w p id) to)
  CoversTask task_call.ExtTsk = Ends S w (caller w p) × Unlocks S w p
  CoversTask (task_call.TerTsk id) = Ends S w (named_task w id)
  CoversTask (task_call.ChgPri id n) = Changes S (named_or_caller w p id)
  CoversTask (task_call.GetPri id) = Unit {0}
  CoversTask task_call.SlpTsk = TakesWakeup forever
  CoversTask (task_call.TslpTsk timeout) = TakesWakeup timeout
  CoversTask (task_call.WupTsk id) = WakesUp (named_or_caller w p id)
  CoversTask (task_call.IwupTsk id) = WakesUp (named_task w id)
  CoversTask (task_call.CanWup id) = S (CountsOf (at (named_or_caller w p id)))
  CoversTask (task_call.RelWai id) = Wakes S (named_task w id)
  CoversTask (task_call.IrelWai id) = Wakes S (named_task w id)
  CoversTask (task_call.SusTsk id) = Changes S (named_or_caller w p id)
  CoversTask (task_call.RsmTsk id) = Changes S (named_task w id)
  CoversTask (task_call.DlyTsk n) = Sleeps S (caller w p) wait.Delay (ticks_of n)

  abbrev pub CoversTime : TimeCall → Type 0
  CoversTime (time.StaCyc id) = S (OfCyclic (there (cyclic_named w id)))
  CoversTime (time.MstaCyc id to) = S (OfCyclic (there (cyclic_named w id)))
  CoversTime (time.StpCyc id) = S (OfCyclic (there (cyclic_named w id)))
  CoversTime (time.StaAlm id n) = S (OfAlarm (there (alarm_named w id)))
  CoversTime (time.IstaAlm id n) = S (OfAlarm (there (alarm_named w id)))
  CoversTime (time.MstaAlm id n to) = S (OfAlarm (there (alarm_named w id)))
  CoversTime (time.ImstaAlm id n to) = S (OfAlarm (there (alarm_named w id)))
  CoversTime (time.StpAlm id) = S (OfAlarm (there (alarm_named w id)))
  CoversTime (time.IstpAlm id) = S (OfAlarm (there (alarm_named w id)))

  -- the first ready task of a priority on q goes last
  abbrev pub Rotates : Proc → ℤ → Type 0
  Rotates q n = IfSome (rotated k w p q n) (λ t. S (SpotOf (at t)))

  abbrev pub CoversSystem : SystemCall → Type 0
  CoversSystem (system.RotRdq n) = Rotates p n
  CoversSystem (system.IrotRdq n) = Rotates p n
  CoversSystem (system.MrotRdq n q) = Rotates (unwrap_or (processor_named w q) p) n
  CoversSystem (system.ImrotRdq n q) = Rotates (unwrap_or (processor_named w q) p) n
  CoversSystem system.LocCpu = S (OfProcessor (on p))
  CoversSystem system.IlocCpu = S (OfProcessor (on p))
  CoversSystem system.UnlCpu = S (OfProcessor (on p))
  CoversSystem system.IunlCpu = S (OfProcessor (on p))
  CoversSystem system.DisDsp = S (OfProcessor (on p))
  CoversSystem system.EnaDsp = S (OfProcessor (on p))
  CoversSystem other = Unit {0}

  -- a free lock is taken
  abbrev pub Tries : Object → Type 0
  Tries l = Either (is_some (holder w l)) (Unit {0}) (Takes S p l)

  abbrev pub CoversSpin : SpinCall → Type 0
  CoversSpin (spin.LocSpn id) = Tries (lock_named w id)
  CoversSpin (spin.IlocSpn id) = Tries (lock_named w id)
  CoversSpin (spin.TrySpn id) = Takes S p (lock_named w id)
  CoversSpin (spin.ItrySpn id) = Takes S p (lock_named w id)
  CoversSpin (spin.UnlSpn id) = Unlocks S w p
  CoversSpin (spin.IunlSpn id) = Unlocks S w p

  abbrev pub CoversCall : Call → Type 0
  CoversCall (calls.Task c) = CoversTask c
  CoversCall (calls.Sync c) = CoversSync k S w p c
  CoversCall (calls.Buffer c) = CoversBuffer k S w p c
  CoversCall (calls.Time c) = CoversTime c
  CoversCall (calls.System c) = CoversSystem c
  CoversCall (calls.Spin c) = CoversSpin c
  CoversCall calls.RetHdr = Unlocks S w p × S (DueOn (on p))
