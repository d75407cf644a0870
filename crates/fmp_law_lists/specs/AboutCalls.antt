-- What each call of a processor, and a tick, is about: the tasks and objects that it names or serves, and the processors to which tasks may go.
use Rattle.std.specs.Prelude.{ℤ, unwrap_or, true, [], ◌∷◌, is_some}
use Rattle.fmp_codes.specs.declared.numbers.Proc.{Proc}
use Rattle.fmp_codes.specs.declared.numbers.Object.{Object}
use Rattle.fmp_codes.specs.declared.numbers.Task.{Task}
use Rattle.fmp_codes.specs.declared.calls.Call.{Call}
use Rattle.fmp_codes.specs.declared.calls.Call.TheVariants as calls
use Rattle.fmp_codes.specs.declared.calls.TaskCall.{TaskCall}
use Rattle.fmp_codes.specs.declared.calls.TaskCall.TheVariants as task_call
use Rattle.fmp_codes.specs.declared.calls.TimeCall.{TimeCall}
use Rattle.fmp_codes.specs.declared.calls.TimeCall.TheVariants as time
use Rattle.fmp_codes.specs.declared.calls.SystemCall.{SystemCall}
use Rattle.fmp_codes.specs.declared.calls.SystemCall.TheVariants as system
use Rattle.fmp_codes.specs.declared.calls.SpinCall.{SpinCall}
use Rattle.fmp_codes.specs.declared.calls.SpinCall.TheVariants as spin
use Rattle.fmp_rules.specs.Tasks.{ended}
use Rattle.fmp_rules.specs.Tick.{counted_down, tasks_expired}
use Rattle.fmp_rules.specs.World.{World, task}
use Rattle.fmp_rules.specs.Arguments.{caller, forever, processor_named, task_named, task_or_caller, ticks_of}
use Rattle.fmp_rules.specs.Ordering.{Ordering}
use Rattle.fmp_law_footprint.specs.Cells.{there, on}
use Rattle.fmp_law_footprint.specs.Named.{named_or_caller, named_task, destination, cyclic_named, alarm_named, lock_named, rotated}
use Rattle.fmp_law_lists.specs.About.{About, nothing}
use Rattle.fmp_law_lists.specs.AboutObjects.{these, about_sync, about_buffer}

abbrev pub about_task : Task → About
about_task t = record nothing { tasks = t ∷ [] }

-- a task that may go to a processor
abbrev pub about_moving : Task → Proc → About
about_moving t q = record nothing { tasks = t ∷ []; processors = on q ∷ [] }

abbrev pub about_cyclic : Object → About
about_cyclic c = record nothing { cyclics = there c ∷ [] }

abbrev pub about_alarm : Object → About
about_alarm a = record nothing { alarms = there a ∷ [] }

abbrev pub about_lock : Object → About
about_lock l = record nothing { locks = there l ∷ [] }

-- a lock is given back, with all that the processor holds
abbrev pub about_freeing : Object → About
about_freeing l = record nothing { locks = there l ∷ []; frees = true }

-- all that the processor holds is freed
abbrev pub about_returning : About
about_returning = record nothing { frees = true }

-- it is asked whether the processor holds any lock
abbrev pub about_locks : About
about_locks = record nothing { all_locks = true }

module _ {Q : Type 0} (k : Ordering Q) (w : World Q) (p : Proc) where
  -- the caller may sleep
  abbrev pub about_sleeping : ℤ → About
  about_sleeping timeout = record nothing { tasks = caller w p ∷ []; timed = is_some (ticks_of timeout) }

  -- the caller ends, and may start again
  abbrev pub about_exit : About
  about_exit = record nothing { tasks = caller w p ∷ []; processors = on (ended (task w (caller w p))).assigned ∷ []; frees = true }

  abbrev pub about_tasks : TaskCall → About
  about_tasks (task_call.ActTsk id) = about_task (named_or_caller w p id)
  about_tasks (task_call.IactTsk id) = about_task (named_task w id)
  about_tasks (task_call.MactTsk id to) = about_moving (named_or_caller w p id) (destination w (task_or_caller w p id) to)
  about_tasks (task_call.ImactTsk id to) = about_moving (named_task w id) (destination w (task_named w id) to)
  about_tasks (task_call.CanAct id) = about_task (named_or_caller w p id)
  about_tasks (task_call.MigTsk id to) = about_moving (named_or_caller w p id) (destination w (task_or_caller w p id) to)
  about_tasks task_call.ExtTsk = about_exit
  about_tasks (task_call.TerTsk id) = about_moving (named_task w id) (ended (task w (named_task w id))).assigned
  about_tasks (task_call.ChgPri id n) = about_task (named_or_caller w p id)
  about_tasks (task_call.GetPri id) = about_task (named_or_caller w p id)
  about_tasks task_call.SlpTsk = about_sleeping forever
  about_tasks (task_call.TslpTsk timeout) = about_sleeping timeout
  about_tasks (task_call.WupTsk id) = about_task (named_or_caller w p id)
  about_tasks (task_call.IwupTsk id) = about_task (named_task w id)
  about_tasks (task_call.CanWup id) = about_task (named_or_caller w p id)
  about_tasks (task_call.RelWai id) = about_task (named_task w id)
  about_tasks (task_call.IrelWai id) = about_task (named_task w id)
  about_tasks (task_call.SusTsk id) = about_task (named_or_caller w p id)
  about_tasks (task_call.RsmTsk id) = about_task (named_task w id)
  about_tasks (task_call.DlyTsk n) = about_sleeping n

  abbrev pub about_time : TimeCall → About
  about_time (time.StaCyc id) = about_cyclic (cyclic_named w id)
  about_time (time.MstaCyc id to) = about_cyclic (cyclic_named w id)
  about_time (time.StpCyc id) = about_cyclic (cyclic_named w id)
  about_time (time.StaAlm id n) = about_alarm (alarm_named w id)
  about_time (time.IstaAlm id n) = about_alarm (alarm_named w id)
  about_time (time.MstaAlm id n to) = about_alarm (alarm_named w id)
  about_time (time.ImstaAlm id n to) = about_alarm (alarm_named w id)
  about_time (time.StpAlm id) = about_alarm (alarm_named w id)
  about_time (time.IstpAlm id) = about_alarm (alarm_named w id)

  -- the first of a priority on q goes last
  abbrev pub about_rotation : Proc → ℤ → About
  about_rotation q n = record nothing { tasks = caller w p ∷ these (rotated k w p q n); processors = on q ∷ [] }

  abbrev pub about_system : SystemCall → About
  about_system (system.RotRdq n) = about_rotation p n
  about_system (system.IrotRdq n) = about_rotation p n
  about_system (system.MrotRdq n q) = about_rotation (unwrap_or (processor_named w q) p) n
  about_system (system.ImrotRdq n q) = about_rotation (unwrap_or (processor_named w q) p) n
  about_system system.UnlCpu = about_locks
  about_system system.IunlCpu = about_locks
  about_system other = nothing

  abbrev pub about_spin : SpinCall → About
  about_spin (spin.UnlSpn id) = about_freeing (lock_named w id)
  about_spin (spin.IunlSpn id) = about_freeing (lock_named w id)
  about_spin (spin.LocSpn id) = about_lock (lock_named w id)
  about_spin (spin.IlocSpn id) = about_lock (lock_named w id)
  about_spin (spin.TrySpn id) = about_lock (lock_named w id)
  about_spin (spin.ItrySpn id) = about_lock (lock_named w id)

  abbrev pub about_call : Call → About
  about_call (calls.Task c) = about_tasks c
  about_call (calls.Sync c) = about_sync k w p c
  about_call (calls.Buffer c) = about_buffer k w p c
  about_call (calls.Time c) = about_time c
  about_call (calls.System c) = about_system c
  about_call (calls.Spin c) = about_spin c
  about_call calls.RetHdr = about_returning

  -- the tasks whose time is over; what else a tick counts depends on the state (`is_about`)
  abbrev pub about_tick : About
  about_tick =
      let u = counted_down w p in
      record nothing { tasks = tasks_expired u.waits_left (k.timed u.order u.waits_left); timed = true; ticks = true }
