-- The errors on the state of each call, in their order, each with what the records before the call must say where it applies.
use Rattle.std.specs.Prelude.{ℤ, pos, Bool, not, ◌&&◌, ◌||◌, ◌==◌, nat_le, Option, List, [], ◌∷◌, is_some}
use Rattle.fmp_codes.specs.declared.numbers.Proc.{Proc}
use Rattle.fmp_codes.specs.declared.numbers.Task.{Task}
use Rattle.fmp_codes.specs.declared.numbers.Object.{Object}
use Rattle.fmp_codes.specs.declared.calls.Call.{Call}
use Rattle.fmp_codes.specs.declared.calls.Call.TheVariants as call
use Rattle.fmp_codes.specs.declared.calls.TaskCall.{TaskCall}
use Rattle.fmp_codes.specs.declared.calls.TaskCall.TheVariants as task
use Rattle.fmp_codes.specs.declared.calls.SyncCall.{SyncCall}
use Rattle.fmp_codes.specs.declared.calls.SyncCall.TheVariants as sync
use Rattle.fmp_codes.specs.declared.calls.BufferCall.{BufferCall}
use Rattle.fmp_codes.specs.declared.calls.BufferCall.TheVariants as buffer
use Rattle.fmp_codes.specs.declared.calls.SystemCall.{SystemCall}
use Rattle.fmp_codes.specs.declared.calls.SystemCall.TheVariants as system
use Rattle.fmp_codes.specs.declared.calls.SpinCall.{SpinCall}
use Rattle.fmp_codes.specs.declared.calls.SpinCall.TheVariants as spin
use Rattle.fmp_codes.specs.declared.codes.Code.{Code}
use Rattle.fmp_codes.specs.declared.codes.Code.TheVariants as code
use Rattle.fmp_codes.specs.declared.records.Runner.{Runner}
use Rattle.fmp_setup.specs.Setup.{Setup}
use Rattle.fmp_law_records.specs.Accepting.{TaskReported}
use Rattle.fmp_law_records.specs.Locks.{is_holder}
use Rattle.fmp_law_records.specs.Refusals.Meanings.{is_polling, task_of, task_meant, object_of}
use Rattle.fmp_law_records.specs.Refusals.Misplaced.{is_caller_named}
use Rattle.fmp_law_records.specs.Refusals.Found.{FoundReported, semaphore_setup, data_queue_setup, for_wakeup, for_unit, waits_so, somebody_waits}
use Rattle.fmp_law_records.specs.Refusals.Found.{is_used, has_bits, takes_value, gives_value, has_block, holds_lock}

abbrev pub Errors : Type 0
Errors = List (Bool × Code)

module _ (c : Setup) (x : FoundReported) (p : Proc) (r : Option Runner) where
  -- Of a task.

  abbrev pub is_activated : TaskReported → Bool
  is_activated t = t.life.active && is_some t.life.queued

  abbrev pub is_elsewhere : TaskReported → Bool
  is_elsewhere t = not (t.life.at.number == p.number)

  -- of a wakeup: the task is dormant; or it does not sleep, and as many wakeups are queued for it as there may be
  abbrev pub wakeup_errors : Task → Errors
  wakeup_errors t =
      (not (x.task t).life.active, code.ObjectState)
      ∷ (not (waits_so for_wakeup (x.task t).wait) && nat_le c.limits.wakeups (x.wakeups t), code.QueueOverflow) ∷ []

  abbrev pub task_errors : TaskCall → Errors
  task_errors (task.ActTsk id) = (is_activated (x.task (task_meant r id)), code.QueueOverflow) ∷ []
  task_errors (task.IactTsk id) = (is_activated (x.task (task_of id)), code.QueueOverflow) ∷ []
  task_errors (task.MactTsk id to) = (is_activated (x.task (task_meant r id)), code.QueueOverflow) ∷ []
  task_errors (task.ImactTsk id to) = (is_activated (x.task (task_of id)), code.QueueOverflow) ∷ []
  task_errors (task.MigTsk id to) = (is_elsewhere (x.task (task_meant r id)), code.ObjectState) ∷ []
  task_errors (task.TerTsk id) =
      (is_caller_named r id, code.IllegalUse) ∷ (not (x.task (task_of id)).life.active || is_elsewhere (x.task (task_of id)), code.ObjectState) ∷ []
  task_errors (task.ChgPri id n) = (not (x.task (task_meant r id)).life.active, code.ObjectState) ∷ []
  task_errors (task.GetPri id) = (not (x.task (task_meant r id)).life.active, code.ObjectState) ∷ []
  task_errors (task.TslpTsk timeout) = (is_polling timeout && x.wakeups (task_meant r (pos 0)) == 0, code.TimedOut) ∷ []
  task_errors (task.WupTsk id) = wakeup_errors (task_meant r id)
  task_errors (task.IwupTsk id) = wakeup_errors (task_of id)
  task_errors (task.CanWup id) = (not (x.task (task_meant r id)).life.active, code.ObjectState) ∷ []
  task_errors (task.RelWai id) = (not (is_some (x.task (task_of id)).wait), code.ObjectState) ∷ []
  task_errors (task.IrelWai id) = (not (is_some (x.task (task_of id)).wait), code.ObjectState) ∷ []
  task_errors (task.SusTsk id) = (not (x.task (task_meant r id)).life.active, code.ObjectState) ∷ ((x.task (task_meant r id)).suspended, code.QueueOverflow) ∷ []
  task_errors (task.RsmTsk id) = (not (x.task (task_of id)).suspended, code.ObjectState) ∷ []
  task_errors other = []

  -- Of an object. A call that may wait answers E_TMOUT in its place where its timeout is 0.

  abbrev pub signal_errors : ℤ → Errors
  signal_errors id =
      let s : Object = object_of id in (not (somebody_waits c x (for_unit s)) && nat_le (semaphore_setup c s).most (x.units s), code.QueueOverflow) ∷ []

  abbrev pub sync_errors : SyncCall → Errors
  sync_errors (sync.SigSem id) = signal_errors id
  sync_errors (sync.IsigSem id) = signal_errors id
  sync_errors (sync.TwaiSem id timeout) = (is_polling timeout && x.units (object_of id) == 0, code.TimedOut) ∷ []
  sync_errors (sync.PolSem id) = (x.units (object_of id) == 0, code.TimedOut) ∷ []
  sync_errors (sync.WaiFlg id bits mode) = (is_used c x (object_of id), code.IllegalUse) ∷ []
  sync_errors (sync.TwaiFlg id bits mode timeout) =
      (is_used c x (object_of id), code.IllegalUse) ∷ (is_polling timeout && not (has_bits c x (object_of id) bits mode), code.TimedOut) ∷ []
  sync_errors (sync.PolFlg id bits mode) = (is_used c x (object_of id), code.IllegalUse) ∷ (not (has_bits c x (object_of id) bits mode), code.TimedOut) ∷ []
  sync_errors other = []

  abbrev pub buffer_errors : BufferCall → Errors
  buffer_errors (buffer.TsndDtq id value timeout) = (is_polling timeout && not (takes_value c x (object_of id)), code.TimedOut) ∷ []
  buffer_errors (buffer.PsndDtq id value) = (not (takes_value c x (object_of id)), code.TimedOut) ∷ []
  buffer_errors (buffer.IpsndDtq id value) = (not (takes_value c x (object_of id)), code.TimedOut) ∷ []
  buffer_errors (buffer.FsndDtq id value) = ((data_queue_setup c (object_of id)).capacity == 0, code.IllegalUse) ∷ []
  buffer_errors (buffer.IfsndDtq id value) = ((data_queue_setup c (object_of id)).capacity == 0, code.IllegalUse) ∷ []
  buffer_errors (buffer.TrcvDtq id timeout) = (is_polling timeout && not (gives_value c x (object_of id)), code.TimedOut) ∷ []
  buffer_errors (buffer.PrcvDtq id) = (not (gives_value c x (object_of id)), code.TimedOut) ∷ []
  buffer_errors (buffer.TgetMpf id timeout) = (is_polling timeout && not (has_block c x (object_of id)), code.TimedOut) ∷ []
  buffer_errors (buffer.PgetMpf id) = (not (has_block c x (object_of id)), code.TimedOut) ∷ []
  buffer_errors other = []

  -- Of the processor.

  abbrev pub system_errors : SystemCall → Errors
  system_errors system.UnlCpu = (holds_lock c x p, code.IllegalUse) ∷ []
  system_errors system.IunlCpu = (holds_lock c x p, code.IllegalUse) ∷ []
  system_errors other = []

  abbrev pub spin_errors : SpinCall → Errors
  spin_errors (spin.TrySpn id) = (is_some (x.holder (object_of id)), code.ObjectState) ∷ []
  spin_errors (spin.ItrySpn id) = (is_some (x.holder (object_of id)), code.ObjectState) ∷ []
  spin_errors (spin.UnlSpn id) = (not (is_holder p (x.holder (object_of id))), code.IllegalUse) ∷ []
  spin_errors (spin.IunlSpn id) = (not (is_holder p (x.holder (object_of id))), code.IllegalUse) ∷ []
  spin_errors other = []

  -- a call on a time event handler and the return of one have none
  abbrev pub state_errors : Call → Errors
  state_errors (call.Task y) = task_errors y
  state_errors (call.Sync y) = sync_errors y
  state_errors (call.Buffer y) = buffer_errors y
  state_errors (call.System y) = system_errors y
  state_errors (call.Spin y) = spin_errors y
  state_errors other = []
