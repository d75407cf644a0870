-- believed: see docs/PROOF.md, "What has to be believed"
-- The calls on tasks.
use Rattle.std.specs.Prelude.{ℤ, pos, ◌+◌, ◌-◌, ◌&&◌, ◌||◌, not, Bool, true, false, Option, None, Some, [], ◌∷◌, ◌==◌, nat_lt, nat_le, if◌then◌else◌, unwrap_or, is_none}
use Rattle.fmp_codes.specs.Numbers.{as_proc}
use Rattle.fmp_codes.specs.declared.numbers.Proc.{Proc}
use Rattle.fmp_codes.specs.declared.numbers.Task.{Task}
use Rattle.fmp_codes.specs.declared.calls.TaskCall.{TaskCall}
use Rattle.fmp_codes.specs.declared.calls.TaskCall.TheVariants as call
use Rattle.fmp_codes.specs.declared.codes.Code.TheVariants as code
use Rattle.fmp_codes.specs.declared.records.Answer.TheVariants as answer
use Rattle.fmp_rules.specs.declared.machine.Wait.{Wait}
use Rattle.fmp_rules.specs.declared.machine.Wait.TheVariants as wait
use Rattle.fmp_rules.specs.World.{World, task}
use Rattle.fmp_rules.specs.Ordering.{Ordering, with_task, place, begin_wait}
use Rattle.fmp_rules.specs.Tasks.{activate, finish, migrate, change_priority}
use Rattle.fmp_rules.specs.Rows.{Row, row, on_task, no_errors, in_handler, when_locked, unheld_if, waiting, at_processor, done_or_wait, release, done, with_value, plain}
use Rattle.fmp_rules.specs.Arguments.{task_named, task_or_caller, class_of, processor_or_initial, caller, is_caller, priority_or, is_priority_or_zero, is_time, forever}
use Rattle.fmp_rules.specs.Arguments.{ticks_of}
use Rattle.fmp_rules.specs.Processors.{opened}

abbrev pub is_sleep : Option Wait → Bool
is_sleep (Some wait.Sleep) = true
is_sleep other = false

module _ {Q : Type 0} (w : World Q) where
  abbrev pub is_dormant : Task → Bool
  is_dormant t = not (task w t).active

  -- the value is the number of queued activations, which are taken back
  unfoldable pub can_act : Option Task → Row Q
  can_act t =
      on_task t no_errors
      (λ u. (with_task w u (record (task w u) { activations = 0; kept = None }), with_value (pos (task w u).activations)))

  abbrev pub get_pri : Option Task → Row Q
  get_pri t = on_task t (λ u. (is_dormant u, code.ObjectState) ∷ []) (λ u. (w, with_value (pos (task w u).priority.number)))

  -- the value is the number of queued wakeups, which are taken back
  unfoldable pub can_wup : Option Task → Row Q
  can_wup t =
      on_task t (λ u. (is_dormant u, code.ObjectState) ∷ [])
      (λ u. (with_task w u (record (task w u) { wakeups = 0 }), with_value (pos (task w u).wakeups)))

module _ {Q : Type 0} (k : Ordering Q) (w : World Q) where
  -- a task is activated to start on a processor, or its activation is queued with a kept processor
  abbrev pub activation : Option Task → (Task → Proc) → Option Proc → Row Q
  activation t to kept =
      on_task t (λ u. ((task w u).active && (task w u).activations == 1, code.QueueOverflow) ∷ [])
      (λ u. (activate k w u (to u) kept, done))

  -- a task is activated where it is assigned
  unfoldable pub act : Option Task → Row Q
  act t = activation t (λ u. (task w u).assigned) None

  -- a task is activated on the processor that the call names
  unfoldable pub mact : Option Task → ℤ → Row Q
  mact t id =
      let to = processor_or_initial w (class_of w t) id in
      at_processor (class_of w t) to (activation t (λ u. unwrap_or to (as_proc 1)) to)

  -- a task of this processor is assigned to the one that the call names
  unfoldable pub mig_tsk : Proc → Option Task → ℤ → Row Q
  mig_tsk p t id =
      let to = processor_or_initial w (class_of w t) id in
      unheld_if (is_caller w p t) (at_processor (class_of w t) to (
      on_task t (λ u. (not ((task w u).assigned.number == p.number), code.ObjectState) ∷ []) (λ u. (migrate k w u (unwrap_or to (as_proc 1)), done))))

  -- the caller ends, and leaves its processor unlocked and its dispatching enabled
  unfoldable pub ext_tsk : Proc → Row Q
  ext_tsk p = when_locked (row (finish k (opened w p) (caller w p), plain answer.Gone))

  -- another task of this processor ends
  unfoldable pub ter_tsk : Proc → Option Task → Row Q
  ter_tsk p t =
      on_task t
      (λ u. (is_caller w p t, code.IllegalUse) ∷ (is_dormant w u || not ((task w u).assigned.number == p.number), code.ObjectState) ∷ [])
      (λ u. (finish k w u, done))

  -- a task has another priority; 0 is its initial one
  unfoldable pub chg_pri : Option Task → ℤ → Row Q
  chg_pri t n =
      record (on_task t (λ u. (is_dormant w u, code.ObjectState) ∷ [])
      (λ u. (change_priority k w u (priority_or (task w u).setup.priority n), done)))
      { proper = is_priority_or_zero w.limits n }

  -- a queued wakeup is taken, or else the caller sleeps
  unfoldable pub tslp_tsk : Proc → ℤ → Row Q
  tslp_tsk p timeout =
      let r = task w (caller w p) in
      waiting timeout (row (
      done_or_wait k w p (nat_lt 0 r.wakeups) (with_task w (caller w p) (record r { wakeups = r.wakeups - 1 }), done) wait.Sleep timeout))

  -- a task that sleeps is released, and of another one the wakeup is queued
  unfoldable pub wup : Option Task → Row Q
  wup t =
      on_task t
      (λ u. (is_dormant w u, code.ObjectState)
      ∷ (not (is_sleep (task w u).wait) && nat_le w.limits.wakeups (task w u).wakeups, code.QueueOverflow) ∷ [])
      (λ u. if is_sleep (task w u).wait then release k w u code.Accepted None
      else (with_task w u (record (task w u) { wakeups = (task w u).wakeups + 1 }), done))

  -- the wait of a task is ended
  unfoldable pub rel_wai : Option Task → Row Q
  rel_wai t = on_task t (λ u. (is_none (task w u).wait, code.ObjectState) ∷ []) (λ u. release k w u code.WaitReleased None)

  -- a task is suspended; the caller only while dispatching is not held
  unfoldable pub sus_tsk : Proc → Option Task → Row Q
  sus_tsk p t =
      unheld_if (is_caller w p t) (
      on_task t (λ u. (is_dormant w u, code.ObjectState) ∷ ((task w u).suspended, code.QueueOverflow) ∷ [])
      (λ u. (place k w u (record (task w u) { suspended = true }), done)))

  -- a task is no longer suspended
  unfoldable pub rsm_tsk : Option Task → Row Q
  rsm_tsk t =
      on_task t (λ u. (not (task w u).suspended, code.ObjectState) ∷ [])
      (λ u. (place k w u (record (task w u) { suspended = false }), done))

  -- the caller waits for so long
  unfoldable pub dly_tsk : Proc → ℤ → Row Q
  dly_tsk p time = record (unheld_if true (row (begin_wait k w (caller w p) wait.Delay (ticks_of time), plain answer.Wait))) { proper = is_time time }

  abbrev pub task_row : Proc → TaskCall → Row Q
  task_row p (call.ActTsk id) = act (task_or_caller w p id)
  task_row p (call.IactTsk id) = in_handler (act (task_named w id))
  task_row p (call.MactTsk id to) = mact (task_or_caller w p id) to
  task_row p (call.ImactTsk id to) = in_handler (mact (task_named w id) to)
  task_row p (call.CanAct id) = can_act w (task_or_caller w p id)
  task_row p (call.MigTsk id to) = mig_tsk p (task_or_caller w p id) to
  task_row p call.ExtTsk = ext_tsk p
  task_row p (call.TerTsk id) = ter_tsk p (task_named w id)
  task_row p (call.ChgPri id n) = chg_pri (task_or_caller w p id) n
  task_row p (call.GetPri id) = get_pri w (task_or_caller w p id)
  task_row p call.SlpTsk = tslp_tsk p forever
  task_row p (call.TslpTsk timeout) = tslp_tsk p timeout
  task_row p (call.WupTsk id) = wup (task_or_caller w p id)
  task_row p (call.IwupTsk id) = in_handler (wup (task_named w id))
  task_row p (call.CanWup id) = can_wup w (task_or_caller w p id)
  task_row p (call.RelWai id) = rel_wai (task_named w id)
  task_row p (call.IrelWai id) = in_handler (rel_wai (task_named w id))
  task_row p (call.SusTsk id) = sus_tsk p (task_or_caller w p id)
  task_row p (call.RsmTsk id) = rsm_tsk (task_named w id)
  task_row p (call.DlyTsk time) = dly_tsk p time
