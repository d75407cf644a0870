-- The calls on tasks leave the objects alone.
use Rattle.std.proofs.Common.{◌+◌, ℤ, refl, Option, None}
use Rattle.std.specs.Prelude.{◌-◌, nat_lt, unwrap_or}
use Rattle.std.proofs.lemmas.Bool.{cond_both}
use Rattle.fmp_codes.specs.Numbers.{as_task}
use Rattle.fmp_codes.specs.declared.numbers.Proc.{Proc}
use Rattle.fmp_codes.specs.declared.numbers.Task.{Task}
use Rattle.fmp_codes.specs.declared.calls.TaskCall.{TaskCall}
use Rattle.fmp_codes.specs.declared.calls.TaskCall.TheVariants as call
use Rattle.fmp_codes.specs.declared.codes.Code.TheVariants as code
use Rattle.fmp_rules.specs.declared.machine.Wait.TheVariants as wait
use Rattle.fmp_rules.specs.World.{World, task}
use Rattle.fmp_rules.specs.Ordering.{Ordering, with_task, place}
use Rattle.fmp_rules.specs.Tasks.{migrate}
use Rattle.fmp_rules.specs.Rows.{done, release}
use Rattle.fmp_rules.specs.Arguments.{caller, task_named, task_or_caller, forever, ticks_of}
use Rattle.fmp_rules.specs.Processors.{opened}
use Rattle.fmp_rules.specs.TaskCalls.{act, mact, can_act, mig_tsk, ext_tsk, ter_tsk, chg_pri, tslp_tsk, is_sleep, wup, can_wup, rel_wai, sus_tsk, rsm_tsk, dly_tsk, task_row}
use Rattle.fmp_law_balance.proofs.Leaving.{Leaves, leaves_all, leaves_then, leaves_processors, leaves_task, leaves_with_task, leaves_place, leaves_ready, leaves_finish, leaves_begin, leaves_activate, leaves_done_or_wait}

module _ {Q : Type 0} (k : Ordering Q) (w : World Q) (p : Proc) where
  leaves_opened : Leaves w (opened w p)
  unfolding opened
  leaves_opened = leaves_processors w _ _

  leaves_migrate : (t : Task) (to : Proc) → Leaves w (migrate k w t to)
  leaves_migrate t to = cond_both _ w (place k w t (record (task w t) { assigned = to })) (λ (v : World Q). Leaves w v) (λ _. leaves_all w) (λ _. leaves_place k w t _ refl)

  leaves_sleep : (timeout : ℤ) → Leaves w (tslp_tsk k w p timeout).effect.0
  unfolding tslp_tsk
  leaves_sleep timeout =
      let t = caller w p in
      let r = record (task w t) { wakeups = (task w t).wakeups - 1 } in
      leaves_done_or_wait k w p (nat_lt 0 (task w t).wakeups) (with_task w t r, done) wait.Sleep timeout (leaves_with_task k w t r (λ d x e. e)) refl

  leaves_wup : (o : Option Task) → Leaves w (wup k w o).effect.0
  unfolding wup
  leaves_wup o =
      let t = unwrap_or o (as_task 1) in
      let r = record (task w t) { wakeups = (task w t).wakeups + 1 } in
      cond_both (is_sleep (task w t).wait) (release k w t code.Accepted None) (with_task w t r, done) (λ did. Leaves w did.0) (λ _. leaves_ready k w t) (λ _. leaves_with_task k w t r (λ d x e. e))

  -- the task that an argument names, and that where 0 is the caller
  abbrev task_of : ℤ → Task
  task_of id = unwrap_or (task_named w id) (as_task 1)

  abbrev own_task_of : ℤ → Task
  own_task_of id = unwrap_or (task_or_caller w p id) (as_task 1)

  pub leaves_task_call : (c : TaskCall) → Leaves w (task_row k w p c).effect.0
  unfolding act mact can_act can_wup mig_tsk ext_tsk ter_tsk chg_pri rel_wai sus_tsk rsm_tsk dly_tsk
  leaves_task_call (call.ActTsk id) = leaves_activate k w _ _ None
  leaves_task_call (call.IactTsk id) = leaves_activate k w _ _ None
  leaves_task_call (call.MactTsk id to) = leaves_activate k w _ _ _
  leaves_task_call (call.ImactTsk id to) = leaves_activate k w _ _ _
  leaves_task_call (call.CanAct id) = leaves_task w (own_task_of id) _ w.waits_left w.order (λ d x e. e)
  leaves_task_call (call.MigTsk id to) = leaves_migrate _ _
  leaves_task_call call.ExtTsk = leaves_then w (opened w p) _ leaves_opened (leaves_finish k (opened w p) (caller w p))
  leaves_task_call (call.TerTsk id) = leaves_finish k w _
  leaves_task_call (call.ChgPri id n) = leaves_task w (own_task_of id) _ w.waits_left _ (λ d x e. e)
  leaves_task_call (call.GetPri id) = leaves_all w
  leaves_task_call call.SlpTsk = leaves_sleep forever
  leaves_task_call (call.TslpTsk timeout) = leaves_sleep timeout
  leaves_task_call (call.WupTsk id) = leaves_wup (task_or_caller w p id)
  leaves_task_call (call.IwupTsk id) = leaves_wup (task_named w id)
  leaves_task_call (call.CanWup id) = leaves_task w (own_task_of id) _ w.waits_left w.order (λ d x e. e)
  leaves_task_call (call.RelWai id) = leaves_ready k w _
  leaves_task_call (call.IrelWai id) = leaves_ready k w _
  leaves_task_call (call.SusTsk id) = leaves_task w (own_task_of id) _ w.waits_left _ (λ d x e. e)
  leaves_task_call (call.RsmTsk id) = leaves_task w (task_of id) _ w.waits_left _ (λ d x e. e)
  leaves_task_call (call.DlyTsk time) = leaves_begin k w (caller w p) wait.Delay (ticks_of time) refl
