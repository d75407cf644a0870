-- What a call on tasks makes of each task, but for its wait: one edit of the task that it names, where it is done.
use Rattle.std.proofs.Common.{◌≡◌, ◌+◌, ◌-◌, ◌≤◌, ◌==◌, ℤ, Bool, true, false, ◌&&◌, length, refl, sym, ap, ◌∙◌, subst, Option, None}
use Rattle.std.specs.Prelude.{if◌then◌else◌, is_some, nat_lt, unwrap_or}
use Rattle.std.proofs.lemmas.Bool.{cond_both, cond-false, cond-true, and_parts}
use Rattle.fmp_codes.specs.Numbers.{as_proc, as_task}
use Rattle.fmp_codes.specs.declared.numbers.Proc.{Proc}
use Rattle.fmp_codes.specs.declared.numbers.Task.{Task}
use Rattle.fmp_codes.specs.declared.calls.TaskCall.{TaskCall}
use Rattle.fmp_codes.specs.declared.calls.TaskCall.TheVariants as tasks
use Rattle.fmp_codes.specs.declared.codes.Code.{Code}
use Rattle.fmp_codes.specs.declared.codes.Code.TheVariants as code
use Rattle.fmp_codes.specs.declared.records.Answer.{Answer}
use Rattle.fmp_codes.specs.declared.records.Answer.TheVariants as answer
use Rattle.fmp_rules.specs.Effects.{Effect}
use Rattle.fmp_rules.specs.declared.machine.TaskRecord.{TaskRecord}
use Rattle.fmp_rules.specs.declared.machine.Wait.TheVariants as wait
use Rattle.fmp_rules.specs.World.{World, with_item, task, runner_of}
use Rattle.fmp_rules.specs.Ordering.{Ordering, with_task, place, requeue, begin_wait}
use Rattle.fmp_rules.specs.Tasks as words
use Rattle.fmp_rules.specs.Rows.{called, refused, plain, done, in_handler}
use Rattle.fmp_rules.specs.Arguments.{caller, is_zero, task_named, task_or_caller, processor_or_initial, priority_or, forever, ticks_of}
use Rattle.fmp_rules.specs.Processors.{opened}
use Rattle.fmp_rules.specs.TaskCalls.{is_sleep, act, mact, can_act, mig_tsk, ext_tsk, ter_tsk, chg_pri, get_pri, tslp_tsk, wup, can_wup, rel_wai, sus_tsk, rsm_tsk, dly_tsk, task_row}
use Rattle.fmp_law_safety.proofs.Calls.{from_task}
use Rattle.fmp_law_balance.specs.Accepted.{is_accepted}
use Rattle.fmp_law_balance.specs.Queues.{is_task}
use Rattle.fmp_law_balance.proofs.Called.{refuses, by_called, not_accepted}
use Rattle.fmp_law_balance.proofs.waits.Named.{by_task, task_known}
use Rattle.fmp_law_records.proofs.counts.Tasks.{is_caller_of, named_or_caller_is, changed_here, changed_there}
use Rattle.fmp_law_records.specs.Accepting.{is_about}
use Rattle.fmp_law_records.specs.Line.{is_done}
use Rattle.fmp_law_records.proofs.Leaving.{besides, Leaves, leaves_all, leaves_ready, leaves_begin}

pub refusal : (c : TaskCall) (x : Code) → refuses x ≡ true → is_done c (refused x).answer ≡ false
refusal tasks.ExtTsk x e = refl
refusal c x e = not_accepted x e

abbrev pub activated_as : TaskRecord → Proc → Option Proc → TaskRecord
activated_as r to kept = if r.active then record r { activations = 1; kept = kept } else words.started r to

-- what it makes then of the task that it is about, but for its wait
module _ {Q : Type 0} (w : World Q) where
  abbrev pub moved_to : TaskRecord → Proc → TaskRecord
  moved_to r to = if r.assigned.number == to.number then r else record r { assigned = to }

  abbrev pub edited : TaskCall → TaskRecord → TaskRecord
  edited (tasks.ActTsk id) r = activated_as r r.assigned None
  edited (tasks.IactTsk id) r = activated_as r r.assigned None
  edited (tasks.MactTsk id to) r = activated_as r (unwrap_or (processor_or_initial w r.setup.class to) (as_proc 1)) (processor_or_initial w r.setup.class to)
  edited (tasks.ImactTsk id to) r = activated_as r (unwrap_or (processor_or_initial w r.setup.class to) (as_proc 1)) (processor_or_initial w r.setup.class to)
  edited (tasks.CanAct id) r = record r { activations = 0; kept = None }
  edited (tasks.MigTsk id to) r = moved_to r (unwrap_or (processor_or_initial w r.setup.class to) (as_proc 1))
  edited tasks.ExtTsk r = words.ended r
  edited (tasks.TerTsk id) r = words.ended r
  edited (tasks.ChgPri id n) r = record r { priority = priority_or r.setup.priority n }
  edited tasks.SlpTsk r = record r { wakeups = r.wakeups - 1 }
  edited (tasks.TslpTsk timeout) r = record r { wakeups = r.wakeups - 1 }
  edited (tasks.WupTsk id) r = if is_sleep r.wait then r else record r { wakeups = r.wakeups + 1 }
  edited (tasks.IwupTsk id) r = if is_sleep r.wait then r else record r { wakeups = r.wakeups + 1 }
  edited (tasks.CanWup id) r = record r { wakeups = 0 }
  edited (tasks.SusTsk id) r = record r { suspended = true }
  edited (tasks.RsmTsk id) r = record r { suspended = false }
  edited other r = r

module _ {Q : Type 0} (w : World Q) (t : Task) where
  -- from w to v, of t this becomes, but for its wait, where it is the task
  pub record Edits (b : Bool) (edit : TaskRecord → TaskRecord) (v : World Q) : Type 0 where
    pub rest : besides (task v t) ≡ besides (if b then edit (task w t) else task w t)

  module _ (here : t.number ≤ length w.tasks) where
    -- u gets another record
    edits_task : (b : Bool) (edit : TaskRecord → TaskRecord) (u : Task) (v : World Q) (r : TaskRecord) → b ≡ (u.number == t.number) → besides r ≡ besides (edit (task w u)) →
        v.tasks ≡ with_item w.tasks u.number r → Edits b edit v
    edits_task b edit u v r named same e = record {
      rest = subst (λ (x : Bool). besides (task v t) ≡ besides (if x then edit (task w t) else task w t)) (sym named)
          (by_task (λ x c. besides (task v x) ≡ besides (if c then edit (task w x) else task w x)) u t
          (λ at. rw (e, changed_here w u r (rw at here)) same)
          (λ d. rw (e, changed_there w u r t d) refl));
    }

    -- the task that it is stays as it is
    edits_nothing : (b : Bool) (v : World Q) → Leaves t w v → Edits b (λ r. r) v
    edits_nothing b v h = record { rest = h.rest ∙ cond_both b (task w t) (task w t) (λ (r : TaskRecord). besides (task w t) ≡ besides r) (λ _. refl) (λ _. refl) }

module _ {Q : Type 0} (k : Ordering Q) (w : World Q) (p : Proc) (t : Task) (few : length w.tasks ≤ 64) (here : t.number ≤ length w.tasks) where
  abbrev pub EditsCall : TaskCall → World Q × Effect → Type 0
  EditsCall c did = Edits w t (is_done c did.1.answer && is_about t (runner_of w p) c) (edited w c) did.0

  abbrev the : Option Task → Task
  the o = unwrap_or o (as_task 1)

  -- what is not done leaves it
  undone : (c : TaskCall) (v : World Q) (a : Answer) → is_done c a ≡ false → Leaves t w v → EditsCall c (v, plain a)
  undone c v a not_done h = record { rest = h.rest ∙ ap besides (sym (cond-false (is_done c a && is_about t (runner_of w p) c) (edited w c (task w t)) (task w t) (ap (λ (b : Bool). b && is_about t (runner_of w p) c) not_done))) }

  refused_edits : (c : TaskCall) (x : Code) → refuses x ≡ true → EditsCall c (w, refused x)
  refused_edits c x e = undone c w (refused x).answer (refusal c x e) (leaves_all t w)

  edits_act : (b : Bool) (u : Task) (to : Proc) (kept : Option Proc) (edit : TaskRecord → TaskRecord) → b ≡ (u.number == t.number) → edit (task w u) ≡ activated_as (task w u) to kept →
      Edits w t b edit (words.activate k w u to kept)
  edits_act b u to kept edit named is =
      let r : TaskRecord = record (task w u) { activations = 1; kept = kept } in
      cond_both (task w u).active (with_task w u r) (words.start k w u to) (λ (v : World Q). Edits w t b edit v)
      (λ active. edits_task w t here b edit u (with_task w u r) r named (ap besides (sym (is ∙ cond-true (task w u).active r (words.started (task w u) to) active))) refl)
      (λ dormant. edits_task w t here b edit u (words.start k w u to) (words.started (task w u) to) named (ap besides (sym (is ∙ cond-false (task w u).active r (words.started (task w u) to) dormant))) refl)

  edits_mig : (b : Bool) (u : Task) (to : Proc) (edit : TaskRecord → TaskRecord) → b ≡ (u.number == t.number) → edit (task w u) ≡ moved_to w (task w u) to → Edits w t b edit (words.migrate k w u to)
  edits_mig b u to edit named is =
      let r : TaskRecord = record (task w u) { assigned = to } in
      cond_both ((task w u).assigned.number == to.number) w (place k w u r) (λ (v : World Q). Edits w t b edit v)
      (λ at. record {
        rest = by_task (λ x c. b ≡ c → besides (task w x) ≡ besides (if b then edit (task w x) else task w x)) u t
            (λ same e. rw e (ap besides (sym (is ∙ cond-true ((task w u).assigned.number == to.number) (task w u) r at))))
            (λ d e. rw e refl) named;
      })
      (λ other. edits_task w t here b edit u (place k w u r) r named (ap besides (sym (is ∙ cond-false ((task w u).assigned.number == to.number) (task w u) r other))) refl)

  edits_sleep : (c : TaskCall) (timeout : ℤ) → (λ (r : TaskRecord). record r { wakeups = r.wakeups - 1 }) ≡ edited w c → ((a : Answer) → is_done c a ≡ is_accepted a) → is_about t (runner_of w p) c ≡ is_task t (runner_of w p) →
      EditsCall c (called w p (tslp_tsk k w p timeout))
  unfolding tslp_tsk
  edits_sleep c timeout edit how about =
      let u : Task = caller w p in
      let r : TaskRecord = record (task w u) { wakeups = (task w u).wakeups - 1 } in
      by_called w p (EditsCall c) (tslp_tsk k w p timeout) tt (refused_edits c)
      (λ a.
      cond_both (nat_lt 0 (task w u).wakeups) _ _ (EditsCall c)
      (λ _. edits_task w t here (is_done c done.answer && is_about t (runner_of w p) c) (edited w c) u (with_task w u r) r
      (ap (λ (b : Bool). b && is_about t (runner_of w p) c) (how done.answer) ∙ about ∙ is_caller_of w p t (from_task w p false true a.rule)) (ap (λ (f : TaskRecord → TaskRecord). besides (f (task w u))) edit) refl)
      (λ _. cond_both (is_zero timeout) _ _ (EditsCall c) (λ _. refused_edits c code.TimedOut refl)
      (λ _. undone c (begin_wait k w u wait.Sleep (ticks_of timeout)) answer.Wait (how answer.Wait) (leaves_begin t w k u wait.Sleep (ticks_of timeout)))))

  edits_wup : (b : Bool) (o : Option Task) → b ≡ ((the o).number == t.number) → Edits w t b (λ r. if is_sleep r.wait then r else record r { wakeups = r.wakeups + 1 }) (wup k w o).effect.0
  unfolding wup
  edits_wup b o named =
      let u : Task = the o in
      let edit : TaskRecord → TaskRecord = λ r. if is_sleep r.wait then r else record r { wakeups = r.wakeups + 1 } in
      let more : TaskRecord = record (task w u) { wakeups = (task w u).wakeups + 1 } in
      cond_both (is_sleep (task w u).wait) _ _ (λ (did : World Q × Effect). Edits w t b edit did.0)
      (λ asleep. edits_task w t here b edit u (words.make_ready k w u) (record (task w u) { wait = None }) named (ap besides (sym (cond-true (is_sleep (task w u).wait) (task w u) more asleep))) refl)
      (λ awake. edits_task w t here b edit u (with_task w u more) more named (ap besides (sym (cond-false (is_sleep (task w u).wait) (task w u) more awake))) refl)

  -- a wakeup is done whether it releases or is queued
  wup_done : (o : Option Task) (P : World Q × Effect → Type 0) → ((a : Answer) → is_accepted a ≡ true → (wup k w o).effect.1.answer ≡ a → P (wup k w o).effect) → P (wup k w o).effect
  unfolding wup
  wup_done o P h = h (wup k w o).effect.1.answer (cond_both (is_sleep (task w (the o)).wait) _ _ (λ (did : World Q × Effect). is_accepted did.1.answer ≡ true) (λ _. refl) (λ _. refl)) refl

  pub task_edits : (c : TaskCall) → EditsCall c (called w p (task_row k w p c))
  unfolding act mact can_act mig_tsk ext_tsk ter_tsk chg_pri wup can_wup rel_wai sus_tsk rsm_tsk dly_tsk words.finish opened
  task_edits (tasks.ActTsk id) =
      let o : Option Task = task_or_caller w p id in
      by_called w p (EditsCall (tasks.ActTsk id)) (act k w o) (refl, tt) (refused_edits (tasks.ActTsk id))
      (λ a. edits_act _ (the o) _ None _ (named_or_caller_is w p t id few (from_task w p false false a.rule) a.known) refl)
  task_edits (tasks.IactTsk id) =
      let o : Option Task = task_named w id in
      by_called w p (EditsCall (tasks.IactTsk id)) (in_handler (act k w o)) (refl, tt) (refused_edits (tasks.IactTsk id)) (λ a. edits_act _ (the o) _ None _ (task_known w id few a.known t) refl)
  task_edits (tasks.MactTsk id to) =
      let o : Option Task = task_or_caller w p id in
      by_called w p (EditsCall (tasks.MactTsk id to)) (mact k w o to) (refl, tt) (refused_edits (tasks.MactTsk id to))
      (λ a. edits_act _ (the o) _ _ _ (named_or_caller_is w p t id few (from_task w p false false a.rule) (and_parts (is_some o) _ a.known).0) refl)
  task_edits (tasks.ImactTsk id to) =
      let o : Option Task = task_named w id in
      by_called w p (EditsCall (tasks.ImactTsk id to)) (in_handler (mact k w o to)) (refl, tt) (refused_edits (tasks.ImactTsk id to))
      (λ a. edits_act _ (the o) _ _ _ (task_known w id few (and_parts (is_some o) _ a.known).0 t) refl)
  task_edits (tasks.CanAct id) =
      let u : Task = the (task_or_caller w p id) in
      let r : TaskRecord = record (task w u) { activations = 0; kept = None } in
      by_called w p (EditsCall (tasks.CanAct id)) (can_act w (task_or_caller w p id)) tt (refused_edits (tasks.CanAct id))
      (λ a. edits_task w t here _ _ u (with_task w u r) r (named_or_caller_is w p t id few (from_task w p false false a.rule) a.known) refl refl)
  task_edits (tasks.MigTsk id to) =
      let o : Option Task = task_or_caller w p id in
      by_called w p (EditsCall (tasks.MigTsk id to)) (mig_tsk k w p o to) (refl, tt) (refused_edits (tasks.MigTsk id to))
      (λ a. edits_mig _ (the o) _ _ (named_or_caller_is w p t id few (from_task w p false _ a.rule) (and_parts (is_some o) _ a.known).0) refl)
  task_edits tasks.ExtTsk =
      let u : Task = caller w p in
      by_called w p (EditsCall tasks.ExtTsk) (ext_tsk k w p) tt (refused_edits tasks.ExtTsk)
      (λ a. edits_task w t here _ _ u (words.finish k (opened w p) u) (words.ended (task w u)) (is_caller_of w p t (from_task w p true false a.rule)) refl refl)
  task_edits (tasks.TerTsk id) =
      let u : Task = the (task_named w id) in
      by_called w p (EditsCall (tasks.TerTsk id)) (ter_tsk k w p (task_named w id)) (refl, (refl, tt)) (refused_edits (tasks.TerTsk id))
      (λ a. edits_task w t here _ _ u (words.finish k w u) (words.ended (task w u)) (task_known w id few a.known t) refl refl)
  task_edits (tasks.ChgPri id n) =
      let u : Task = the (task_or_caller w p id) in
      let r : TaskRecord = record (task w u) { priority = priority_or (task w u).setup.priority n } in
      by_called w p (EditsCall (tasks.ChgPri id n)) (chg_pri k w (task_or_caller w p id) n) (refl, tt) (refused_edits (tasks.ChgPri id n))
      (λ a. edits_task w t here _ _ u (requeue k w u r) r (named_or_caller_is w p t id few (from_task w p false false a.rule) a.known) refl refl)
  task_edits (tasks.GetPri id) =
      by_called w p (EditsCall (tasks.GetPri id)) (get_pri w (task_or_caller w p id)) (refl, tt) (refused_edits (tasks.GetPri id)) (λ a. edits_nothing w t here _ w (leaves_all t w))
  task_edits tasks.SlpTsk = edits_sleep tasks.SlpTsk forever refl (λ a. refl) refl
  task_edits (tasks.TslpTsk timeout) = edits_sleep (tasks.TslpTsk timeout) timeout refl (λ a. refl) refl
  task_edits (tasks.WupTsk id) =
      let o : Option Task = task_or_caller w p id in
      by_called w p (EditsCall (tasks.WupTsk id)) (wup k w o) (refl, (refl, tt)) (refused_edits (tasks.WupTsk id))
      (λ a. wup_done o (EditsCall (tasks.WupTsk id)) (λ x yes is. rw (is, yes) (edits_wup _ o (named_or_caller_is w p t id few (from_task w p false false a.rule) a.known))))
  task_edits (tasks.IwupTsk id) =
      let o : Option Task = task_named w id in
      by_called w p (EditsCall (tasks.IwupTsk id)) (in_handler (wup k w o)) (refl, (refl, tt)) (refused_edits (tasks.IwupTsk id))
      (λ a. wup_done o (EditsCall (tasks.IwupTsk id)) (λ x yes is. rw (is, yes) (edits_wup _ o (task_known w id few a.known t))))
  task_edits (tasks.CanWup id) =
      let u : Task = the (task_or_caller w p id) in
      let r : TaskRecord = record (task w u) { wakeups = 0 } in
      by_called w p (EditsCall (tasks.CanWup id)) (can_wup w (task_or_caller w p id)) (refl, tt) (refused_edits (tasks.CanWup id))
      (λ a. edits_task w t here _ _ u (with_task w u r) r (named_or_caller_is w p t id few (from_task w p false false a.rule) a.known) refl refl)
  task_edits (tasks.RelWai id) =
      by_called w p (EditsCall (tasks.RelWai id)) (rel_wai k w (task_named w id)) (refl, tt) (refused_edits (tasks.RelWai id)) (λ a. edits_nothing w t here _ _ (leaves_ready t w k (the (task_named w id))))
  task_edits (tasks.IrelWai id) =
      by_called w p (EditsCall (tasks.IrelWai id)) (in_handler (rel_wai k w (task_named w id))) (refl, tt) (refused_edits (tasks.IrelWai id)) (λ a. edits_nothing w t here _ _ (leaves_ready t w k (the (task_named w id))))
  task_edits (tasks.SusTsk id) =
      let o : Option Task = task_or_caller w p id in
      let u : Task = the o in
      let r : TaskRecord = record (task w u) { suspended = true } in
      by_called w p (EditsCall (tasks.SusTsk id)) (sus_tsk k w p o) (refl, (refl, tt)) (refused_edits (tasks.SusTsk id))
      (λ a. edits_task w t here _ _ u (place k w u r) r (named_or_caller_is w p t id few (from_task w p false _ a.rule) a.known) refl refl)
  task_edits (tasks.RsmTsk id) =
      let u : Task = the (task_named w id) in
      let r : TaskRecord = record (task w u) { suspended = false } in
      by_called w p (EditsCall (tasks.RsmTsk id)) (rsm_tsk k w (task_named w id)) (refl, tt) (refused_edits (tasks.RsmTsk id))
      (λ a. edits_task w t here _ _ u (place k w u r) r (task_known w id few a.known t) refl refl)
  task_edits (tasks.DlyTsk time) =
      by_called w p (EditsCall (tasks.DlyTsk time)) (dly_tsk k w p time) tt (refused_edits (tasks.DlyTsk time))
      (λ a. undone (tasks.DlyTsk time) (begin_wait k w (caller w p) wait.Delay (ticks_of time)) answer.Wait refl (leaves_begin t w k (caller w p) wait.Delay (ticks_of time)))
