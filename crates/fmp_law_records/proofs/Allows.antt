-- What an accepted call on tasks found of the task that it is about.
use Rattle.std.proofs.Common.{◌≡◌, ◌≤◌, ◌==◌, Bool, true, false, not, ◌&&◌, length, refl, sym, ◌∙◌, subst, Option, Some, None}
use Rattle.std.specs.Prelude.{is_some, is_none, unwrap_or}
use Rattle.std.proofs.lemmas.Bool.{and_parts, and_from, or_parts, not-false, false≢true, both_ways, eqb-true}
use Rattle.fmp_codes.specs.Numbers.{as_task}
use Rattle.fmp_codes.specs.declared.numbers.Proc.{Proc}
use Rattle.fmp_codes.specs.declared.numbers.Task.{Task}
use Rattle.fmp_codes.specs.declared.calls.TaskCall.{TaskCall}
use Rattle.fmp_codes.specs.declared.calls.TaskCall.TheVariants as tasks
use Rattle.fmp_codes.proofs.Same.{tasks_same}
use Rattle.fmp_rules.specs.Effects.{Effect}
use Rattle.fmp_rules.specs.declared.machine.TaskRecord.{TaskRecord}
use Rattle.fmp_rules.specs.World.{World, task, runner_of}
use Rattle.fmp_rules.specs.Ordering.{Ordering}
use Rattle.fmp_rules.specs.Rows.{Row, called, refused, in_handler}
use Rattle.fmp_rules.specs.Arguments.{task_named, task_or_caller, processor_or_initial}
use Rattle.fmp_rules.specs.TaskCalls.{is_dormant, act, mact, mig_tsk, ter_tsk, chg_pri, get_pri, wup, can_wup, rel_wai, sus_tsk, rsm_tsk, task_row}
use Rattle.fmp_law_safety.proofs.Calls.{Accepts, from_task}
use Rattle.fmp_law_balance.proofs.Called.{AllRefuse, by_called}
use Rattle.fmp_law_balance.proofs.waits.Named.{task_known}
use Rattle.fmp_law_records.proofs.counts.Tasks.{named_or_caller_is}
use Rattle.fmp_law_records.specs.Accepting.{is_about}
use Rattle.fmp_law_records.specs.Line.{is_done}
use Rattle.fmp_law_records.proofs.Edits.{refusal}

-- a task of which it may be accepted, made on p
abbrev pub allows : {Q : Type 0} → World Q → Proc → TaskCall → TaskRecord → Bool
allows w p (tasks.ActTsk id) r = not (r.active && r.activations == 1)
allows w p (tasks.IactTsk id) r = not (r.active && r.activations == 1)
allows w p (tasks.MactTsk id to) r = not (r.active && r.activations == 1) && is_some (processor_or_initial w r.setup.class to)
allows w p (tasks.ImactTsk id to) r = not (r.active && r.activations == 1) && is_some (processor_or_initial w r.setup.class to)
allows w p (tasks.MigTsk id to) r = r.assigned.number == p.number && is_some (processor_or_initial w r.setup.class to)
allows w p (tasks.TerTsk id) r = r.active && r.assigned.number == p.number
allows w p (tasks.ChgPri id n) r = r.active
allows w p (tasks.GetPri id) r = r.active
allows w p (tasks.WupTsk id) r = r.active
allows w p (tasks.IwupTsk id) r = r.active
allows w p (tasks.CanWup id) r = r.active
allows w p (tasks.RelWai id) r = is_some r.wait
allows w p (tasks.IrelWai id) r = is_some r.wait
allows w p (tasks.SusTsk id) r = r.active && not r.suspended
allows w p (tasks.RsmTsk id) r = r.suspended
allows w p other r = true

pub some_wait : {X : Type 0} (o : Option X) → is_none o ≡ false → is_some o ≡ true
some_wait None e = absurd (false≢true (sym e))
some_wait (Some x) e = refl

pub is_true : (b : Bool) → b ≡ false → not b ≡ true
is_true true e = absurd (false≢true (sym e))
is_true false e = refl

module _ {Q : Type 0} (k : Ordering Q) (w : World Q) (p : Proc) (t : Task) (few : length w.tasks ≤ 64) where
  -- where it is done t is such a task, if it is about it
  pub record Allowed (c : TaskCall) (did : World Q × Effect) : Type 0 where
    pub found : (is_done c did.1.answer && is_about t (runner_of w p) c) ≡ true → allows w p c (task w t) ≡ true

  abbrev the : Option Task → Task
  the o = unwrap_or o (as_task 1)

  -- what is so of the task that is named
  of_named : (c : TaskCall) (did : World Q × Effect) (u : Task) → is_about t (runner_of w p) c ≡ (u.number == t.number) → allows w p c (task w u) ≡ true → Allowed c did
  of_named c did u named h = record {
    found = λ both.
        subst (λ (x : Task). allows w p c (task w x) ≡ true) (tasks_same u t (eqb-true u.number t.number (sym named ∙ (and_parts (is_done c did.1.answer) (is_about t (runner_of w p) c) both).1))) h;
  }

  unless_refused : (c : TaskCall) (row : Row Q) → AllRefuse row.errors → (Accepts w p row → Allowed c row.effect) → Allowed c (called w p row)
  unless_refused c row codes accepted =
      by_called w p (Allowed c) row codes (λ x e. record { found = λ both. absurd (both_ways _ (refusal c x e) (and_parts (is_done c (refused x).answer) _ both).0) }) accepted

  active_of : (u : Task) → is_dormant w u ≡ false → (task w u).active ≡ true
  active_of u e = not-false _ e

  pub task_allows : (c : TaskCall) → Allowed c (called w p (task_row k w p c))
  unfolding act mact mig_tsk ter_tsk chg_pri wup can_wup rel_wai sus_tsk rsm_tsk
  task_allows (tasks.ActTsk id) =
      let o : Option Task = task_or_caller w p id in
      unless_refused (tasks.ActTsk id) (act k w o) (refl, tt) (λ a. of_named _ _ (the o) (named_or_caller_is w p t id few (from_task w p false false a.rule) a.known) (is_true _ a.errors.0))
  task_allows (tasks.IactTsk id) =
      let o : Option Task = task_named w id in
      unless_refused (tasks.IactTsk id) (in_handler (act k w o)) (refl, tt) (λ a. of_named _ _ (the o) (task_known w id few a.known t) (is_true _ a.errors.0))
  task_allows (tasks.MactTsk id to) =
      let o : Option Task = task_or_caller w p id in
      unless_refused (tasks.MactTsk id to) (mact k w o to) (refl, tt) (λ a. of_named _ _ (the o) (named_or_caller_is w p t id few (from_task w p false false a.rule) (and_parts (is_some o) _ a.known).0) (and_from _ _ (is_true _ a.errors.0) (and_parts (is_some o) _ a.known).1))
  task_allows (tasks.ImactTsk id to) =
      let o : Option Task = task_named w id in
      unless_refused (tasks.ImactTsk id to) (in_handler (mact k w o to)) (refl, tt) (λ a. of_named _ _ (the o) (task_known w id few (and_parts (is_some o) _ a.known).0 t) (and_from _ _ (is_true _ a.errors.0) (and_parts (is_some o) _ a.known).1))
  task_allows (tasks.MigTsk id to) =
      let o : Option Task = task_or_caller w p id in
      unless_refused (tasks.MigTsk id to) (mig_tsk k w p o to) (refl, tt)
      (λ a. of_named _ _ (the o) (named_or_caller_is w p t id few (from_task w p false _ a.rule) (and_parts (is_some o) _ a.known).0) (and_from _ _ (not-false _ a.errors.0) (and_parts (is_some o) _ a.known).1))
  task_allows (tasks.TerTsk id) =
      let u : Task = the (task_named w id) in
      unless_refused (tasks.TerTsk id) (ter_tsk k w p (task_named w id)) (refl, (refl, tt)) (λ a. of_named _ _ u (task_known w id few a.known t) (let parts = or_parts (is_dormant w u) _ a.errors.1.0 in and_from _ _ (active_of u parts.0) (not-false _ parts.1)))
  task_allows (tasks.ChgPri id n) =
      let o : Option Task = task_or_caller w p id in
      unless_refused (tasks.ChgPri id n) (chg_pri k w o n) (refl, tt) (λ a. of_named _ _ (the o) (named_or_caller_is w p t id few (from_task w p false false a.rule) a.known) (active_of (the o) a.errors.0))
  task_allows (tasks.GetPri id) =
      let o : Option Task = task_or_caller w p id in
      unless_refused (tasks.GetPri id) (get_pri w o) (refl, tt) (λ a. of_named _ _ (the o) (named_or_caller_is w p t id few (from_task w p false false a.rule) a.known) (active_of (the o) a.errors.0))
  task_allows (tasks.WupTsk id) =
      let o : Option Task = task_or_caller w p id in
      unless_refused (tasks.WupTsk id) (wup k w o) (refl, (refl, tt)) (λ a. of_named _ _ (the o) (named_or_caller_is w p t id few (from_task w p false false a.rule) a.known) (active_of (the o) a.errors.0))
  task_allows (tasks.IwupTsk id) =
      let o : Option Task = task_named w id in
      unless_refused (tasks.IwupTsk id) (in_handler (wup k w o)) (refl, (refl, tt)) (λ a. of_named _ _ (the o) (task_known w id few a.known t) (active_of (the o) a.errors.0))
  task_allows (tasks.CanWup id) =
      let o : Option Task = task_or_caller w p id in
      unless_refused (tasks.CanWup id) (can_wup w o) (refl, tt) (λ a. of_named _ _ (the o) (named_or_caller_is w p t id few (from_task w p false false a.rule) a.known) (active_of (the o) a.errors.0))
  task_allows (tasks.RelWai id) =
      let u : Task = the (task_named w id) in
      unless_refused (tasks.RelWai id) (rel_wai k w (task_named w id)) (refl, tt) (λ a. of_named _ _ u (task_known w id few a.known t) (some_wait (task w u).wait a.errors.0))
  task_allows (tasks.IrelWai id) =
      let u : Task = the (task_named w id) in
      unless_refused (tasks.IrelWai id) (in_handler (rel_wai k w (task_named w id))) (refl, tt) (λ a. of_named _ _ u (task_known w id few a.known t) (some_wait (task w u).wait a.errors.0))
  task_allows (tasks.SusTsk id) =
      let o : Option Task = task_or_caller w p id in
      unless_refused (tasks.SusTsk id) (sus_tsk k w p o) (refl, (refl, tt))
      (λ a. of_named _ _ (the o) (named_or_caller_is w p t id few (from_task w p false _ a.rule) a.known) (and_from _ _ (active_of (the o) a.errors.0) (is_true _ a.errors.1.0)))
  task_allows (tasks.RsmTsk id) =
      let u : Task = the (task_named w id) in
      unless_refused (tasks.RsmTsk id) (rsm_tsk k w (task_named w id)) (refl, tt) (λ a. of_named _ _ u (task_known w id few a.known t) (not-false _ a.errors.0))
  task_allows c = record { found = λ e. refl }
