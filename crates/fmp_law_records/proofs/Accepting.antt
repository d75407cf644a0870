-- A call on a task is accepted, refused as unsuited and refused as one too many only where its task is so.
use Rattle.std.proofs.Common.{◌≡◌, ◌≤◌, ◌==◌, ℤ, [], ◌∷◌, Bool, true, false, not, ◌&&◌, ◌||◌, length, refl, sym, ap, ◌∙◌, subst, Option, Some, None}
use Rattle.std.specs.Prelude.{if◌then◌else◌, is_some, is_none, unwrap_or, nat_lt}
use Rattle.std.proofs.lemmas.Bool.{cond_both, and_parts, and_from, false≢true, both_ways, eqb-true, not-false}
use Rattle.fmp_codes.specs.Numbers.{as_task}
use Rattle.fmp_codes.specs.declared.numbers.Proc.{Proc}
use Rattle.fmp_codes.specs.declared.numbers.Task.{Task}
use Rattle.fmp_codes.specs.declared.calls.Call.{Call}
use Rattle.fmp_codes.specs.declared.calls.Call.TheVariants as call
use Rattle.fmp_codes.specs.declared.calls.TaskCall.{TaskCall}
use Rattle.fmp_codes.specs.declared.calls.TaskCall.TheVariants as tasks
use Rattle.fmp_codes.specs.declared.codes.Code.{Code}
use Rattle.fmp_codes.specs.declared.codes.Code.TheVariants as code
use Rattle.fmp_codes.specs.declared.records.Answer.{Answer}
use Rattle.fmp_codes.specs.declared.records.Answer.TheVariants as answer
use Rattle.fmp_codes.specs.declared.records.Event.{Event}
use Rattle.fmp_codes.specs.declared.records.Event.TheVariants as event
use Rattle.fmp_codes.proofs.Same.{tasks_same}
use Rattle.fmp_rules.specs.Effects.{Effect}
use Rattle.fmp_rules.specs.declared.machine.TaskRecord.{TaskRecord}
use Rattle.fmp_rules.specs.World.{World, task, runner_of}
use Rattle.fmp_rules.specs.Ordering.{Ordering}
use Rattle.fmp_rules.specs.Rows.{Row, is_refused_context, first_error, check, called, called_by, plain, in_handler}
use Rattle.fmp_rules.specs.Arguments.{caller, is_zero, task_named, task_or_caller, forever}
use Rattle.fmp_rules.specs.TaskCalls.{is_sleep, act, mact, can_act, mig_tsk, ext_tsk, ter_tsk, chg_pri, get_pri, tslp_tsk, wup, can_wup, rel_wai, sus_tsk, rsm_tsk, dly_tsk, task_row}
use Rattle.fmp_rules.specs.Step.{row_of, step}
use Rattle.fmp_law_safety.proofs.Calls.{from_task}
use Rattle.fmp_law_balance.specs.Accepted.{is_accepted}
use Rattle.fmp_law_balance.proofs.Steps.{report}
use Rattle.fmp_law_balance.proofs.waits.Events.{by_event}
use Rattle.fmp_law_balance.proofs.waits.Named.{task_known}
use Rattle.fmp_law_records.proofs.Rows.{task_rows}
use Rattle.fmp_law_records.proofs.counts.Tasks.{named_or_caller_is}
use Rattle.fmp_law_records.specs.Suspensions.{is_overflow}
use Rattle.fmp_law_records.specs.Lives.{queued_count}
use Rattle.fmp_law_records.specs.Accepting.{TaskReported, is_about, suits, is_full, is_wakeup, is_unsuited, AnswerFits, TaskCallFits}
use Rattle.fmp_law_records.proofs.Allows.{allows, task_allows}

-- What the first error says.

abbrev tells : (Answer → Bool) → Option Code → Bool
tells is None = false
tells is (Some c) = is (answer.Done c None)

-- the answer of a refused call is that of an error of its row
pub record Refusal {Q : Type 0} (w : World Q) (p : Proc) (is : Answer → Bool) (row : Row Q) : Type 0 where
  pub rule : is_refused_context w p row.rule ≡ false
  pub known : row.known ≡ true
  pub error : tells is (first_error row.errors) ≡ true

next_test : (is : Answer → Bool) (b : Bool) (x : Code) (o : Option Code) → is (answer.Done x None) ≡ false → tells is (if b then Some x else o) ≡ true → (b ≡ false) × (tells is o ≡ true)
next_test is true x o other h = absurd (both_ways _ other h)
next_test is false x o other h = (refl, h)

-- the test passes that alone has this code
first_test : (is : Answer → Bool) (b : Bool) (x : Code) (o : Option Code) → tells is o ≡ false → tells is (if b then Some x else o) ≡ true → b ≡ true
first_test is true x o others h = refl
first_test is false x o others h = absurd (both_ways _ others h)

-- the code is not that of one test
no_test : (is : Answer → Bool) (b : Bool) (x : Code) → is (answer.Done x None) ≡ false → tells is (if b then Some x else None) ≡ false
no_test is b x other = cond_both b (Some x) None (λ o. tells is o ≡ false) (λ _. other) (λ _. refl)

module _ {Q : Type 0} (w : World Q) (p : Proc) (is : Answer → Bool) (context_ : is (answer.Done code.Context None) ≡ false) (identifier_ : is (answer.Done code.Identifier None) ≡ false) (parameter_ : is (answer.Done code.Parameter None) ≡ false) where
  pub by_refusal : (row : Row Q) → is row.effect.1.answer ≡ false → is (called w p row).1.answer ≡ true → Refusal w p is row
  by_refusal row not_done h = go (check w p row) refl h
    where
      go : (found : Option Code) → check w p row ≡ found → is (called_by w row.effect found).1.answer ≡ true → Refusal w p is row
      go None e h = absurd (both_ways _ not_done h)
      go (Some c) e h =
          let one = next_test is (is_refused_context w p row.rule) code.Context _ context_ (ap (tells is) e ∙ h) in
          let two = next_test is (not row.known) code.Identifier _ identifier_ one.1 in
          let three = next_test is (not row.proper) code.Parameter _ parameter_ two.1 in
          record { rule = one.0; known = not-false _ two.0; error = three.1 }

-- What a call finds of a task, as the machine has it.

abbrev fits : Proc → TaskCall → TaskRecord → Bool
fits p (tasks.MigTsk id to) r = r.assigned.number == p.number
fits p (tasks.TerTsk id) r = r.active && r.assigned.number == p.number
fits p (tasks.ChgPri id n) r = r.active
fits p (tasks.GetPri id) r = r.active
fits p (tasks.WupTsk id) r = r.active
fits p (tasks.IwupTsk id) r = r.active
fits p (tasks.CanWup id) r = r.active
fits p (tasks.RelWai id) r = is_some r.wait
fits p (tasks.IrelWai id) r = is_some r.wait
fits p (tasks.SusTsk id) r = r.active
fits p (tasks.RsmTsk id) r = r.suspended
fits p other r = true

abbrev has_full : TaskCall → TaskRecord → Bool
has_full (tasks.ActTsk id) r = r.active && r.activations == 1
has_full (tasks.IactTsk id) r = r.active && r.activations == 1
has_full (tasks.MactTsk id to) r = r.active && r.activations == 1
has_full (tasks.ImactTsk id to) r = r.active && r.activations == 1
has_full (tasks.SusTsk id) r = r.suspended
has_full other r = false

not_so : (b : Bool) → not b ≡ true → b ≡ false
not_so false h = refl
not_so true h = absurd (false≢true h)

neither_here : (a b : Bool) → (not a || not b) ≡ true → (a && b) ≡ false
neither_here false b h = refl
neither_here true b h = not_so b h

no_wait : {X : Type 0} (o : Option X) → is_none o ≡ true → is_some o ≡ false
no_wait None h = refl
no_wait (Some x) h = absurd (false≢true h)

-- this is told of a task
pub record Agrees (x : TaskReported) (r : TaskRecord) : Type 0 where
  pub active : r.active ≡ x.life.active
  pub at : r.assigned ≡ x.life.at
  pub activations : r.activations ≡ queued_count x.life.queued
  pub suspended : r.suspended ≡ x.suspended
  pub waits : is_some r.wait ≡ is_some x.wait

module _ (p : Proc) (x : TaskReported) (r : TaskRecord) (h : Agrees x r) where
  here : (r.assigned.number == p.number) ≡ (x.life.at.number == p.number)
  here = ap (λ (q : Proc). q.number == p.number) h.at

  suits_same : (c : TaskCall) → fits p c r ≡ suits p c x
  suits_same (tasks.MigTsk id to) = here
  suits_same (tasks.TerTsk id) = ap (λ b. b && r.assigned.number == p.number) h.active ∙ ap (λ b. x.life.active && b) here
  suits_same (tasks.ChgPri id n) = h.active
  suits_same (tasks.GetPri id) = h.active
  suits_same (tasks.WupTsk id) = h.active
  suits_same (tasks.IwupTsk id) = h.active
  suits_same (tasks.CanWup id) = h.active
  suits_same (tasks.RelWai id) = h.waits
  suits_same (tasks.IrelWai id) = h.waits
  suits_same (tasks.SusTsk id) = h.active
  suits_same (tasks.RsmTsk id) = h.suspended
  suits_same c = refl

  one_queued : (o : Option (Option Proc)) → r.activations ≡ queued_count o → (r.activations == 1) ≡ is_some o
  one_queued None e = ap (λ n. n == 1) e
  one_queued (Some to) e = ap (λ n. n == 1) e

  pub activation_same : (r.active && r.activations == 1) ≡ (x.life.active && is_some x.life.queued)
  activation_same = ap (λ b. b && r.activations == 1) h.active ∙ ap (λ b. x.life.active && b) (one_queued x.life.queued h.activations)

  full_same : (c : TaskCall) → has_full c r ≡ is_full c x
  full_same (tasks.ActTsk id) = activation_same
  full_same (tasks.IactTsk id) = activation_same
  full_same (tasks.MactTsk id to) = activation_same
  full_same (tasks.ImactTsk id to) = activation_same
  full_same (tasks.SusTsk id) = h.suspended
  full_same c = refl

or_right : (a b : Bool) → b ≡ true → (a || b) ≡ true
or_right true b e = refl
or_right false b e = e

module _ {Q : Type 0} (k : Ordering Q) (w : World Q) (p : Proc) (t : Task) (few : length w.tasks ≤ 64) where
  -- an accepted call found its task so
  found_so : (c : TaskCall) (r : TaskRecord) → allows w p c r ≡ true → (fits p c r ≡ true) × (has_full c r ≡ false)
  found_so (tasks.ActTsk id) r h = (refl, not_so _ h)
  found_so (tasks.IactTsk id) r h = (refl, not_so _ h)
  found_so (tasks.MactTsk id to) r h = (refl, not_so _ (and_parts _ _ h).0)
  found_so (tasks.ImactTsk id to) r h = (refl, not_so _ (and_parts _ _ h).0)
  found_so (tasks.MigTsk id to) r h = ((and_parts _ _ h).0, refl)
  found_so (tasks.TerTsk id) r h = (h, refl)
  found_so (tasks.ChgPri id n) r h = (h, refl)
  found_so (tasks.GetPri id) r h = (h, refl)
  found_so (tasks.WupTsk id) r h = (h, refl)
  found_so (tasks.IwupTsk id) r h = (h, refl)
  found_so (tasks.CanWup id) r h = (h, refl)
  found_so (tasks.RelWai id) r h = (h, refl)
  found_so (tasks.IrelWai id) r h = (h, refl)
  found_so (tasks.SusTsk id) r h = let parts = and_parts _ _ h in (parts.0, not_so _ parts.1)
  found_so (tasks.RsmTsk id) r h = (h, refl)
  found_so c r h = (refl, refl)

  -- a refused one found it so
  pub record Refuses (c : TaskCall) (a : Answer) : Type 0 where
    pub unsuited : is_about t (runner_of w p) c ≡ true → is_unsuited a ≡ true → fits p c (task w t) ≡ false
    pub too_many : is_about t (runner_of w p) c ≡ true → is_overflow a ≡ true → fits p c (task w t) ≡ true
    pub full : is_about t (runner_of w p) c ≡ true → is_overflow a ≡ true → (is_wakeup c || has_full c (task w t)) ≡ true

  abbrev the : Option Task → Task
  the o = unwrap_or o (as_task 1)

  -- the task that the row names is t
  is_that : (c : TaskCall) (u : Task) → is_about t (runner_of w p) c ≡ (u.number == t.number) → is_about t (runner_of w p) c ≡ true → u ≡ t
  is_that c u named about = tasks_same u t (eqb-true u.number t.number (sym named ∙ about))

  by_errors : (c : TaskCall) (row : Row Q) (u : Task) → (is_refused_context w p row.rule ≡ false → row.known ≡ true → is_about t (runner_of w p) c ≡ (u.number == t.number)) →
      is_unsuited row.effect.1.answer ≡ false → is_overflow row.effect.1.answer ≡ false →
      (tells is_unsuited (first_error row.errors) ≡ true → fits p c (task w u) ≡ false) →
      (tells is_overflow (first_error row.errors) ≡ true → (fits p c (task w u) ≡ true) × ((is_wakeup c || has_full c (task w u)) ≡ true)) → Refuses c (called w p row).1.answer
  by_errors c row u named no_state no_overflow state overflow = record {
    unsuited = λ about h.
        let e = by_refusal w p is_unsuited refl refl refl row no_state h in
        subst (λ (y : Task). fits p c (task w y) ≡ false) (is_that c u (named e.rule e.known) about) (state e.error);
    too_many = λ about h.
        let e = by_refusal w p is_overflow refl refl refl row no_overflow h in
        subst (λ (y : Task). fits p c (task w y) ≡ true) (is_that c u (named e.rule e.known) about) (overflow e.error).0;
    full = λ about h.
        let e = by_refusal w p is_overflow refl refl refl row no_overflow h in
        subst (λ (y : Task). (is_wakeup c || has_full c (task w y)) ≡ true) (is_that c u (named e.rule e.known) about) (overflow e.error).1;
  }

  -- a row without errors
  by_none : (c : TaskCall) (row : Row Q) → row.errors ≡ [] → is_unsuited row.effect.1.answer ≡ false → is_overflow row.effect.1.answer ≡ false → Refuses c (called w p row).1.answer
  by_none c row none no_state no_overflow = record {
    unsuited = λ about h. absurd (false≢true (sym (ap (λ es. tells is_unsuited (first_error es)) none) ∙ (by_refusal w p is_unsuited refl refl refl row no_state h).error));
    too_many = λ about h. absurd (false≢true (sym (ap (λ es. tells is_overflow (first_error es)) none) ∙ (by_refusal w p is_overflow refl refl refl row no_overflow h).error));
    full = λ about h. absurd (false≢true (sym (ap (λ es. tells is_overflow (first_error es)) none) ∙ (by_refusal w p is_overflow refl refl refl row no_overflow h).error));
  }

  never : {X : Type 0} (is : Answer → Bool) (b : Bool) (x : Code) → is (answer.Done x None) ≡ false → tells is (if b then Some x else None) ≡ true → X
  never is b x other h = absurd (both_ways _ (no_test is b x other) h)

  refuses_act : (c : TaskCall) (row : Row Q) (o : Option Task) → row.effect.1.answer ≡ answer.Done code.Accepted None →
      (is_refused_context w p row.rule ≡ false → row.known ≡ true → is_about t (runner_of w p) c ≡ ((the o).number == t.number)) →
      row.errors ≡ ((task w (the o)).active && (task w (the o)).activations == 1, code.QueueOverflow) ∷ [] → fits p c (task w (the o)) ≡ true → has_full c (task w (the o)) ≡ ((task w (the o)).active && (task w (the o)).activations == 1) → Refuses c (called w p row).1.answer
  refuses_act c row o accepted named errors suits_ full_ =
      by_errors c row (the o) named (ap is_unsuited accepted) (ap is_overflow accepted)
      (λ e. never is_unsuited _ code.QueueOverflow refl (sym (ap (λ es. tells is_unsuited (first_error es)) errors) ∙ e))
      (λ e. (suits_, or_right (is_wakeup c) _ (full_ ∙ first_test is_overflow _ code.QueueOverflow None refl (sym (ap (λ es. tells is_overflow (first_error es)) errors) ∙ e))))

  -- a call that wants a task of one kind, and has no other error
  refuses_one : (c : TaskCall) (row : Row Q) (u : Task) (b : Bool) → (is_refused_context w p row.rule ≡ false → row.known ≡ true → is_about t (runner_of w p) c ≡ (u.number == t.number)) →
      is_unsuited row.effect.1.answer ≡ false → is_overflow row.effect.1.answer ≡ false → row.errors ≡ (b, code.ObjectState) ∷ [] → (b ≡ true → fits p c (task w u) ≡ false) → Refuses c (called w p row).1.answer
  refuses_one c row u b named no_state no_overflow errors bad =
      by_errors c row u named no_state no_overflow
      (λ e. bad (first_test is_unsuited b code.ObjectState None refl (sym (ap (λ es. tells is_unsuited (first_error es)) errors) ∙ e)))
      (λ e. never is_overflow b code.ObjectState refl (sym (ap (λ es. tells is_overflow (first_error es)) errors) ∙ e))

  refuses_wup : (c : TaskCall) (row : Row Q) (u : Task) (b d : Bool) → (is_refused_context w p row.rule ≡ false → row.known ≡ true → is_about t (runner_of w p) c ≡ (u.number == t.number)) →
      is_unsuited row.effect.1.answer ≡ false → is_overflow row.effect.1.answer ≡ false → row.errors ≡ (b, code.ObjectState) ∷ (d, code.QueueOverflow) ∷ [] →
      (b ≡ true → fits p c (task w u) ≡ false) → (b ≡ false → fits p c (task w u) ≡ true) → (d ≡ true → (is_wakeup c || has_full c (task w u)) ≡ true) → Refuses c (called w p row).1.answer
  refuses_wup c row u b d named no_state no_overflow errors bad good many =
      by_errors c row u named no_state no_overflow
      (λ e. bad (first_test is_unsuited b code.ObjectState _ (no_test is_unsuited d code.QueueOverflow refl) (sym (ap (λ es. tells is_unsuited (first_error es)) errors) ∙ e)))
      (λ e.
      let next = next_test is_overflow b code.ObjectState _ refl (sym (ap (λ es. tells is_overflow (first_error es)) errors) ∙ e) in
      (good next.0, many (first_test is_overflow d code.QueueOverflow None refl next.1)))

  refuses_ter : (c : TaskCall) (row : Row Q) (u : Task) (b d : Bool) → (is_refused_context w p row.rule ≡ false → row.known ≡ true → is_about t (runner_of w p) c ≡ (u.number == t.number)) →
      is_unsuited row.effect.1.answer ≡ false → is_overflow row.effect.1.answer ≡ false → row.errors ≡ (b, code.IllegalUse) ∷ (d, code.ObjectState) ∷ [] →
      (d ≡ true → fits p c (task w u) ≡ false) → Refuses c (called w p row).1.answer
  refuses_ter c row u b d named no_state no_overflow errors bad =
      by_errors c row u named no_state no_overflow
      (λ e. bad (first_test is_unsuited d code.ObjectState None refl (next_test is_unsuited b code.IllegalUse _ refl (sym (ap (λ es. tells is_unsuited (first_error es)) errors) ∙ e)).1))
      (λ e. never is_overflow d code.ObjectState refl (next_test is_overflow b code.IllegalUse _ refl (sym (ap (λ es. tells is_overflow (first_error es)) errors) ∙ e)).1)

  wup_accepted : (o : Option Task) → is_accepted (wup k w o).effect.1.answer ≡ true
  unfolding wup
  wup_accepted o = cond_both (is_sleep (task w (the o)).wait) _ _ (λ (did : World Q × Effect). is_accepted did.1.answer ≡ true) (λ _. refl) (λ _. refl)

  fine : (a : Answer) → is_accepted a ≡ true → (is_unsuited a ≡ false) × (is_overflow a ≡ false)
  fine (answer.Done code.Accepted v) h = (refl, refl)
  fine a h = absurd (false≢true h)

  record IsFine (did : World Q × Effect) : Type 0 where
    pub unsuited : is_unsuited did.1.answer ≡ false
    pub full : is_overflow did.1.answer ≡ false

  slept : (timeout : ℤ) → IsFine (tslp_tsk k w p timeout).effect
  unfolding tslp_tsk
  slept timeout =
      cond_both (nat_lt 0 (task w (caller w p)).wakeups) _ _ IsFine (λ _. record { unsuited = refl; full = refl })
      (λ _. cond_both (is_zero timeout) _ _ IsFine (λ _. record { unsuited = refl; full = refl }) (λ _. record { unsuited = refl; full = refl }))

  task_refuses : (c : TaskCall) → Refuses c (called w p (task_row k w p c)).1.answer
  unfolding task_rows
  task_refuses (tasks.ActTsk id) =
      refuses_act (tasks.ActTsk id) (act k w (task_or_caller w p id)) (task_or_caller w p id) refl (λ rule known. named_or_caller_is w p t id few (from_task w p false false rule) known) refl refl refl
  task_refuses (tasks.IactTsk id) = refuses_act (tasks.IactTsk id) (in_handler (act k w (task_named w id))) (task_named w id) refl (λ rule known. task_known w id few known t) refl refl refl
  task_refuses (tasks.MactTsk id to) =
      refuses_act (tasks.MactTsk id to) (mact k w (task_or_caller w p id) to) (task_or_caller w p id) refl (λ rule known. named_or_caller_is w p t id few (from_task w p false false rule) (and_parts _ _ known).0) refl refl refl
  task_refuses (tasks.ImactTsk id to) =
      refuses_act (tasks.ImactTsk id to) (in_handler (mact k w (task_named w id) to)) (task_named w id) refl (λ rule known. task_known w id few (and_parts (is_some (task_named w id)) _ known).0 t) refl refl refl
  task_refuses (tasks.CanAct id) = by_none (tasks.CanAct id) (can_act w (task_or_caller w p id)) refl refl refl
  task_refuses (tasks.MigTsk id to) =
      let o : Option Task = task_or_caller w p id in
      refuses_one (tasks.MigTsk id to) (mig_tsk k w p o to) (the o) _ (λ rule known. named_or_caller_is w p t id few (from_task w p false _ rule) (and_parts _ _ known).0) refl refl refl (not_so _)
  task_refuses tasks.ExtTsk = by_none tasks.ExtTsk (ext_tsk k w p) refl refl refl
  task_refuses (tasks.TerTsk id) =
      let o : Option Task = task_named w id in
      refuses_ter (tasks.TerTsk id) (ter_tsk k w p o) (the o) _ _ (λ rule known. task_known w id few known t) refl refl refl (neither_here (task w (the o)).active _)
  task_refuses (tasks.ChgPri id n) =
      let o : Option Task = task_or_caller w p id in
      refuses_one (tasks.ChgPri id n) (chg_pri k w o n) (the o) _ (λ rule known. named_or_caller_is w p t id few (from_task w p false false rule) known) refl refl refl (not_so _)
  task_refuses (tasks.GetPri id) =
      let o : Option Task = task_or_caller w p id in
      refuses_one (tasks.GetPri id) (get_pri w o) (the o) _ (λ rule known. named_or_caller_is w p t id few (from_task w p false false rule) known) refl refl refl (not_so _)
  task_refuses tasks.SlpTsk = let h = slept forever in by_none tasks.SlpTsk (tslp_tsk k w p forever) refl h.unsuited h.full
  task_refuses (tasks.TslpTsk timeout) = let h = slept timeout in by_none (tasks.TslpTsk timeout) (tslp_tsk k w p timeout) refl h.unsuited h.full
  task_refuses (tasks.WupTsk id) =
      let o : Option Task = task_or_caller w p id in
      let h = fine _ (wup_accepted o) in
      refuses_wup (tasks.WupTsk id) (wup k w o) (the o) _ _ (λ rule known. named_or_caller_is w p t id few (from_task w p false false rule) known) h.0 h.1 refl (not_so _) (not-false _) (λ _. refl)
  task_refuses (tasks.IwupTsk id) =
      let o : Option Task = task_named w id in
      let h = fine _ (wup_accepted o) in
      refuses_wup (tasks.IwupTsk id) (in_handler (wup k w o)) (the o) _ _ (λ rule known. task_known w id few known t) h.0 h.1 refl (not_so _) (not-false _) (λ _. refl)
  task_refuses (tasks.CanWup id) =
      let o : Option Task = task_or_caller w p id in
      refuses_one (tasks.CanWup id) (can_wup w o) (the o) _ (λ rule known. named_or_caller_is w p t id few (from_task w p false false rule) known) refl refl refl (not_so _)
  task_refuses (tasks.RelWai id) =
      let o : Option Task = task_named w id in
      refuses_one (tasks.RelWai id) (rel_wai k w o) (the o) _ (λ rule known. task_known w id few known t) refl refl refl (no_wait (task w (the o)).wait)
  task_refuses (tasks.IrelWai id) =
      let o : Option Task = task_named w id in
      refuses_one (tasks.IrelWai id) (in_handler (rel_wai k w o)) (the o) _ (λ rule known. task_known w id few known t) refl refl refl (no_wait (task w (the o)).wait)
  task_refuses (tasks.SusTsk id) =
      let o : Option Task = task_or_caller w p id in
      refuses_wup (tasks.SusTsk id) (sus_tsk k w p o) (the o) _ _ (λ rule known. named_or_caller_is w p t id few (from_task w p false _ rule) known) refl refl refl (not_so _) (not-false _) (λ e. e)
  task_refuses (tasks.RsmTsk id) =
      let o : Option Task = task_named w id in
      refuses_one (tasks.RsmTsk id) (rsm_tsk k w o) (the o) _ (λ rule known. task_known w id few known t) refl refl refl (not_so _)
  task_refuses (tasks.DlyTsk time) = by_none (tasks.DlyTsk time) (dly_tsk k w p time) refl refl refl

  accepted_found : (c : TaskCall) → is_about t (runner_of w p) c ≡ true → is_accepted (called w p (task_row k w p c)).1.answer ≡ true → (fits p c (task w t) ≡ true) × (has_full c (task w t) ≡ false)
  accepted_found tasks.ExtTsk about yes_ = (refl, refl)
  accepted_found c about yes_ = found_so c (task w t) ((task_allows k w p t few c).found (and_from _ _ yes_ about))

  module _ (x : TaskReported) (h : Agrees x (task w t)) where
    fits_called : (c : TaskCall) → is_about t (runner_of w p) c ≡ true → AnswerFits p c x (called w p (task_row k w p c)).1.answer
    fits_called c about = record {
      suited = λ yes_. sym (suits_same p x (task w t) h c) ∙ (accepted_found c about yes_).0;
      free = λ yes_. sym (full_same p x (task w t) h c) ∙ (accepted_found c about yes_).1;
      unsuited = λ e. sym (suits_same p x (task w t) h c) ∙ (task_refuses c).unsuited about e;
      too_many = λ e. sym (suits_same p x (task w t) h c) ∙ (task_refuses c).too_many about e;
      full = λ e. sym (ap (λ b. is_wakeup c || b) (full_same p x (task w t) h c)) ∙ (task_refuses c).full about e;
    }

    fits_call : (c : Call) → TaskCallFits t x (report (event.Call p c) (runner_of w p) (called w p (row_of k w p c)).1)
    fits_call (call.Task c) = fits_called c
    fits_call c = tt

    fits_idle : (c : Call) → TaskCallFits t x (report (event.Call p c) (runner_of w p) (plain answer.Idle))
    fits_idle (call.Task c) = λ about. record { suited = λ e. absurd (false≢true e); free = λ e. absurd (false≢true e); unsuited = λ e. absurd (false≢true e); too_many = λ e. absurd (false≢true e); full = λ e. absurd (false≢true e) }
    fits_idle c = tt

pub fits_step : {Q : Type 0} (k : Ordering Q) (w : World Q) (t : Task) (x : TaskReported) → Agrees x (task w t) → length w.tasks ≤ 64 → (e : Event) → TaskCallFits t x (step k w e).1
fits_step k w t x h few e =
    by_event k w (λ v r. TaskCallFits t x r) (λ v cs r y ps done_. done_)
    (λ p c. fits_call k w p t few x h c) (λ p c. fits_idle k w p t few x h c) (λ p. tt) (λ p. tt) (λ p. tt) (λ p a none. tt) e
