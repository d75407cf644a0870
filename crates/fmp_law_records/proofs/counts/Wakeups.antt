-- What each step does to the queued wakeups of a task: what is taken of them was queued.
use Rattle.std.proofs.Common.{◌≡◌, ℕ, ◌+◌, ◌-◌, ◌≤◌, ◌==◌, ℤ, Bool, true, false, ◌&&◌, length, refl, sym, ap, ◌∙◌, subst, Option, None, pos, arith, Some}
use Rattle.std.specs.Prelude.{if◌then◌else◌, nat_lt, unwrap_or}
use Rattle.std.proofs.lemmas.Bool.{cond_both, cond-false, both_ways, false≢true, true≢false, not-false, and_parts, eqb-true, ltb-true, and_right}
use Rattle.std.proofs.Math.Bool.{and-true}
use Rattle.fmp_codes.specs.Numbers.{as_task}
use Rattle.fmp_codes.specs.declared.numbers.Proc.{Proc}
use Rattle.fmp_codes.specs.declared.numbers.Task.{Task}
use Rattle.fmp_codes.specs.declared.calls.Call.{Call}
use Rattle.fmp_codes.specs.declared.calls.Call.TheVariants as call
use Rattle.fmp_codes.specs.declared.calls.TaskCall.{TaskCall}
use Rattle.fmp_codes.specs.declared.calls.TaskCall.TheVariants as tasks
use Rattle.fmp_codes.specs.declared.codes.Code.{Code}
use Rattle.fmp_codes.specs.declared.codes.Code.TheVariants as code
use Rattle.fmp_codes.specs.declared.records.Answer.{Answer}
use Rattle.fmp_codes.specs.declared.records.Answer.TheVariants as answer
use Rattle.fmp_codes.specs.declared.records.Event.{Event}
use Rattle.fmp_codes.specs.declared.records.Event.TheVariants as event
use Rattle.fmp_codes.specs.declared.records.Record.{Record}
use Rattle.fmp_codes.proofs.Same.{tasks_same}
use Rattle.fmp_rules.specs.Effects.{Effect}
use Rattle.fmp_rules.specs.declared.machine.TaskRecord.{TaskRecord}
use Rattle.fmp_rules.specs.declared.machine.Wait.TheVariants as wait
use Rattle.fmp_rules.specs.World.{World, with_item, task, runner_of}
use Rattle.fmp_rules.specs.Ordering.{Ordering, with_task, begin_wait}
use Rattle.fmp_rules.specs.Tasks as words
use Rattle.fmp_rules.specs.Rows.{Row, called, refused, plain, done, in_handler}
use Rattle.fmp_rules.specs.Arguments.{caller, is_zero, task_named, task_or_caller, forever, ticks_of}
use Rattle.fmp_rules.specs.Processors.{opened}
use Rattle.fmp_rules.specs.TaskCalls.{is_sleep, act, mact, can_act, mig_tsk, ext_tsk, ter_tsk, chg_pri, get_pri, tslp_tsk, wup, can_wup, rel_wai, sus_tsk, rsm_tsk, dly_tsk, task_row}
use Rattle.fmp_rules.specs.Step.{row_of, step}
use Rattle.fmp_law_safety.proofs.Calls.{from_task, FromTask}
use Rattle.fmp_law_balance.specs.Accepted.{is_accepted}
use Rattle.fmp_law_balance.specs.Queues.{is_task}
use Rattle.fmp_law_balance.proofs.Called.{refuses, by_called, either_way, not_accepted}
use Rattle.fmp_law_balance.proofs.Steps.{report}
use Rattle.fmp_law_balance.specs.Waits.Waits.{is_number_of}
use Rattle.fmp_law_records.specs.Counts.Naming.{names_task}
use Rattle.fmp_law_records.specs.Counts.Lives.{ends}
use Rattle.fmp_law_records.specs.Counts.Wakeups.{sleeps, wakes, cancels, releases_nobody, queued_after, TakesWhatIsQueued}
use Rattle.fmp_law_balance.proofs.waits.Follows.{running_may}
use Rattle.fmp_law_balance.proofs.waits.Named.{by_task, task_known}
use Rattle.fmp_law_records.proofs.counts.Tasks.{is_caller_of, named_or_caller_is, after_change, changed_here, changed_there}
use Rattle.fmp_law_records.proofs.counts.Sparing.{Tally, tally, Spares, spares_ready, spares_begin, spares_tick}
use Rattle.fmp_law_records.proofs.counts.SparesCalls.{spares_mig, spares_chg, spares_rel, spares_sus, spares_rsm, spares_dly, tally_call}
use Rattle.fmp_law_balance.proofs.waits.Events.{by_event}
use Rattle.fmp_law_records.proofs.counts.Lives.{refused_ends, idle_ends}
use Rattle.fmp_rules.specs.Tick.{tick}
use Rattle.fmp_law_safety.specs.Safe.{Safe}

-- Of an active task so many wakeups are queued, and of a dormant one none.
pub record QueuedWakeups (queued : ℕ) (x : Tally) : Type 0 where
  pub active : x.active ≡ true → x.wakeups ≡ queued
  pub dormant : x.active ≡ false → queued ≡ 0

-- what is not accepted and ends nothing leaves what is queued
pub nothing_queued : (t : Task) (r : Record) (n : ℕ) → is_accepted r.answer ≡ false → ends t r.runner r.answer r.event ≡ false → queued_after t r n ≡ n
nothing_queued t r n refused no_end =
    cond-false (ends t r.runner r.answer r.event) _ _ no_end
    ∙ cond-false (cancels t r.runner r.event && is_accepted r.answer) _ _ (and_right (cancels t r.runner r.event) _ refused)
    ∙ cond-false (sleeps t r.runner r.event && is_accepted r.answer) _ _ (and_right (sleeps t r.runner r.event) _ refused)
    ∙ cond-false (wakes t r.runner r.event && is_accepted r.answer && releases_nobody r.releases) _ _ (ap (λ (b : Bool). b && releases_nobody r.releases) (and_right (wakes t r.runner r.event) _ refused))

module _ {Q : Type 0} (w : World Q) (t : Task) (n : ℕ) (old : QueuedWakeups n (tally (task w t))) where
  spared_queue : (v : World Q) → Spares t w v → QueuedWakeups n (tally (task v t))
  spared_queue v h = subst (QueuedWakeups n) (sym h.counts) old

  module _ (here : t.number ≤ length w.tasks) (u : Task) (v : World Q) (r : TaskRecord) (e : v.tasks ≡ with_item w.tasks u.number r) where
    -- u has another record, and so much is queued for it then
    queue_changed : (m : ℕ) (b : Bool) → b ≡ (u.number == t.number) → (QueuedWakeups n (tally (task w u)) → QueuedWakeups m (tally r)) → QueuedWakeups (if b then m else n) (tally (task v t))
    queue_changed m b same new =
        subst (λ (x : Bool). QueuedWakeups (if x then m else n) (tally (task v t))) (sym same)
        (by_task (λ x c. QueuedWakeups n (tally (task w x)) → QueuedWakeups (if c then m else n) (tally (task v x))) u t
        (λ at o. rw (e, changed_here w u r (rw at here)) (new o))
        (λ d o. rw (e, changed_there w u r t d) o) old)

    -- what is queued stays
    queue_kept : (QueuedWakeups n (tally (task w u)) → QueuedWakeups n (tally r)) → QueuedWakeups n (tally (task v t))
    queue_kept new = rw e (after_change w u r t (λ o. QueuedWakeups n (tally o)) new old)

module _ {Q : Type 0} (k : Ordering Q) (w : World Q) (p : Proc) (t : Task) (n : ℕ) (old : QueuedWakeups n (tally (task w t))) (few : length w.tasks ≤ 64) (here : t.number ≤ length w.tasks) where
  abbrev QueuesNow : Call → World Q × Effect → Type 0
  QueuesNow c did = QueuedWakeups (queued_after t (report (event.Call p c) (runner_of w p) did.1) n) (tally (task did.0 t))

  refused_queue : (c : Call) (x : Code) → refuses x ≡ true → QueuesNow c (w, refused x)
  refused_queue c x e =
      let r : Record = report (event.Call p c) (runner_of w p) (refused x) in
      subst (λ (m : ℕ). QueuedWakeups m (tally (task w t))) (sym (nothing_queued t r n (not_accepted x e) (refused_ends t (runner_of w p) x (event.Call p c) (not_accepted x e)))) old

  abbrev Kept : World Q × Effect → Type 0
  Kept did = QueuedWakeups n (tally (task did.0 t))

  kept : (row : Row Q) → Kept row.effect → Kept (called w p row)
  kept row accepted = either_way w p Kept row (λ c. old) accepted

  abbrev the : Option Task → Task
  the o = unwrap_or o (as_task 1)

  -- a task that starts has no queued wakeup, as when it was dormant
  kept_activation : (u : Task) (to : Proc) (on : Option Proc) → Kept (words.activate k w u to on, done)
  kept_activation u to on =
      let r : TaskRecord = record (task w u) { activations = 1; kept = on } in
      cond_both (task w u).active (with_task w u r) (words.start k w u to) (λ (v : World Q). QueuedWakeups n (tally (task v t)))
      (λ _. queue_kept w t n old here u (with_task w u r) r refl (λ h. record { active = h.active; dormant = h.dormant }))
      (λ dormant. queue_kept w t n old here u (words.start k w u to) (words.started (task w u) to) refl (λ h. record { active = λ e. sym (h.dormant dormant); dormant = λ e. absurd (true≢false e) }))

  none_at_end : (r : TaskRecord) → QueuedWakeups 0 (tally (words.ended r))
  none_at_end r =
      cond_both (nat_lt 0 r.activations) _ _ (λ (o : TaskRecord). QueuedWakeups 0 (tally o)) (λ _. record { active = λ e. refl; dormant = λ e. refl }) (λ _. record { active = λ e. absurd (false≢true e); dormant = λ e. refl })

  abbrev SleepsNow : World Q × Effect → Type 0
  SleepsNow did = QueuedWakeups (if is_task t (runner_of w p) && is_accepted did.1.answer then n - 1 else n) (tally (task did.0 t))

  asleep : (v : World Q) (a : Answer) → is_accepted a ≡ false → QueuedWakeups n (tally (task v t)) → SleepsNow (v, plain a)
  asleep v a none h = subst (λ (m : ℕ). QueuedWakeups m (tally (task v t))) (sym (cond-false (is_task t (runner_of w p) && is_accepted a) (n - 1) n (and_right (is_task t (runner_of w p)) _ none))) h

  queue_sleep : (timeout : ℤ) → SleepsNow (called w p (tslp_tsk k w p timeout))
  unfolding tslp_tsk
  queue_sleep timeout =
      let u : Task = caller w p in
      let r : TaskRecord = record (task w u) { wakeups = (task w u).wakeups - 1 } in
      by_called w p SleepsNow (tslp_tsk k w p timeout) tt (λ c e. asleep w (refused c).answer (not_accepted c e) old)
      (λ a.
      cond_both (nat_lt 0 (task w u).wakeups) _ _ SleepsNow
      (λ _.
      subst (λ (b : Bool). QueuedWakeups (if b then n - 1 else n) (tally (task (with_task w u r) t))) (sym (and-true (is_task t (runner_of w p))))
      (queue_changed w t n old here u (with_task w u r) r refl (n - 1) (is_task t (runner_of w p)) (is_caller_of w p t (from_task w p false true a.rule))
      (λ h. record { active = λ e. ap (λ (m : ℕ). m - 1) (h.active e); dormant = λ e. ap (λ (m : ℕ). m - 1) (h.dormant e) })))
      (λ _. cond_both (is_zero timeout) _ _ SleepsNow (λ _. asleep w (refused code.TimedOut).answer refl old)
      (λ _.
      let v : World Q = begin_wait k w u wait.Sleep (ticks_of timeout) in
      asleep v answer.Wait refl (spared_queue w t n old v (spares_begin t w k u wait.Sleep (ticks_of timeout))))))

  abbrev WakesNow : Bool → World Q × Effect → Type 0
  WakesNow b did = QueuedWakeups (if b && is_accepted did.1.answer && releases_nobody did.1.releases then n + 1 else n) (tally (task did.0 t))

  nobody_wakes : (b : Bool) (v : World Q) (c : Code) → is_accepted (refused c).answer ≡ false → QueuedWakeups n (tally (task v t)) → WakesNow b (v, refused c)
  nobody_wakes b v c none h =
      subst (λ (m : ℕ). QueuedWakeups m (tally (task v t))) (sym (cond-false (b && is_accepted (refused c).answer && true) (n + 1) n (ap (λ (x : Bool). x && true) (and_right b _ none)))) h

  -- a wakeup that is queued, or releases
  queue_wup : (b : Bool) (o : Option Task) → b ≡ ((the o).number == t.number) → (task w (the o)).active ≡ true → WakesNow b (wup k w o).effect
  unfolding wup
  queue_wup b o same active =
      let u : Task = the o in
      let r : TaskRecord = record (task w u) { wakeups = (task w u).wakeups + 1 } in
      cond_both (is_sleep (task w u).wait) _ _ (WakesNow b)
      (λ _.
      subst (λ (m : ℕ). QueuedWakeups m (tally (task (words.make_ready k w u) t))) (sym (cond-false (b && true && false) (n + 1) n (and_right (b && true) false refl)))
      (spared_queue w t n old (words.make_ready k w u) (spares_ready t w k u)))
      (λ _.
      subst (λ (x : Bool). QueuedWakeups (if x then n + 1 else n) (tally (task (with_task w u r) t))) (sym (and-true (b && true) ∙ and-true b))
      (queue_changed w t n old here u (with_task w u r) r refl (n + 1) b same
      (λ h. record { active = λ e. ap (λ (m : ℕ). m + 1) (h.active e); dormant = λ e. absurd (both_ways _ e active) })))

  queue_task : (c : TaskCall) → QueuesNow (call.Task c) (called w p (task_row k w p c))
  unfolding act mact can_act ext_tsk ter_tsk can_wup wup words.finish opened
  queue_task (tasks.ActTsk id) = kept (act k w (task_or_caller w p id)) (kept_activation _ _ _)
  queue_task (tasks.IactTsk id) = kept (in_handler (act k w (task_named w id))) (kept_activation _ _ _)
  queue_task (tasks.MactTsk id to) = kept (mact k w (task_or_caller w p id) to) (kept_activation _ _ _)
  queue_task (tasks.ImactTsk id to) = kept (in_handler (mact k w (task_named w id) to)) (kept_activation _ _ _)
  queue_task (tasks.CanAct id) =
      let u : Task = the (task_or_caller w p id) in
      let r : TaskRecord = record (task w u) { activations = 0; kept = None } in
      kept (can_act w (task_or_caller w p id)) (queue_kept w t n old here u (with_task w u r) r refl (λ h. record { active = h.active; dormant = h.dormant }))
  queue_task (tasks.MigTsk id to) = kept (mig_tsk k w p (task_or_caller w p id) to) (spared_queue w t n old _ (spares_mig k w p t (task_or_caller w p id) to))
  queue_task tasks.ExtTsk =
      let u : Task = caller w p in
      by_called w p (QueuesNow (call.Task tasks.ExtTsk)) (ext_tsk k w p) tt (refused_queue (call.Task tasks.ExtTsk))
      (λ a.
      queue_changed w t n old here u (words.finish k (opened w p) u) (words.ended (task w u)) refl 0 (is_task t (runner_of w p)) (is_caller_of w p t (from_task w p true false a.rule)) (λ h. none_at_end (task w u)))
  queue_task (tasks.TerTsk id) =
      let o : Option Task = task_named w id in
      by_called w p (QueuesNow (call.Task (tasks.TerTsk id))) (ter_tsk k w p o) (refl, (refl, tt)) (refused_queue (call.Task (tasks.TerTsk id)))
      (λ a. queue_changed w t n old here (the o) (words.finish k w (the o)) (words.ended (task w (the o))) refl 0 (is_number_of t id) (task_known w id few a.known t) (λ h. none_at_end (task w (the o))))
  queue_task (tasks.ChgPri id x) = kept (chg_pri k w (task_or_caller w p id) x) (spared_queue w t n old _ (spares_chg k w p t (task_or_caller w p id) x))
  queue_task (tasks.GetPri id) = kept (get_pri w (task_or_caller w p id)) old
  queue_task tasks.SlpTsk = queue_sleep forever
  queue_task (tasks.TslpTsk timeout) = queue_sleep timeout
  queue_task (tasks.WupTsk id) =
      let o : Option Task = task_or_caller w p id in
      by_called w p (WakesNow (names_task t (runner_of w p) id)) (wup k w o) (refl, (refl, tt)) (λ c e. nobody_wakes _ w c (not_accepted c e) old)
      (λ a. queue_wup _ o (named_or_caller_is w p t id few (from_task w p false false a.rule) a.known) (not-false _ a.errors.0))
  queue_task (tasks.IwupTsk id) =
      let o : Option Task = task_named w id in
      by_called w p (WakesNow (is_number_of t id)) (in_handler (wup k w o)) (refl, (refl, tt)) (λ c e. nobody_wakes _ w c (not_accepted c e) old)
      (λ a. queue_wup _ o (task_known w id few a.known t) (not-false _ a.errors.0))
  queue_task (tasks.CanWup id) =
      let o : Option Task = task_or_caller w p id in
      let r : TaskRecord = record (task w (the o)) { wakeups = 0 } in
      let b : Bool = names_task t (runner_of w p) id in
      by_called w p (QueuesNow (call.Task (tasks.CanWup id))) (can_wup w o) (refl, tt) (refused_queue (call.Task (tasks.CanWup id)))
      (λ a.
      subst (λ (x : Bool). QueuedWakeups (if x then 0 else n) (tally (task (with_task w (the o) r) t))) (sym (and-true b))
      (queue_changed w t n old here (the o) (with_task w (the o) r) r refl 0 b (named_or_caller_is w p t id few (from_task w p false false a.rule) a.known)
      (λ h. record { active = λ e. refl; dormant = λ e. refl })))
  queue_task (tasks.RelWai id) = kept (rel_wai k w (task_named w id)) (spared_queue w t n old _ (spares_rel k w p t (task_named w id)))
  queue_task (tasks.IrelWai id) = kept (in_handler (rel_wai k w (task_named w id))) (spared_queue w t n old _ (spares_rel k w p t (task_named w id)))
  queue_task (tasks.SusTsk id) = kept (sus_tsk k w p (task_or_caller w p id)) (spared_queue w t n old _ (spares_sus k w p t (task_or_caller w p id)))
  queue_task (tasks.RsmTsk id) = kept (rsm_tsk k w (task_named w id)) (spared_queue w t n old _ (spares_rsm k w p t (task_named w id)))
  queue_task (tasks.DlyTsk time) = kept (dly_tsk k w p time) (spared_queue w t n old _ (spares_dly k w p t time))

  queue_call : (c : Call) → QueuesNow c (called w p (row_of k w p c))
  queue_call (call.Task c) = queue_task c
  queue_call c = subst (QueuedWakeups n) (sym (tally_call k w p t c refl)) old

-- after each step as many wakeups are queued as its record says
pub queue_step : {Q : Type 0} (k : Ordering Q) (w : World Q) (t : Task) (n : ℕ) → QueuedWakeups n (tally (task w t)) → length w.tasks ≤ 64 → t.number ≤ length w.tasks → (e : Event) →
    QueuedWakeups (queued_after t (step k w e).1 n) (tally (task (step k w e).0 t))
queue_step k w t n old few here e =
    by_event k w (λ v r. QueuedWakeups (queued_after t r n) (tally (task v t))) (λ v cs r x ps h. h)
    (λ p c. queue_call k w p t n old few here c)
    (λ p c.
    let r : Record = report (event.Call p c) (runner_of w p) (plain answer.Idle) in
    subst (λ (m : ℕ). QueuedWakeups m (tally (task w t))) (sym (nothing_queued t r n refl (idle_ends t (runner_of w p) (event.Call p c)))) old)
    (λ p. subst (QueuedWakeups n) (sym (spares_tick k p t w)) old) (λ p. old) (λ p. old) (λ p a h. old) e

-- What is taken was queued.

-- what is not accepted takes nothing
nothing_taken : (t : Task) (n : ℕ) (r : Record) → is_accepted r.answer ≡ false → TakesWhatIsQueued t n r
nothing_taken t n r refused = record {
  taken = λ e. absurd (both_ways _ refused (and_parts (sleeps t r.runner r.event) (is_accepted r.answer) e).1);
  cancelled = λ e. absurd (both_ways _ refused (and_parts (cancels t r.runner r.event) (is_accepted r.answer) e).1);
}

-- nor does what is neither a sleep nor a cancellation
nothing_asked : (t : Task) (n : ℕ) (r : Record) → sleeps t r.runner r.event ≡ false → cancels t r.runner r.event ≡ false → TakesWhatIsQueued t n r
nothing_asked t n r no_sleep no_cancel = record {
  taken = λ e. absurd (both_ways _ no_sleep (and_parts (sleeps t r.runner r.event) (is_accepted r.answer) e).0);
  cancelled = λ e. absurd (both_ways _ no_cancel (and_parts (cancels t r.runner r.event) (is_accepted r.answer) e).0);
}

module _ {Q : Type 0} (k : Ordering Q) (w : World Q) (p : Proc) (t : Task) (n : ℕ) (old : QueuedWakeups n (tally (task w t))) (few : length w.tasks ≤ 64) (s : Safe k w) where
  abbrev Takes : Call → World Q × Effect → Type 0
  Takes c did = TakesWhatIsQueued t n (report (event.Call p c) (runner_of w p) did.1)

  refused_takes : (c : Call) (x : Code) → refuses x ≡ true → Takes c (w, refused x)
  refused_takes c x e = nothing_taken t n (report (event.Call p c) (runner_of w p) (refused x)) (not_accepted x e)

  -- the caller takes a wakeup that is queued for it
  one_queued : FromTask w p → nat_lt 0 (task w (caller w p)).wakeups ≡ true → is_task t (runner_of w p) ≡ true → 1 ≤ n
  one_queued f some same =
      let u : Task = caller w p in
      let here : u ≡ t = tasks_same u t (eqb-true u.number t.number (sym (is_caller_of w p t f) ∙ same)) in
      let active : (task w u).active ≡ true = (running_may k w p s u f.running).active in
      let queue : QueuedWakeups n (tally (task w u)) = subst (λ (x : Task). QueuedWakeups n (tally (task w x))) (sym here) old in
      omega (arith, ltb-true 0 (task w u).wakeups some, queue.active active)

  abbrev SleepTakes : World Q × Effect → Type 0
  SleepTakes did = (is_task t (runner_of w p) && is_accepted did.1.answer) ≡ true → 1 ≤ n

  sleep_takes : (timeout : ℤ) → SleepTakes (called w p (tslp_tsk k w p timeout))
  unfolding tslp_tsk
  sleep_takes timeout =
      let u : Task = caller w p in
      by_called w p SleepTakes (tslp_tsk k w p timeout) tt (λ c r e. absurd (both_ways _ (not_accepted c r) (and_parts (is_task t (runner_of w p)) _ e).1))
      (λ a.
      cond_both (nat_lt 0 (task w u).wakeups) _ _ SleepTakes (λ some e. one_queued (from_task w p false true a.rule) some (and_parts (is_task t (runner_of w p)) true e).0)
      (λ _.
      cond_both (is_zero timeout) (w, refused code.TimedOut) (begin_wait k w u wait.Sleep (ticks_of timeout), plain answer.Wait) SleepTakes
      (λ _ e. absurd (false≢true (and_parts (is_task t (runner_of w p)) false e).1)) (λ _ e. absurd (false≢true (and_parts (is_task t (runner_of w p)) false e).1))))

  takes_task : (c : TaskCall) → Takes (call.Task c) (called w p (task_row k w p c))
  unfolding can_wup
  takes_task tasks.SlpTsk = record { taken = sleep_takes forever; cancelled = λ e. absurd (false≢true e) }
  takes_task (tasks.TslpTsk timeout) = record { taken = sleep_takes timeout; cancelled = λ e. absurd (false≢true e) }
  takes_task (tasks.CanWup id) =
      let o : Option Task = task_or_caller w p id in
      let u : Task = unwrap_or o (as_task 1) in
      by_called w p (Takes (call.Task (tasks.CanWup id))) (can_wup w o) (refl, tt) (refused_takes (call.Task (tasks.CanWup id)))
      (λ a. record {
        taken = λ e. absurd (false≢true e);
        cancelled = λ e.
            let same : (u.number == t.number) ≡ true = sym (named_or_caller_is w p t id few (from_task w p false false a.rule) a.known) ∙ (and_parts _ true e).0 in
            let here : u ≡ t = tasks_same u t (eqb-true u.number t.number same) in
            let queue : QueuedWakeups n (tally (task w u)) = subst (λ (x : Task). QueuedWakeups n (tally (task w x))) (sym here) old in
            ap (λ (m : ℕ). Some (pos m)) (queue.active (not-false _ a.errors.0));
      })
  takes_task c = nothing_asked t n (report (event.Call p (call.Task c)) (runner_of w p) (called w p (task_row k w p c)).1) refl refl

  takes_call : (c : Call) → Takes c (called w p (row_of k w p c))
  takes_call (call.Task c) = takes_task c
  takes_call c = nothing_asked t n (report (event.Call p c) (runner_of w p) (called w p (row_of k w p c)).1) refl refl

-- each step takes only what is queued
pub takes_step : {Q : Type 0} (k : Ordering Q) (w : World Q) (t : Task) (n : ℕ) → QueuedWakeups n (tally (task w t)) → length w.tasks ≤ 64 → Safe k w → (e : Event) → TakesWhatIsQueued t n (step k w e).1
takes_step k w t n old few s e =
    by_event k w (λ v r. TakesWhatIsQueued t n r) (λ v cs r x ps h. record { taken = h.taken; cancelled = h.cancelled }) (λ p c. takes_call k w p t n old few s c)
    (λ p c. nothing_taken t n (report (event.Call p c) (runner_of w p) (plain answer.Idle)) refl)
    (λ p. nothing_asked t n (report (event.Tick p) (runner_of w p) (tick k w p).1) refl refl)
    (λ p. nothing_taken t n (report (event.Tick p) (runner_of w p) (plain answer.Held)) refl)
    (λ p. nothing_taken t n (report (event.Tick p) (runner_of w p) (plain answer.Nothing)) refl)
    (λ p a h. nothing_asked t n (report (event.Ipi p) (runner_of w p) (plain a)) refl refl) e
