-- The calls on tasks keep a state safe, and tell only of what there is.
use Rattle.std.proofs.Common.{◌≡◌, ℕ, ℤ, pos, ◌+◌, ◌-◌, ◌<◌, ◌≤◌, ◌==◌, ◌^◌, true, false, not, ◌&&◌, refl, sym, ◌∙◌, subst, arith, lit≤, Option, Some, None}
use Rattle.std.specs.Prelude.{is_some, is_none, unwrap_or, nat_le, nat_lt}
use Rattle.std.proofs.lemmas.Bool.{both_ways, cond_both, and_parts, and_from, false_from_ne_true, or_parts, not-false, leb-false, eqb-true, false≢true, true≢false}
use Rattle.std.proofs.lemmas.Option.{none-some}
use Rattle.fmp_codes.specs.Numbers.{as_proc, as_task}
use Rattle.fmp_codes.specs.declared.numbers.Proc.{Proc}
use Rattle.fmp_codes.specs.declared.numbers.Task.{Task}
use Rattle.fmp_codes.specs.declared.calls.TaskCall.{TaskCall}
use Rattle.fmp_codes.specs.declared.calls.TaskCall.TheVariants as call
use Rattle.fmp_codes.specs.declared.codes.Code.TheVariants as code
use Rattle.fmp_codes.specs.declared.records.Answer.TheVariants as answer
use Rattle.fmp_rules.specs.Effects.{Effect}
use Rattle.fmp_rules.specs.declared.machine.Processor.{Processor}
use Rattle.fmp_rules.specs.declared.machine.TaskRecord.{TaskRecord}
use Rattle.fmp_rules.specs.declared.machine.Context.{Context}
use Rattle.fmp_rules.specs.declared.machine.Context.TheVariants as context
use Rattle.fmp_rules.specs.declared.machine.Wait.{Wait}
use Rattle.fmp_rules.specs.declared.machine.Wait.TheVariants as wait
use Rattle.fmp_setup.specs.Setup.{has_member}
use Rattle.fmp_rules.specs.World.{World, with_item, no_task, task, processor, handler, runner_of, is_held}
use Rattle.fmp_rules.specs.Ordering.{Ordering, with_task}
use Rattle.fmp_rules.specs.Tasks.{ended, start, activate, finish, migrate}
use Rattle.fmp_rules.specs.Rows.{done, with_value, called}
use Rattle.fmp_rules.specs.Arguments.{caller, is_caller, task_named, task_or_caller, class_of, processor_or_initial, priority_or, ticks_of, forever}
use Rattle.fmp_rules.specs.Processors.{unlocked, opened}
use Rattle.fmp_rules.specs.TaskCalls.{is_dormant, is_sleep, act, mact, can_act, mig_tsk, ext_tsk, ter_tsk, chg_pri, get_pri, tslp_tsk, wup, can_wup, rel_wai, sus_tsk, rsm_tsk, dly_tsk, task_row}
use Rattle.fmp_law_safety.specs.Safe.{IsNumberOf, TaskInRange, Safe}
use Rattle.fmp_law_safety.specs.Counts.{Counts, HasCounts}
use Rattle.fmp_law_safety.proofs.Items.{item_holds}
use Rattle.fmp_law_safety.proofs.Keeps.{Occupied, KeepsOthers, keeps_all, keeps_then, occupied_by_task}
use Rattle.fmp_law_safety.proofs.Calls.{from, Accepts, keeps_called, FromTask, from_task, free_where_unheld, not_caller, occupied_at, some_runs, keeps_reported}
use Rattle.fmp_law_safety.proofs.KeepsProcessors.{keeps_opened, opened_here}
use Rattle.fmp_law_safety.proofs.KeepsTasks.{may_run_parts, becomes_noted, becomes_counted, becomes_changed, becomes_started, becomes_moved, becomes_unqueued, no_wait_ended, becomes_ended}
use Rattle.fmp_law_safety.proofs.KeepsWords.{keeps_with_task, keeps_place, keeps_requeue, keeps_end_wait, keeps_make_ready, keeps_begin_wait, keeps_done_or_wait, time_in_range}
use Rattle.fmp_law_safety.proofs.Counted.{OffersFit, counts_processor}
use Rattle.fmp_law_safety.proofs.Tells.{Tells, tells_plain, tells_value, as_before, tells_task, counts_left, waits_no_more, waits_now, waiting_number, tells_release, tells_done_or_wait}

module _ {Q : Type 0} (k : Ordering Q) (w : World Q) (p : Proc) (s : Safe k w) (within : IsNumberOf w.processors p.number) (there : is_some (runner_of w p) ≡ true) where
  occupied : Occupied w p
  occupied = occupied_at w p (s.processors p within)

  -- an activation on a processor of the task's class, which may be kept
  keeps_activate : (t : Task) (to : Proc) (kept : Option Proc) → (TaskInRange w.limits (task w t) → has_member (task w t).setup.class to ≡ true) →
      ((q : Proc) → kept ≡ Some q → has_member (task w t).setup.class q ≡ true) → KeepsOthers w (activate k w t to kept) p
  keeps_activate t to kept member keeps =
      cond_both (task w t).active (with_task w t (record (task w t) { activations = 1; kept = kept })) (start k w t to) (λ (v : World Q). KeepsOthers w v p)
      (λ active. keeps_with_task k w p occupied t _
      (becomes_noted w p t _ refl refl refl
      (λ r. record { activations = lit≤ tt; wakeups = r.wakeups; assigned = r.assigned; kept = λ q e. (keeps q e, refl); dormant = λ e. absurd (both_ways _ e active) })))
      (λ dormant. keeps_place k w p occupied t _ (becomes_started w p t to dormant member))

  keeps_act : (c : Context) (t : Option Task) → KeepsOthers w (called w p (from c (act k w t))).0 p
  unfolding act
  keeps_act c t =
      keeps_called w p (from c (act k w t)) occupied
      (λ a. keeps_activate (unwrap_or t (as_task 1)) (task w (unwrap_or t (as_task 1))).assigned None (λ r. r.assigned) (λ q e. absurd (none-some q e)))

  keeps_mact : (c : Context) (t : Option Task) (id : ℤ) → KeepsOthers w (called w p (from c (mact k w t id))).0 p
  unfolding mact
  keeps_mact c t id =
      let to : Option Proc = processor_or_initial w (class_of w t) id in
      keeps_called w p (from c (mact k w t id)) occupied
      (λ a. keeps_activate (unwrap_or t (as_task 1)) (unwrap_or to (as_proc 1)) to (λ r. a.proper)
      (λ q e. subst (λ (o : Option Proc). has_member (class_of w t) (unwrap_or o (as_proc 1)) ≡ true) e a.proper))

  keeps_can_act : (t : Option Task) → KeepsOthers w (called w p (can_act w t)).0 p
  unfolding can_act
  keeps_can_act t = keeps_called w p (can_act w t) occupied (λ a. keeps_with_task k w p occupied _ _ (becomes_unqueued w p (unwrap_or t (as_task 1))))

  -- where the caller may be named only while dispatching is not held, it is not held if what is named runs
  free_if_named : (t : Option Task) → is_some t ≡ true → (is_caller w p t && is_held w p) ≡ false → (processor w p).running ≡ Some (unwrap_or t (as_task 1)) → is_held w p ≡ false
  free_if_named t known free r =
      false_from_ne_true _ (λ held. not_caller w p t known (false_from_ne_true _ (λ calls. both_ways _ free (and_from _ _ calls held))) r)

  keeps_mig : (t : Option Task) (id : ℤ) → KeepsOthers w (called w p (mig_tsk k w p t id)).0 p
  unfolding mig_tsk
  keeps_mig t id =
      let u : Task = unwrap_or t (as_task 1) in
      let to : Proc = unwrap_or (processor_or_initial w (class_of w t) id) (as_proc 1) in
      keeps_called w p (mig_tsk k w p t id) occupied
      (λ a. cond_both ((task w u).assigned.number == to.number) w _ (λ (v : World Q). KeepsOthers w v p) (λ _. keeps_all w p occupied)
      (λ _. keeps_place k w p occupied u _
      (becomes_moved w p u to (eqb-true _ _ (not-false _ a.errors.0)) (free_if_named t (and_parts (is_some t) _ a.known).0 (or_parts _ _ a.rule).1) a.proper)))

  -- where no handler is due, p is not held once it is opened
  opened_free : FromTask w p → is_held (opened w p) p ≡ false
  unfolding opened
  opened_free f =
      let none : is_some (handler (opened w p) p) ≡ false = f.handler in
      rw (none, opened_here w p within) refl

  keeps_ext : KeepsOthers w (called w p (ext_tsk k w p)).0 p
  unfolding ext_tsk finish opened
  keeps_ext =
      keeps_called w p (ext_tsk k w p) occupied
      (λ a.
      let f = from_task w p true false a.rule in
      let t = caller w p in
      let some = some_runs w p f in
      let ran : is_some (processor (opened w p) p).running ≡ true = subst (λ (c : Processor). is_some c.running ≡ true) (sym (opened_here w p within)) some in
      keeps_then w p (opened w p) (finish k (opened w p) t) refl (keeps_opened w p within there (λ _. some))
      (keeps_end_wait k (opened w p) p (occupied_by_task (opened w p) p ran) t _
      (becomes_ended (opened w p) p t (may_run_parts p (task w t) ((s.processors p within).runs t f.running)).assigned (λ _. opened_free f))))

  keeps_ter : (t : Option Task) → KeepsOthers w (called w p (ter_tsk k w p t)).0 p
  unfolding ter_tsk finish
  keeps_ter t =
      let u : Task = unwrap_or t (as_task 1) in
      keeps_called w p (ter_tsk k w p t) occupied
      (λ a. keeps_end_wait k w p occupied u _
      (becomes_ended w p u (eqb-true _ _ (not-false _ (or_parts (is_dormant w u) _ a.errors.1.0).1)) (λ r. absurd (not_caller w p t a.known a.errors.0 r))))

  keeps_chg : (t : Option Task) (n : ℤ) → KeepsOthers w (called w p (chg_pri k w t n)).0 p
  unfolding chg_pri
  keeps_chg t n =
      let u : Task = unwrap_or t (as_task 1) in
      keeps_called w p (chg_pri k w t n) occupied
      (λ a. keeps_requeue k w p occupied u _ (becomes_changed w p u (priority_or (task w u).setup.priority n) (task w u).suspended (λ _. not-false _ a.errors.0)))

  keeps_sleep : (timeout : ℤ) → KeepsOthers w (called w p (tslp_tsk k w p timeout)).0 p
  unfolding tslp_tsk
  keeps_sleep timeout =
      let r : TaskRecord = task w (caller w p) in
      keeps_called w p (tslp_tsk k w p timeout) occupied
      (λ a. keeps_done_or_wait k w p s within (nat_lt 0 r.wakeups) (with_task w (caller w p) (record r { wakeups = r.wakeups - 1 }), done) wait.Sleep timeout a.rule a.proper
      (λ e. keeps_with_task k w p occupied (caller w p) _ (becomes_counted w p (caller w p) (r.wakeups - 1) (λ h. omega (arith, h)))) (λ e. (tt, tt)))

  -- a wakeup more, where there may be one
  one_more : (u : Task) → is_sleep (task w u).wait ≡ false → (not (is_sleep (task w u).wait) && nat_le w.limits.wakeups (task w u).wakeups) ≡ false →
      (task w u).wakeups ≤ w.limits.wakeups → (task w u).wakeups + 1 ≤ w.limits.wakeups
  one_more u awake e h = let few : nat_le w.limits.wakeups (task w u).wakeups ≡ false = rw awake at e in omega (arith, leb-false _ _ few)

  keeps_wup : (c : Context) (t : Option Task) → KeepsOthers w (called w p (from c (wup k w t))).0 p
  unfolding wup
  keeps_wup c t =
      let u : Task = unwrap_or t (as_task 1) in
      keeps_called w p (from c (wup k w t)) occupied
      (λ a. cond_both (is_sleep (task w u).wait) _ _ (λ (did : World Q × Effect). KeepsOthers w did.0 p) (λ _. keeps_make_ready k w p occupied u)
      (λ awake. keeps_with_task k w p occupied u _ (becomes_counted w p u _ (one_more u awake a.errors.1.0))))

  keeps_can_wup : (t : Option Task) → KeepsOthers w (called w p (can_wup w t)).0 p
  unfolding can_wup
  keeps_can_wup t =
      keeps_called w p (can_wup w t) occupied
      (λ a. keeps_with_task k w p occupied _ _ (becomes_counted w p (unwrap_or t (as_task 1)) 0 (λ h. omega arith)))

  keeps_rel : (c : Context) (t : Option Task) → KeepsOthers w (called w p (from c (rel_wai k w t))).0 p
  unfolding rel_wai
  keeps_rel c t = keeps_called w p (from c (rel_wai k w t)) occupied (λ a. keeps_make_ready k w p occupied (unwrap_or t (as_task 1)))

  keeps_sus : (t : Option Task) → KeepsOthers w (called w p (sus_tsk k w p t)).0 p
  unfolding sus_tsk
  keeps_sus t =
      let u : Task = unwrap_or t (as_task 1) in
      keeps_called w p (sus_tsk k w p t) occupied
      (λ a. keeps_place k w p occupied u _ (becomes_changed w p u (task w u).priority true (λ _. not-false _ a.errors.0)))

  keeps_rsm : (t : Option Task) → KeepsOthers w (called w p (rsm_tsk k w t)).0 p
  unfolding rsm_tsk
  keeps_rsm t =
      let u : Task = unwrap_or t (as_task 1) in
      keeps_called w p (rsm_tsk k w t) occupied
      (λ a. keeps_place k w p occupied u _ (becomes_changed w p u (task w u).priority false (λ e. absurd (false≢true e))))

  keeps_dly : (time : ℤ) → KeepsOthers w (called w p (dly_tsk k w p time)).0 p
  unfolding dly_tsk
  keeps_dly time =
      keeps_called w p (dly_tsk k w p time) occupied
      (λ a. keeps_begin_wait k w p occupied (caller w p) wait.Delay (ticks_of time)
      ((s.processors p within).runs (caller w p) (from_task w p false true a.rule).running) (free_where_unheld w p context.Task false a.rule) (tt, tt)
      (time_in_range time a.proper))

  pub keeps_task_call : (c : TaskCall) → KeepsOthers w (called w p (task_row k w p c)).0 p
  unfolding act mact wup rel_wai
  keeps_task_call (call.ActTsk id) = keeps_act context.Task (task_or_caller w p id)
  keeps_task_call (call.IactTsk id) = keeps_act context.Handler (task_named w id)
  keeps_task_call (call.MactTsk id to) = keeps_mact context.Task (task_or_caller w p id) to
  keeps_task_call (call.ImactTsk id to) = keeps_mact context.Handler (task_named w id) to
  keeps_task_call (call.CanAct id) = keeps_can_act (task_or_caller w p id)
  keeps_task_call (call.MigTsk id to) = keeps_mig (task_or_caller w p id) to
  keeps_task_call call.ExtTsk = keeps_ext
  keeps_task_call (call.TerTsk id) = keeps_ter (task_named w id)
  keeps_task_call (call.ChgPri id n) = keeps_chg (task_or_caller w p id) n
  keeps_task_call (call.GetPri id) = keeps_reported w p (get_pri w (task_or_caller w p id)) refl occupied
  keeps_task_call call.SlpTsk = keeps_sleep forever
  keeps_task_call (call.TslpTsk timeout) = keeps_sleep timeout
  keeps_task_call (call.WupTsk id) = keeps_wup context.Task (task_or_caller w p id)
  keeps_task_call (call.IwupTsk id) = keeps_wup context.Handler (task_named w id)
  keeps_task_call (call.CanWup id) = keeps_can_wup (task_or_caller w p id)
  keeps_task_call (call.RelWai id) = keeps_rel context.Task (task_named w id)
  keeps_task_call (call.IrelWai id) = keeps_rel context.Handler (task_named w id)
  keeps_task_call (call.SusTsk id) = keeps_sus (task_or_caller w p id)
  keeps_task_call (call.RsmTsk id) = keeps_rsm (task_named w id)
  keeps_task_call (call.DlyTsk time) = keeps_dly time

-- ---- what they tell

some_wait : (o : Option Wait) → is_none o ≡ false → is_some o ≡ true
some_wait None e = absurd (true≢false e)
some_wait (Some x) e = refl

sleep_waits : (o : Option Wait) → is_sleep o ≡ true → is_some o ≡ true
sleep_waits None e = absurd (false≢true e)
sleep_waits (Some x) e = refl

-- the task that an argument names, where it names one
abbrev the : Option Task → Task
the t = unwrap_or t (as_task 1)

module _ {Q : Type 0} (k : Ordering Q) (n : Counts) (w : World Q) (h : HasCounts n w) (s : Safe k w) (p : Proc) where
  ended_waits : (r : TaskRecord) → OffersFit (ended r)
  ended_waits r d v e = absurd (none-some _ (sym (no_wait_ended r) ∙ e))

  tells_activation : (t : Task) (q : Proc) (kept : Option Proc) → Tells n (activate k w t q kept, done)
  tells_activation t q kept =
      cond_both (task w t).active (with_task w t (record (task w t) { activations = 1; kept = kept })) (start k w t q) (λ (v : World Q). Tells n (v, done))
      (λ _. tells_task n w h t _ w.order (answer.Done code.Accepted None) (as_before n w h t) tt) (λ _. tells_task n w h t _ _ (answer.Done code.Accepted None) (waits_no_more n w h t) tt)

  counts_opened : HasCounts n (opened w p)
  unfolding opened
  counts_opened =
      let unlocks = counts_processor n w h p.number (record (processor w p) { locked = false }) (unlocked w p).holders w.due h.due in
      counts_processor n (unlocked w p) unlocks p.number _ (unlocked w p).holders w.due unlocks.due

  counts_finish : (v : World Q) → HasCounts n v → (t : Task) → OffersFit (ended (task v t)) → HasCounts n (finish k v t)
  unfolding finish
  counts_finish v i t offers = counts_left n v i t _ None _ offers

  activations_within : (t : Task) → (task w t).activations < 2 ^ 63
  activations_within t =
      let most : (task w t).activations ≤ 1 = item_holds (λ (r : TaskRecord). r.activations ≤ 1) no_task w.tasks t.number (lit≤ tt) (λ i d b. (s.in_range.tasks i d b).activations) in
      omega (arith, most)

  wakeups_within : (t : Task) → (task w t).wakeups < 2 ^ 63
  wakeups_within t =
      let most : (task w t).wakeups ≤ w.limits.wakeups = item_holds (λ (r : TaskRecord). r.wakeups ≤ w.limits.wakeups) no_task w.tasks t.number (omega arith) (λ i d b. (s.in_range.tasks i d b).wakeups) in
      let few = h.in_bits.wakeups in omega (arith, most, few)

  -- the counts of a task are taken back, and told
  tells_counted : (t : Task) (r : TaskRecord) (report : ℕ) → r.wait ≡ (task w t).wait → report < 2 ^ 63 → Tells n (with_task w t r, with_value (pos report))
  tells_counted t r report same e = tells_task n w h t r w.order (answer.Done code.Accepted (Some (pos report))) (λ d v i. as_before n w h t d v (sym same ∙ i)) e

  -- its fields change, and its place
  tells_changed : (t : Task) (r : TaskRecord) (x : Q) → r.wait ≡ (task w t).wait → Tells n (record w { tasks = with_item w.tasks t.number r; order = x }, done)
  tells_changed t r x same = tells_task n w h t r x (answer.Done code.Accepted None) (λ d v i. as_before n w h t d v (sym same ∙ i)) tt

  tells_migration : (t : Task) (q : Proc) → Tells n (migrate k w t q, done)
  tells_migration t q =
      cond_both ((task w t).assigned.number == q.number) w _ (λ (v : World Q). Tells n (v, done)) (λ _. tells_plain n w (answer.Done code.Accepted None) h tt)
      (λ _. tells_task n w h t _ _ (answer.Done code.Accepted None) (as_before n w h t) tt)

  tells_wakeup : (t : Option Task) → Tells n (wup k w t).effect
  unfolding wup
  tells_wakeup t =
      let u : Task = unwrap_or t (as_task 1) in
      cond_both (is_sleep (task w u).wait) _ _ (Tells n) (λ e. tells_release n w h k u code.Accepted None (waiting_number n w h u (sleep_waits (task w u).wait e)) tt)
      (λ _. tells_task n w h u _ w.order (answer.Done code.Accepted None) (as_before n w h u) tt)

  tells_ended_wait : (t : Option Task) → is_none (task w (unwrap_or t (as_task 1))).wait ≡ false → Tells n (rel_wai k w t).effect
  unfolding rel_wai
  tells_ended_wait t e =
      let u : Task = unwrap_or t (as_task 1) in
      tells_release n w h k u code.WaitReleased None (waiting_number n w h u (some_wait (task w u).wait e)) tt

  tells_sleep : (timeout : ℤ) → Tells n (tslp_tsk k w p timeout).effect
  unfolding tslp_tsk
  tells_sleep timeout =
      let r : TaskRecord = task w (caller w p) in
      tells_done_or_wait n w h k p (nat_lt 0 r.wakeups) (with_task w (caller w p) (record r { wakeups = r.wakeups - 1 }), done) wait.Sleep timeout
      (λ _. tells_task n w h (caller w p) _ w.order (answer.Done code.Accepted None) (as_before n w h (caller w p)) tt) tt

  pub tells_task_call : (c : TaskCall) → Accepts w p (task_row k w p c) → Tells n (task_row k w p c).effect
  unfolding act mact can_act mig_tsk ext_tsk ter_tsk finish chg_pri wup can_wup rel_wai sus_tsk rsm_tsk dly_tsk
  tells_task_call (call.ActTsk id) a = tells_activation (the (task_or_caller w p id)) _ None
  tells_task_call (call.IactTsk id) a = tells_activation (the (task_named w id)) _ None
  tells_task_call (call.MactTsk id to) a = tells_activation (the (task_or_caller w p id)) _ _
  tells_task_call (call.ImactTsk id to) a = tells_activation (the (task_named w id)) _ _
  tells_task_call (call.CanAct id) a = tells_counted (the (task_or_caller w p id)) _ _ refl (activations_within (the (task_or_caller w p id)))
  tells_task_call (call.MigTsk id to) a = tells_migration (the (task_or_caller w p id)) _
  tells_task_call call.ExtTsk a = tells_plain n _ answer.Gone (counts_finish (opened w p) counts_opened (caller w p) (ended_waits (task (opened w p) (caller w p)))) tt
  tells_task_call (call.TerTsk id) a = tells_plain n _ (answer.Done code.Accepted None) (counts_finish w h (the (task_named w id)) (ended_waits (task w (the (task_named w id))))) tt
  tells_task_call (call.ChgPri id m) a = tells_changed (the (task_or_caller w p id)) _ _ refl
  tells_task_call (call.GetPri id) a = let most = (task w (the (task_or_caller w p id))).priority.most in tells_value n w h _ (omega (arith, most))
  tells_task_call call.SlpTsk a = tells_sleep _
  tells_task_call (call.TslpTsk timeout) a = tells_sleep timeout
  tells_task_call (call.WupTsk id) a = tells_wakeup (task_or_caller w p id)
  tells_task_call (call.IwupTsk id) a = tells_wakeup (task_named w id)
  tells_task_call (call.CanWup id) a = tells_counted (the (task_or_caller w p id)) _ _ refl (wakeups_within (the (task_or_caller w p id)))
  tells_task_call (call.RelWai id) a = tells_ended_wait (task_named w id) a.errors.0
  tells_task_call (call.IrelWai id) a = tells_ended_wait (task_named w id) a.errors.0
  tells_task_call (call.SusTsk id) a = tells_changed (the (task_or_caller w p id)) _ _ refl
  tells_task_call (call.RsmTsk id) a = tells_changed (the (task_named w id)) _ _ refl
  tells_task_call (call.DlyTsk t) a = tells_plain n _ answer.Wait (counts_left n w h (caller w p) _ (ticks_of t) _ (waits_now n w h (caller w p) wait.Delay tt)) tt
