-- Each step puts the tasks last that its record says.
use Rattle.std.proofs.Common.{◌≡◌, ℕ, ◌+◌, ◌-◌, ◌≤◌, ◌<◌, ◌==◌, ℤ, pos, negsuc, Bool, true, false, not, ◌&&◌, length, arith, refl, sym, ap, ◌∙◌, subst, Option, Some, None, ⊎_elim}
use Rattle.std.specs.Prelude.{is_some, unwrap_or, nat_lt, nat_le, option_map, slice_get}
use Rattle.std.proofs.lemmas.Bool.{cond_both, cond-true, cond-false, cases_eq, and_parts, both_ways, false≢true, eq-eqb, ne_eqb}
use Rattle.std.proofs.lemmas.List.{length-set}
use Rattle.fmp_codes.specs.Numbers.{as_task, as_proc}
use Rattle.fmp_codes.specs.declared.numbers.Proc.{Proc}
use Rattle.fmp_codes.specs.declared.numbers.Pri.{Pri}
use Rattle.fmp_codes.specs.declared.numbers.Task.{Task}
use Rattle.fmp_codes.specs.declared.calls.Call.{Call}
use Rattle.fmp_codes.specs.declared.calls.Call.TheVariants as call
use Rattle.fmp_codes.specs.declared.calls.TaskCall.{TaskCall}
use Rattle.fmp_codes.specs.declared.calls.TaskCall.TheVariants as tasks
use Rattle.fmp_codes.specs.declared.calls.SystemCall.{SystemCall}
use Rattle.fmp_codes.specs.declared.calls.SystemCall.TheVariants as system
use Rattle.fmp_codes.specs.declared.codes.Code.{Code}
use Rattle.fmp_codes.specs.declared.codes.Code.TheVariants as code
use Rattle.fmp_codes.specs.declared.records.Answer.{Answer}
use Rattle.fmp_codes.specs.declared.records.Answer.TheVariants as answer
use Rattle.fmp_codes.specs.declared.records.Event.{Event}
use Rattle.fmp_codes.specs.declared.records.Event.TheVariants as event
use Rattle.fmp_codes.specs.declared.records.Record.{Record}
use Rattle.fmp_codes.proofs.Same.{tasks_same}
use Rattle.fmp_setup.specs.declared.setup.Class.{Class}
use Rattle.fmp_setup.specs.Setup.{Setup}
use Rattle.fmp_rules.specs.Effects.{Effect}
use Rattle.fmp_rules.specs.declared.machine.TaskRecord.{TaskRecord}
use Rattle.fmp_rules.specs.declared.machine.Wait.TheVariants as wait
use Rattle.fmp_rules.specs.World.{task, runner_of, first}
use Rattle.fmp_rules.specs.Ordering.{is_runnable, place, with_task, end_wait}
use Rattle.fmp_rules.specs.Arrivals.{Arrivals, State, numbered}
use Rattle.fmp_rules.specs.Tasks.{activate, started, start, migrate, finish, ended, rotate}
use Rattle.fmp_rules.specs.Rows.{Row, called, refused, plain, done, in_handler}
use Rattle.fmp_rules.specs.Arguments.{caller, is_zero, task_named, task_or_caller, processor_named, processor_or_initial, is_priority_or_zero, priority_or, forever, ticks_of}
use Rattle.fmp_rules.specs.Processors.{opened}
use Rattle.fmp_rules.specs.TaskCalls.{is_sleep, act, mact, can_act, mig_tsk, ext_tsk, ter_tsk, chg_pri, get_pri, tslp_tsk, wup, can_wup, rel_wai, sus_tsk, rsm_tsk, dly_tsk, task_row}
use Rattle.fmp_rules.specs.SystemCalls.{rotation, rotation_in_handler, system_row}
use Rattle.fmp_rules.specs.Tick.{tick}
use Rattle.fmp_rules.specs.Step.{row_of, step}
use Rattle.fmp_law_safety.specs.Safe.{Safe}
use Rattle.fmp_law_safety.proofs.Calls.{FromTask, from_task}
use Rattle.fmp_law_balance.specs.Accepted.{is_accepted}
use Rattle.fmp_law_balance.proofs.Called.{refuses, by_called, either_way, not_accepted}
use Rattle.fmp_law_balance.proofs.Steps.{report}
use Rattle.fmp_law_balance.specs.Waits.Waits.{setup_of}
use Rattle.fmp_law_balance.proofs.waits.Events.{by_event}
use Rattle.fmp_law_balance.proofs.waits.Follows.{running_within, running_may}
use Rattle.fmp_law_balance.proofs.waits.Named.{caller_runs, task_known}
use Rattle.fmp_law_records.proofs.Rows.{system_rows}
use Rattle.fmp_law_records.proofs.counts.Tasks.{is_caller_of, named_or_caller_is}
use Rattle.fmp_law_records.specs.Priorities.{given_by}
use Rattle.fmp_law_records.specs.Handlers.{taken_to}
use Rattle.fmp_law_records.specs.Lives.{LifeReported}
use Rattle.fmp_law_records.specs.Accepting.{is_about}
use Rattle.fmp_law_records.specs.Line.{Line, put_released, is_done, puts_it_last}
use Rattle.fmp_law_records.specs.Standing.{Standing, puts_last, line_after, is_that, rotates, own_priority, processor_of_number, ready_reported}
use Rattle.fmp_law_records.proofs.Alarms.{taken_is}
use Rattle.fmp_law_records.proofs.Edits.{refusal}
use Rattle.fmp_law_records.proofs.Report.{idle_undone}
use Rattle.fmp_law_records.proofs.Priorities.{given_same}
use Rattle.fmp_law_records.proofs.Lines.{OrderedIn, can_run, ready_within, ordered_still, ordered_place, ordered_end, ordered_requeue, ordered_with, ordered_ready, ordered_begin}
use Rattle.fmp_law_records.proofs.Serving.{Serves, done_or_waits, is_other, call_serves, tick_serves}
use Rattle.fmp_law_balance.proofs.Words.{head_same}
use Rattle.fmp_law_records.proofs.Ready.{Stands, ready_same}

and_none : (a b : Bool) → (a && (b && false)) ≡ false
and_none true true = refl
and_none true false = refl
and_none false b = refl

and_undone : (a b c : Bool) → b ≡ false → (a && (b && c)) ≡ false
and_undone true b c e = ap (λ x. x && c) e
and_undone false b c e = refl

module _ (c : Setup) (s : Standing) (m : State) (h : Stands c s m) (safe : Safe numbered m) (few : length m.tasks ≤ 64) (p : Proc) where
  abbrev record_of : Event → Effect → Record
  record_of e a = report e (runner_of m p) a

  abbrev Lined : Event → State × Effect → Type 0
  Lined e did = OrderedIn (line_after c s (record_of e did.1)) did.0

  -- nobody is put last but who is released
  unput : (e : Event) (did : State × Effect) → ((t : Task) → can_run did.0.tasks t ≡ true → puts_last c s (runner_of m p) did.1.answer e t ≡ false) → OrderedIn (put_released s.line did.1.releases) did.0 → Lined e did
  unput e did none old =
      let l : Line = put_released s.line did.1.releases in
      ordered_still l (line_after c s (record_of e did.1)) did.0.tasks did.0.tasks did.0.order.ready did.0.order.next did.0.order.next old (omega arith) (omega arith) refl (λ t runs. runs)
      (λ t runs. cond-false (puts_last c s (runner_of m p) did.1.answer e t) _ _ (none t runs))

  -- one task is put last
  since_last : (e : Event) (a : Answer) (u : Task) → puts_last c s (runner_of m p) a e u ≡ true →
      (s.line.count < (line_after c s (record_of e (plain a))).since u) × ((line_after c s (record_of e (plain a))).since u ≤ (line_after c s (record_of e (plain a))).count)
  since_last e a u puts =
      let is : (line_after c s (record_of e (plain a))).since u ≡ s.line.count + 1 = cond-true (puts_last c s (runner_of m p) a e u) (s.line.count + 1) (s.line.since u) puts in
      (omega (arith, is), omega (arith, is))

  abbrev Puts : Event → Answer → Task → TaskRecord → Type 0
  Puts e a u r = u.number ≤ length m.tasks → is_runnable r ≡ true → puts_last c s (runner_of m p) a e u ≡ true

  abbrev Others : Event → Answer → Task → Type 0
  Others e a u = (t : Task) → (t.number ≡ u.number → ⊥) → puts_last c s (runner_of m p) a e t ≡ false

  stay : (e : Event) (a : Answer) (u : Task) → Others e a u → (t : Task) → (t.number ≡ u.number → ⊥) → can_run m.tasks t ≡ true → (line_after c s (record_of e (plain a))).since t ≡ s.line.since t
  stay e a u others t d runs = cond-false (puts_last c s (runner_of m p) a e t) _ _ (others t d)

  placed : (e : Event) (a : Answer) (u : Task) (r : TaskRecord) → Others e a u → Puts e a u r → Lined e (place numbered m u r, plain a)
  placed e a u r others puts = ordered_place m s.line (line_after c s (record_of e (plain a))) u r h.line (omega arith) (stay e a u others) (λ within runs. since_last e a u (puts within runs))

  ends_placed : (e : Event) (a : Answer) (u : Task) (r : TaskRecord) → Others e a u → Puts e a u r → OrderedIn (line_after c s (record_of e (plain a))) (end_wait numbered m u r)
  ends_placed e a u r others puts = ordered_end m s.line (line_after c s (record_of e (plain a))) u r h.line (omega arith) (stay e a u others) (λ within runs. since_last e a u (puts within runs))

  -- Calls on tasks.

  module _ (x : TaskCall) where
    abbrev e : Event
    e = event.Call p (call.Task x)

    abbrev LinedBy : State × Effect → Type 0
    LinedBy did = Lined e did

    -- the call puts nobody last
    never : ((k : Class) (y : LifeReported) → puts_it_last k y x ≡ false) → (did : State × Effect) → OrderedIn (put_released s.line did.1.releases) did.0 → LinedBy did
    never none did old = unput e did (λ t runs. ap (λ b. is_about t (runner_of m p) x && (is_done x did.1.answer && b)) (none (setup_of c t).class (s.life t)) ∙ and_none (is_about t (runner_of m p) x) (is_done x did.1.answer)) old

    undone : (did : State × Effect) → is_done x did.1.answer ≡ false → OrderedIn (put_released s.line did.1.releases) did.0 → LinedBy did
    undone did not_done old = unput e did (λ t runs. and_undone (is_about t (runner_of m p) x) (is_done x did.1.answer) (puts_it_last (setup_of c t).class (s.life t) x) not_done) old

    refused_line : (y : Code) → refuses y ≡ true → LinedBy (m, refused y)
    refused_line y refusing = undone (m, refused y) (refusal x y refusing) h.line

    module _ (u : Task) (named : (t : Task) → is_about t (runner_of m p) x ≡ (u.number == t.number)) (a : Answer) where
      others_not : Others e a u
      others_not t d = ap (λ b. b && (is_done x a && puts_it_last (setup_of c t).class (s.life t) x)) (named t ∙ ne_eqb u.number t.number (λ i. d (sym i)))

      it_is : puts_last c s (runner_of m p) a e u ≡ (is_done x a && puts_it_last (setup_of c u).class (s.life u) x)
      it_is = ap (λ b. b && (is_done x a && puts_it_last (setup_of c u).class (s.life u) x)) (named u ∙ eq-eqb u.number u.number refl)

      task_placed : (r : TaskRecord) → (u.number ≤ length m.tasks → is_runnable r ≡ true → (is_done x a && puts_it_last (setup_of c u).class (s.life u) x) ≡ true) → LinedBy (place numbered m u r, plain a)
      task_placed r puts = placed e a u r others_not (λ within runs. it_is ∙ puts within runs)

      task_ends : (r : TaskRecord) → (u.number ≤ length m.tasks → is_runnable r ≡ true → (is_done x a && puts_it_last (setup_of c u).class (s.life u) x) ≡ true) → OrderedIn (line_after c s (record_of e (plain a))) (end_wait numbered m u r)
      task_ends r puts = ends_placed e a u r others_not (λ within runs. it_is ∙ puts within runs)

      -- it is not put last
      task_stays : (v : State) → length v.tasks ≡ length m.tasks → (u.number ≤ length m.tasks → (is_done x a && puts_it_last (setup_of c u).class (s.life u) x) ≡ false) → OrderedIn s.line v → LinedBy (v, plain a)
      task_stays v lengths not_it old =
          unput e (v, plain a)
          (λ t runs.
          ⊎_elim
          (λ (i : t.number ≡ u.number).
          let at : u ≡ t = sym (tasks_same t u i) in
          let in_v = ready_within v.tasks t runs in
          subst (λ (y : Task). puts_last c s (runner_of m p) a e y ≡ false) at (it_is ∙ not_it (omega (arith, in_v, lengths, i))))
          (λ d. others_not t d) (cases_eq t.number u.number)) old

    acted : (u : Task) → ((t : Task) → is_about t (runner_of m p) x ≡ (u.number == t.number)) → (to : Proc) (kept : Option Proc) →
        ((k : Class) (y : LifeReported) → (is_done x (answer.Done code.Accepted None) && puts_it_last k y x) ≡ not y.active) → LinedBy (activate numbered m u to kept, done)
    acted u named to kept puts =
        let r : TaskRecord = record (task m u) { activations = 1; kept = kept } in
        cond_both (task m u).active (with_task m u r) (start numbered m u to) (λ (v : State). LinedBy (v, done))
        (λ active. task_stays u named (answer.Done code.Accepted None) (with_task m u r) (length-set m.tasks (u.number - 1) r) (λ within. puts (setup_of c u).class (s.life u) ∙ ap not (sym (h.life u within).active ∙ active)) (ordered_with m s.line u r refl h.line))
        (λ dormant. task_placed u named (answer.Done code.Accepted None) (started (task m u) to) (λ within _. puts (setup_of c u).class (s.life u) ∙ ap not (sym (h.life u within).active ∙ dormant)))

  abbrev the : Option Task → Task
  the o = unwrap_or o (as_task 1)

  abbrev ok : Answer
  ok = answer.Done code.Accepted None

  -- a task that is assigned elsewhere
  moved : (id to : ℤ) (u : Task) → ((t : Task) → is_about t (runner_of m p) (tasks.MigTsk id to) ≡ (u.number == t.number)) → is_some (processor_or_initial m (task m u).setup.class to) ≡ true →
      LinedBy (tasks.MigTsk id to) (migrate numbered m u (unwrap_or (processor_or_initial m (task m u).setup.class to) (as_proc 1)), done)
  moved id to u named known =
      let q : Proc = unwrap_or (processor_or_initial m (task m u).setup.class to) (as_proc 1) in
      let r : TaskRecord = record (task m u) { assigned = q } in
      let same : u.number ≤ length m.tasks → ((task m u).assigned.number == q.number) ≡ ((s.life u).at.number == (taken_to (setup_of c u).class (Some to) (s.life u).at).number) =
      λ within.
      ap (λ (y : Proc). (task m u).assigned.number == y.number) (taken_is m (task m u).setup.class to (s.life u).at known)
      ∙ ap (λ (k : Class). (task m u).assigned.number == (taken_to k (Some to) (s.life u).at).number) (h.life u within).setup
      ∙ ap (λ (y : Proc). y.number == (taken_to (setup_of c u).class (Some to) (s.life u).at).number) (h.life u within).at in
      cond_both ((task m u).assigned.number == q.number) m (place numbered m u r) (λ (v : State). LinedBy (tasks.MigTsk id to) (v, done))
      (λ here. task_stays (tasks.MigTsk id to) u named ok m refl (λ within. ap not (sym (same within) ∙ here)) h.line)
      (λ there. task_placed (tasks.MigTsk id to) u named ok r (λ within _. ap not (sym (same within) ∙ there)))

  slept : (x : TaskCall) → ((k : Class) (y : LifeReported) → puts_it_last k y x ≡ false) → (timeout : ℤ) → LinedBy x (called m p (tslp_tsk numbered m p timeout))
  unfolding tslp_tsk
  slept x none timeout =
      let u : Task = caller m p in
      let r : TaskRecord = record (task m u) { wakeups = (task m u).wakeups - 1 } in
      never x none (called m p (tslp_tsk numbered m p timeout))
      ((either_way m p (Serves m) (tslp_tsk numbered m p timeout) (λ y. record { line = λ l g. g })
      (done_or_waits m p (nat_lt 0 (task m u).wakeups) (with_task m u r, done) wait.Sleep timeout (record { line = λ l g. ordered_with m l u r refl g }))).line s.line h.line)

  woken : (o : Option Task) → Serves m (wup numbered m o).effect
  unfolding wup
  woken o =
      let u : Task = the o in
      let r : TaskRecord = record (task m u) { wakeups = (task m u).wakeups + 1 } in
      cond_both (is_sleep (task m u).wait) _ _ (Serves m) (λ _. record { line = λ l g. ordered_ready m l u g }) (λ _. record { line = λ l g. ordered_with m l u r refl g })

  served : (x : TaskCall) → ((k : Class) (y : LifeReported) → puts_it_last k y x ≡ false) → (row : Row Arrivals) → Serves m row.effect → LinedBy x (called m p row)
  served x none row accepted = never x none (called m p row) ((either_way m p (Serves m) row (λ y. record { line = λ l g. g }) accepted).line s.line h.line)

  suspended_stops : (b d : Bool) → (b && d && not true) ≡ false
  suspended_stops true true = refl
  suspended_stops true false = refl
  suspended_stops false d = refl

  task_line : (x : TaskCall) → LinedBy x (called m p (task_row numbered m p x))
  unfolding act mact can_act mig_tsk ext_tsk ter_tsk chg_pri can_wup rel_wai sus_tsk rsm_tsk dly_tsk finish opened
  task_line (tasks.ActTsk id) =
      let o : Option Task = task_or_caller m p id in
      by_called m p (LinedBy (tasks.ActTsk id)) (act numbered m o) (refl, tt) (refused_line (tasks.ActTsk id))
      (λ a. acted (tasks.ActTsk id) (the o) (λ t. named_or_caller_is m p t id few (from_task m p false false a.rule) a.known) _ None (λ k y. refl))
  task_line (tasks.IactTsk id) =
      let o : Option Task = task_named m id in
      by_called m p (LinedBy (tasks.IactTsk id)) (in_handler (act numbered m o)) (refl, tt) (refused_line (tasks.IactTsk id)) (λ a. acted (tasks.IactTsk id) (the o) (λ t. task_known m id few a.known t) _ None (λ k y. refl))
  task_line (tasks.MactTsk id to) =
      let o : Option Task = task_or_caller m p id in
      by_called m p (LinedBy (tasks.MactTsk id to)) (mact numbered m o to) (refl, tt) (refused_line (tasks.MactTsk id to))
      (λ a. acted (tasks.MactTsk id to) (the o) (λ t. named_or_caller_is m p t id few (from_task m p false false a.rule) (and_parts (is_some o) _ a.known).0) _ _ (λ k y. refl))
  task_line (tasks.ImactTsk id to) =
      let o : Option Task = task_named m id in
      by_called m p (LinedBy (tasks.ImactTsk id to)) (in_handler (mact numbered m o to)) (refl, tt) (refused_line (tasks.ImactTsk id to))
      (λ a. acted (tasks.ImactTsk id to) (the o) (λ t. task_known m id few (and_parts (is_some o) _ a.known).0 t) _ _ (λ k y. refl))
  task_line (tasks.CanAct id) =
      let u : Task = the (task_or_caller m p id) in
      served (tasks.CanAct id) (λ k y. refl) (can_act m (task_or_caller m p id)) (record { line = λ l g. ordered_with m l u (record (task m u) { activations = 0; kept = None }) refl g })
  task_line (tasks.MigTsk id to) =
      let o : Option Task = task_or_caller m p id in
      by_called m p (LinedBy (tasks.MigTsk id to)) (mig_tsk numbered m p o to) (refl, tt) (refused_line (tasks.MigTsk id to))
      (λ a. moved id to (the o) (λ t. named_or_caller_is m p t id few (from_task m p false _ a.rule) (and_parts (is_some o) _ a.known).0) (and_parts (is_some o) _ a.known).1)
  task_line tasks.ExtTsk =
      let u : Task = caller m p in
      by_called m p (LinedBy tasks.ExtTsk) (ext_tsk numbered m p) tt (refused_line tasks.ExtTsk) (λ a. task_ends tasks.ExtTsk u (λ t. is_caller_of m p t (from_task m p true false a.rule)) answer.Gone (ended (task m u)) (λ _ _. refl))
  task_line (tasks.TerTsk id) =
      let o : Option Task = task_named m id in
      by_called m p (LinedBy (tasks.TerTsk id)) (ter_tsk numbered m p o) (refl, (refl, tt)) (refused_line (tasks.TerTsk id)) (λ a. task_ends (tasks.TerTsk id) (the o) (λ t. task_known m id few a.known t) ok (ended (task m (the o))) (λ _ _. refl))
  task_line (tasks.ChgPri id n) =
      let o : Option Task = task_or_caller m p id in
      let u : Task = the o in
      let x : TaskCall = tasks.ChgPri id n in
      by_called m p (LinedBy x) (chg_pri numbered m o n) (refl, tt) (refused_line x)
      (λ a.
      let named : (t : Task) → is_about t (runner_of m p) x ≡ (u.number == t.number) = λ t. named_or_caller_is m p t id few (from_task m p false false a.rule) a.known in
      ordered_requeue m s.line (line_after c s (record_of (event.Call p (call.Task x)) done)) u (priority_or (task m u).setup.priority n) h.line (omega arith) (stay (event.Call p (call.Task x)) ok u (others_not x u named ok))
      (λ within. since_last (event.Call p (call.Task x)) ok u (it_is x u named ok)))
  task_line (tasks.GetPri id) = served (tasks.GetPri id) (λ k y. refl) (get_pri m (task_or_caller m p id)) (record { line = λ l g. g })
  task_line tasks.SlpTsk = slept tasks.SlpTsk (λ k y. refl) forever
  task_line (tasks.TslpTsk timeout) = slept (tasks.TslpTsk timeout) (λ k y. refl) timeout
  task_line (tasks.WupTsk id) = served (tasks.WupTsk id) (λ k y. refl) (wup numbered m (task_or_caller m p id)) (woken (task_or_caller m p id))
  task_line (tasks.IwupTsk id) = served (tasks.IwupTsk id) (λ k y. refl) (in_handler (wup numbered m (task_named m id))) (woken (task_named m id))
  task_line (tasks.CanWup id) =
      let u : Task = the (task_or_caller m p id) in
      served (tasks.CanWup id) (λ k y. refl) (can_wup m (task_or_caller m p id)) (record { line = λ l g. ordered_with m l u (record (task m u) { wakeups = 0 }) refl g })
  task_line (tasks.RelWai id) = served (tasks.RelWai id) (λ k y. refl) (rel_wai numbered m (task_named m id)) (record { line = λ l g. ordered_ready m l (the (task_named m id)) g })
  task_line (tasks.IrelWai id) = served (tasks.IrelWai id) (λ k y. refl) (in_handler (rel_wai numbered m (task_named m id))) (record { line = λ l g. ordered_ready m l (the (task_named m id)) g })
  task_line (tasks.SusTsk id) =
      let u : Task = the (task_or_caller m p id) in
      let r : TaskRecord = record (task m u) { suspended = true } in
      served (tasks.SusTsk id) (λ k y. refl) (sus_tsk numbered m p (task_or_caller m p id))
      (record { line = λ l g. ordered_place m l l u r g (omega arith) (λ t d runs. refl) (λ within runs. absurd (both_ways _ (suspended_stops (task m u).active (not (is_some (task m u).wait))) runs)) })
  task_line (tasks.RsmTsk id) =
      let o : Option Task = task_named m id in
      by_called m p (LinedBy (tasks.RsmTsk id)) (rsm_tsk numbered m o) (refl, tt) (refused_line (tasks.RsmTsk id))
      (λ a. task_placed (tasks.RsmTsk id) (the o) (λ t. task_known m id few a.known t) ok (record (task m (the o)) { suspended = false }) (λ _ _. refl))
  task_line (tasks.DlyTsk after) =
      served (tasks.DlyTsk after) (λ k y. refl) (dly_tsk numbered m p after) (record { line = λ l g. ordered_begin m l (caller m p) wait.Delay (ticks_of after) g })

  -- Calls on the processors.

  abbrev LinedAt : SystemCall → State × Effect → Type 0
  LinedAt x did = Lined (event.Call p (call.System x)) did

  own_of_task : FromTask m p → (n : ℤ) → priority_or (task m (caller m p)).priority n ≡ given_by (own_priority s (runner_of m p)) n
  own_of_task from n =
      let u : Task = caller m p in
      let own : (task m u).priority ≡ s.priority u = (h.priority u (running_within numbered m p safe u from.running)).active (running_may numbered m p safe u from.running).active in
      given_same (task m u).priority n ∙ ap (λ (y : Pri). given_by y n) own ∙ sym (ap (λ r. given_by (own_priority s r) n) (caller_runs m p from))

  of_number : (x y : Pri) (n : ℤ) → (is_priority_or_zero m.limits n && not (is_zero n)) ≡ true → priority_or x n ≡ given_by y n
  of_number x y (pos n) proper = cond-false (n == 0) x _ (go (n == 0) (and_parts (nat_le n m.limits.priorities) _ proper).1) ∙ sym (cond-false (n == 0) y _ (go (n == 0) (and_parts (nat_le n m.limits.priorities) _ proper).1))
    where
      go : (b : Bool) → not b ≡ true → b ≡ false
      go false e = refl
      go true e = absurd (false≢true e)
  of_number x y (negsuc n) proper = absurd (false≢true proper)

  named_there : (q : ℤ) → is_some (processor_named m q) ≡ true → unwrap_or (processor_named m q) p ≡ processor_of_number q
  named_there (negsuc n) known = absurd (false≢true known)
  named_there (pos n) known =
      cond_both (nat_le 1 n && nat_le n (length m.processors)) (Some n) None (λ (o : Option ℕ). is_some (option_map as_proc o) ≡ true → unwrap_or (option_map as_proc o) p ≡ as_proc n) (λ _ _. refl) (λ _ bad. absurd (false≢true bad)) known

  -- the first of them is put last
  rotated : (x : SystemCall) (o : Option Task) → o ≡ rotates c s (runner_of m p) (event.Call p (call.System x)) → LinedAt x (rotate numbered m o, done)
  rotated x None is = unput (event.Call p (call.System x)) (m, done) (λ t runs. sym (ap (λ y. is_that y t) is)) h.line
  rotated x (Some u) is =
      placed (event.Call p (call.System x)) ok u (task m u) (λ t d. sym (ap (λ y. is_that y t) is) ∙ ne_eqb u.number t.number (λ i. d (sym i))) (λ within runs. sym (ap (λ y. is_that y u) is) ∙ eq-eqb u.number u.number refl)

  refused_at : (x : SystemCall) (y : Code) → refuses y ≡ true → LinedAt x (m, refused y)
  refused_at x y refusing =
      unput (event.Call p (call.System x)) (m, refused y) (λ t runs. ap (λ b. b && is_that (rotates c s (runner_of m p) (event.Call p (call.System x))) t) (not_accepted y refusing)) h.line

  first_reported : (q r : Proc) (n j : Pri) → q ≡ r → n ≡ j → first (numbered.ready m.order m.tasks q n) ≡ slice_get (ready_reported c s r j) 0
  first_reported q r n j same there = ap first (ready_same c s m h few q n ∙ ap (λ y. ready_reported c s y n) same ∙ ap (ready_reported c s r) there) ∙ sym (head_same (ready_reported c s r j))

  nobody : (b : Bool) → (b && false) ≡ false
  nobody true = refl
  nobody false = refl

  -- a call that rotates none
  at_rest : (x : SystemCall) → ((t : Task) (a : Answer) → puts_last c s (runner_of m p) a (event.Call p (call.System x)) t ≡ false) → Serves m (system_row numbered m p x).effect → LinedAt x (called m p (system_row numbered m p x))
  at_rest x none accepted =
      unput (event.Call p (call.System x)) (called m p (system_row numbered m p x)) (λ t runs. none t _)
      ((either_way m p (Serves m) (system_row numbered m p x) (λ y. record { line = λ l g. g }) accepted).line s.line h.line)

  system_line : (x : SystemCall) → LinedAt x (called m p (system_row numbered m p x))
  unfolding system_rows
  system_line (system.RotRdq n) =
      by_called m p (LinedAt (system.RotRdq n)) (rotation numbered m p (Some p) n) tt (refused_at (system.RotRdq n))
      (λ a. rotated (system.RotRdq n) _ (first_reported p p _ _ refl (own_of_task (from_task m p false false a.rule) n)))
  system_line (system.IrotRdq n) =
      by_called m p (LinedAt (system.IrotRdq n)) (rotation_in_handler numbered m p (Some p) n) tt (refused_at (system.IrotRdq n))
      (λ a. rotated (system.IrotRdq n) _ (first_reported p p _ _ refl (of_number _ _ n a.proper)))
  system_line (system.MrotRdq n q) =
      by_called m p (LinedAt (system.MrotRdq n q)) (rotation numbered m p (processor_named m q) n) tt (refused_at (system.MrotRdq n q))
      (λ a. rotated (system.MrotRdq n q) _ (first_reported _ _ _ _ (named_there q a.known) (own_of_task (from_task m p false false a.rule) n)))
  system_line (system.ImrotRdq n q) =
      by_called m p (LinedAt (system.ImrotRdq n q)) (rotation_in_handler numbered m p (processor_named m q) n) tt (refused_at (system.ImrotRdq n q))
      (λ a. rotated (system.ImrotRdq n q) _ (first_reported _ _ _ _ (named_there q a.known) (of_number _ _ n a.proper)))
  system_line x = at_rest x (λ t a. nobody (is_accepted a)) (record { line = λ l g. g })

  -- Any event.

  others_line : (x : Call) → is_other x ≡ true → ((t : Task) (a : Answer) → puts_last c s (runner_of m p) a (event.Call p x) t ≡ false) → Lined (event.Call p x) (called m p (row_of numbered m p x))
  others_line x other none = unput (event.Call p x) (called m p (row_of numbered m p x)) (λ t runs. none t _) ((call_serves m p x other).line s.line h.line)

  call_line : (x : Call) → Lined (event.Call p x) (called m p (row_of numbered m p x))
  call_line (call.Task x) = task_line x
  call_line (call.System x) = system_line x
  call_line x = others_line x refl (λ t a. nobody (is_accepted a))

  idle_line : (x : Call) → Lined (event.Call p x) (m, plain answer.Idle)
  idle_line (call.Task x) = undone x (m, plain answer.Idle) (idle_undone x) h.line
  idle_line x = unput (event.Call p x) (m, plain answer.Idle) (λ t runs. refl) h.line

  tick_line : Lined (event.Tick p) (tick numbered m p)
  tick_line = unput (event.Tick p) (tick numbered m p) (λ t runs. nobody (is_accepted (tick numbered m p).1.answer)) ((tick_serves m p).line s.line h.line)

  plain_line : (e : Event) (a : Answer) → ((t : Task) → puts_last c s (runner_of m p) a e t ≡ false) → Lined e (m, plain a)
  plain_line e a none = unput e (m, plain a) (λ t runs. none t) h.line

pub line_step : (c : Setup) (s : Standing) (m : State) → Stands c s m → Safe numbered m → length m.tasks ≤ 64 → (e : Event) → OrderedIn (line_after c s (step numbered m e).1) (step numbered m e).0
line_step c s m h safe few e =
    by_event numbered m (λ v r. OrderedIn (line_after c s r) v) (λ v cs r y ps g. g) (λ p x. call_line c s m h safe few p x) (λ p x. idle_line c s m h safe few p x)
    (λ p. tick_line c s m h safe few p) (λ p. plain_line c s m h safe few p (event.Tick p) answer.Held (λ t. refl)) (λ p. plain_line c s m h safe few p (event.Tick p) answer.Nothing (λ t. refl))
    (λ p a none. plain_line c s m h safe few p (event.Ipi p) a (λ t. nobody c s m h safe few p (is_accepted a))) e
