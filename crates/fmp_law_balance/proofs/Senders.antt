-- The last call of a task that waits to send is the send for which it waits.
use Rattle.std.proofs.Common.{◌≡◌, ℕ, ◌-◌, ◌<◌, ◌≤◌, ℤ, ◌⊎◌, inl, inr, true, false, List, [], ◌∷◌, length, refl, sym, ap, ◌∙◌, subst, arith, Option, Some, None, ⊎_elim}
use Rattle.std.specs.Prelude.{All, if◌then◌else◌, is_some, is_none, option_map, option_to_list, unwrap_or}
use Rattle.std.specs.Option.{option_or}
use Rattle.std.proofs.lemmas.Bool.{cond_both, cond-false, cond-true, cases_lt, eq-eqb, eqb-true, false_from_ne_true, false≢true}
use Rattle.std.proofs.lemmas.List.{get_or_past}
use Rattle.std.proofs.lemmas.List.Elements.{All-nil}
use Rattle.std.proofs.lemmas.Option.{none-some, same_Some}
use Rattle.fmp_codes.specs.Numbers.{as_object}
use Rattle.fmp_codes.specs.declared.numbers.Proc.{Proc}
use Rattle.fmp_codes.specs.declared.numbers.Task.{Task}
use Rattle.fmp_codes.specs.declared.numbers.Object.{Object}
use Rattle.fmp_codes.specs.declared.calls.Call.{Call}
use Rattle.fmp_codes.specs.declared.calls.Call.TheVariants as call
use Rattle.fmp_codes.specs.declared.calls.SyncCall.TheVariants as sync
use Rattle.fmp_codes.specs.declared.calls.BufferCall.TheVariants as buffer
use Rattle.fmp_codes.specs.declared.records.Answer.TheVariants as answer
use Rattle.fmp_codes.specs.declared.records.Event.{Event}
use Rattle.fmp_codes.specs.declared.records.Event.TheVariants as event
use Rattle.fmp_codes.specs.declared.records.Record.{Record}
use Rattle.fmp_codes.specs.declared.records.Runner.{Runner}
use Rattle.fmp_codes.specs.declared.records.Runner.TheVariants as runner
use Rattle.fmp_codes.proofs.Same.{tasks_same}
use Rattle.fmp_codes.specs.Records.{is_call}
use Rattle.fmp_rules.specs.Effects.{Effect}
use Rattle.fmp_rules.specs.declared.machine.Processor.{Processor}
use Rattle.fmp_rules.specs.declared.machine.TaskRecord.{TaskRecord}
use Rattle.fmp_rules.specs.declared.machine.Wait.{Wait}
use Rattle.fmp_rules.specs.declared.machine.Wait.TheVariants as wait
use Rattle.fmp_rules.specs.World.{World, no_processor, no_task, item, first, task, processor, handler, runner_of}
use Rattle.fmp_rules.specs.Ordering.{Ordering, begin_wait}
use Rattle.fmp_rules.specs.Rows.{called, plain, done_or_wait}
use Rattle.fmp_rules.specs.Arguments.{caller, object_named, is_zero, forever, ticks_of}
use Rattle.fmp_rules.specs.BufferCalls.{receiver, can_send, sent, tsnd_dtq}
use Rattle.fmp_rules.specs.Step.{row_of, step}
use Rattle.fmp_law_safety.specs.Safe.{IsNumberOf, Safe}
use Rattle.fmp_law_safety.proofs.Items.{task_at, item_after}
use Rattle.fmp_law_safety.proofs.Items.{item_holds}
use Rattle.fmp_law_safety.proofs.Calls.{FromTask, from_task}
use Rattle.fmp_law_safety.proofs.KeepsTasks.{may_run_parts}
use Rattle.fmp_law_balance.specs.Accepted.{names}
use Rattle.fmp_law_balance.specs.Queues.{sends, is_task, is_call_of, last_sent}
use Rattle.fmp_law_balance.proofs.Objects.{object_known}
use Rattle.fmp_law_balance.proofs.Called.{by_called}
use Rattle.fmp_law_balance.proofs.Leaving.{IsHandler, AreHandlers, leaves_ready}
use Rattle.fmp_law_balance.proofs.LeavesCalls.{leaves_call}
use Rattle.fmp_law_balance.proofs.Ticks.{leaves_tick}
use Rattle.fmp_law_balance.proofs.Steps.{report, by_step}

-- a task that waits to send made the send in its last call
abbrev pub SentLast : {Q : Type 0} → List Record → World Q → Type 0
SentLast earlier w = (d : Object) (t : Task) (x : ℤ) → (task w t).wait ≡ Some (wait.Send d x) → last_sent d t earlier ≡ x ∷ []

-- Who makes a call does not wait.

first_is : (rs : List Runner) (h : Runner) → All IsHandler rs → first rs ≡ Some h → IsHandler h
first_is [] h all e = absurd (none-some h e)
first_is (r ∷ rs) h all e = subst IsHandler (same_Some r h e) (all 0 r (omega arith))

no_task_due : (t : Task) (h : Option Runner) → ((r : Runner) → h ≡ Some r → IsHandler r) → is_task t h ≡ true → ⊥
no_task_due t None all e = false≢true e
no_task_due t (Some (runner.Task u)) all e = all (runner.Task u) refl
no_task_due t (Some (runner.Alarm a)) all e = false≢true e
no_task_due t (Some (runner.Cyclic c)) all e = false≢true e

who_runs : (t : Task) (h : Option Runner) (o : Option Task) → (is_task t h ≡ true → ⊥) → is_task t (option_or h (option_map runner.Task o)) ≡ true → o ≡ Some t
who_runs t (Some r) o not_due e = absurd (not_due e)
who_runs t None None not_due e = absurd (false≢true e)
who_runs t None (Some u) not_due e = ap Some (sym (tasks_same t u (eqb-true t.number u.number e)))

module _ {Q : Type 0} (k : Ordering Q) (w : World Q) (s : Safe k w) (handlers : AreHandlers w.due) (p : Proc) where
  runs_there : (t : Task) → (processor w p).running ≡ Some t → IsNumberOf w.processors p.number
  runs_there t e =
      ⊎_elim (λ (h : p.number - 1 < length w.processors). (p.least, omega (arith, h)))
      (λ (h : length w.processors ≤ p.number - 1). absurd (none-some t (sym (ap (λ (c : Processor). c.running) (get_or_past w.processors (p.number - 1) no_processor h)) ∙ e)))
      (cases_lt (p.number - 1) (length w.processors))

  runner_waits_not : (t : Task) (x : Wait) → (task w t).wait ≡ Some x → is_task t (runner_of w p) ≡ false
  runner_waits_not t x waits = false_from_ne_true (is_task t (runner_of w p)) go
    where
      due : All IsHandler (item [] w.due p.number)
      due = item_holds (All IsHandler) [] w.due p.number (All-nil IsHandler) handlers

      go : is_task t (runner_of w p) ≡ true → ⊥
      go e =
          let runs : (processor w p).running ≡ Some t =
          who_runs t (handler w p) (processor w p).running (no_task_due t (handler w p) (λ r h. first_is (item [] w.due p.number) r due h)) e in
          let may = may_run_parts p (task w t) ((s.processors p (runs_there t runs)).runs t runs) in
          false≢true (sym (ap is_none waits) ∙ may.wait)

-- What a call does to the waits.

module _ {Q : Type 0} (k : Ordering Q) (w : World Q) (few : length w.data_queues ≤ 32) (p : Proc) where
  -- who waits to send waited so before, or is the caller, which sends this
  abbrev Begins : Call → World Q × Effect → Type 0
  Begins c did = (t : Task) (d : Object) (x : ℤ) → (task did.0 t).wait ≡ Some (wait.Send d x) →
      ((task w t).wait ≡ Some (wait.Send d x)) ⊎ ((runner_of w p ≡ Some (runner.Task t)) × (sends d (event.Call p c) ≡ Some x))

  abbrev named_by : ℤ → Object
  named_by id = unwrap_or (object_named w.data_queues id) (as_object 1)

  caller_runs : FromTask w p → runner_of w p ≡ Some (runner.Task (caller w p))
  caller_runs f = go (handler w p) (processor w p).running f.handler f.running
    where
      go : (h : Option Runner) (o : Option Task) → is_some h ≡ false → o ≡ Some (caller w p) → option_or h (option_map runner.Task o) ≡ Some (runner.Task (caller w p))
      go None o no_h e = ap (option_map runner.Task) e
      go (Some r) o no_h e = absurd (false≢true (sym no_h))

  sent_object : (a b : Object) (x y : ℤ) → Some (wait.Send a x) ≡ Some (wait.Send b y) → (a ≡ b) × (x ≡ y)
  sent_object a b x y e = (ap (λ o. object_in o) e, ap (λ o. value_in o) e)
    where
      object_in : Option Wait → Object
      object_in (Some (wait.Send d v)) = d
      object_in other = a

      value_in : Option Wait → ℤ
      value_in (Some (wait.Send d v)) = v
      value_in other = x

  begins_wait : (c : Call) (id y : ℤ) (left : Option ℕ) → FromTask w p → is_some (object_named w.data_queues id) ≡ true →
      ((d : Object) → sends d (event.Call p c) ≡ (if names d id then Some y else None)) → Begins c (begin_wait k w (caller w p) (wait.Send (named_by id) y) left, plain answer.Wait)
  begins_wait c id y left from known same t d x =
      item_after no_task w.tasks (caller w p).number (record (task w (caller w p)) { wait = Some (wait.Send (named_by id) y) })
      (λ (r : TaskRecord). r.wait ≡ Some (wait.Send d x) → ((task w t).wait ≡ Some (wait.Send d x)) ⊎ ((runner_of w p ≡ Some (runner.Task t)) × (sends d (event.Call p c) ≡ Some x))) t.number
      (λ i e.
      let parts = sent_object (named_by id) d y x e in
      let number : (named_by id).number ≡ d.number = ap (λ (o : Object). o.number) parts.0 in
      let named : names d id ≡ true = (object_known w.data_queues id few known).names d ∙ eq-eqb (named_by id).number d.number number in
      inr (
        caller_runs from ∙ ap (λ u. Some (runner.Task u)) (task_at (caller w p) t (sym i)),
        same d ∙ cond-true (names d id) (Some y) None named ∙ ap Some parts.1,
      ))
      (λ e. inl e)

  begins_send : (c : Call) (id y timeout : ℤ) → FromTask w p → is_some (object_named w.data_queues id) ≡ true →
      ((d : Object) → sends d (event.Call p c) ≡ (if names d id then Some y else None)) →
      Begins c (done_or_wait k w p (can_send k w (named_by id)) (sent k w (named_by id) y (receiver k w (named_by id))) (wait.Send (named_by id) y) timeout)
  begins_send c id y timeout from known same =
      cond_both (can_send k w (named_by id)) _ _ (Begins c) (λ _. at_once (receiver k w (named_by id)))
      (λ _. cond_both (is_zero timeout) _ _ (Begins c) (λ _ t d x e. inl e) (λ _. begins_wait c id y (ticks_of timeout) from known same))
    where
      at_once : (u : Option Task) → Begins c (sent k w (named_by id) y u)
      at_once None t d x e = inl e
      at_once (Some u) t d x e = inl ((leaves_ready k w u).senders t d x e)

  begins_call : (c : Call) → Begins c (called w p (row_of k w p c))
  unfolding tsnd_dtq
  begins_call (call.Buffer (buffer.SndDtq id y)) =
      let c = call.Buffer (buffer.SndDtq id y) in
      by_called w p (Begins c) (tsnd_dtq k w p id y forever) tt (λ code r t d x e. inl e) (λ a. begins_send c id y forever (from_task w p false true a.rule) a.known (λ d. refl))
  begins_call (call.Buffer (buffer.TsndDtq id y timeout)) =
      let c = call.Buffer (buffer.TsndDtq id y timeout) in
      by_called w p (Begins c) (tsnd_dtq k w p id y timeout) tt (λ code r t d x e. inl e) (λ a. begins_send c id y timeout (from_task w p false true a.rule) a.known (λ d. refl))
  begins_call (call.Buffer c) = λ t d x e. inl ((leaves_call k w p (call.Buffer c)).senders t d x e)
  begins_call (call.Sync (sync.SigSem id)) = λ t d x e. inl ((leaves_call k w p (call.Sync (sync.SigSem id))).senders t d x e)
  begins_call (call.Sync c) = λ t d x e. inl ((leaves_call k w p (call.Sync c)).senders t d x e)
  begins_call c = λ t d x e. inl ((leaves_call k w p c).senders t d x e)

module _ {Q : Type 0} (k : Ordering Q) (w : World Q) (s : Safe k w) (handlers : AreHandlers w.due) (few : length w.data_queues ≤ 32) (earlier : List Record) (last : SentLast earlier w) where
  -- from w to v, where this is told after those earlier
  abbrev After : World Q → Record → Type 0
  After v r = SentLast (r ∷ earlier) v

  sent_call : (p : Proc) (c : Call) → After (called w p (row_of k w p c)).0 (report (event.Call p c) (runner_of w p) (called w p (row_of k w p c)).1)
  sent_call p c d t x e =
      ⊎_elim
      (λ (old : (task w t).wait ≡ Some (wait.Send d x)).
      cond-false (is_task t (runner_of w p)) (option_to_list (sends d (event.Call p c))) (last_sent d t earlier) (runner_waits_not k w s handlers p t (wait.Send d x) old)
      ∙ last d t x old)
      (λ (new : (runner_of w p ≡ Some (runner.Task t)) × (sends d (event.Call p c) ≡ Some x)).
      cond-true (is_task t (runner_of w p)) (option_to_list (sends d (event.Call p c))) (last_sent d t earlier) (ap (is_task t) new.0 ∙ eq-eqb t.number t.number refl)
      ∙ ap option_to_list new.1)
      (begins_call k w few p c t d x e)

  nobody : (t : Task) (o : Option Runner) → is_some o ≡ false → is_task t o ≡ false
  nobody t None e = refl
  nobody t (Some r) e = absurd (false≢true (sym e))

  no_call_of : (t : Task) (r : Option Runner) (e : Event) → is_call e ≡ false → is_call_of t r e ≡ false
  no_call_of t r (event.Call p c) no_call = absurd (false≢true (sym no_call))
  no_call_of t r (event.Tick p) no_call = refl
  no_call_of t r (event.Ipi p) no_call = refl

  pub sent_step : (e : Event) → After (step k w e).0 (step k w e).1
  sent_step e =
      by_step k w After (λ v cs r x ps h. h) sent_call
      (λ p c none d t x h. cond-false (is_task t (runner_of w p)) (option_to_list (sends d (event.Call p c))) (last_sent d t earlier) (nobody t (runner_of w p) none) ∙ last d t x h)
      (λ p d t x h. last d t x ((leaves_tick k w p).senders t d x h))
      (λ e r a no_call no_e d t x h. cond-false (is_call_of t r e) (option_to_list (sends d e)) (last_sent d t earlier) (no_call_of t r e no_call) ∙ last d t x h) e
