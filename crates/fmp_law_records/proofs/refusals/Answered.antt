-- What a call on tasks answers is what is told: the tests of its row in their order, and then what it does.
use Rattle.std.proofs.Common.{◌≡◌, ◌≤◌, ◌==◌, ℕ, ℤ, pos, negsuc, Bool, true, false, not, ◌&&◌, ◌||◌, List, [], ◌∷◌, length, arith, refl, sym, ap, ◌∙◌, Option, Some, None}
use Rattle.std.proofs.Common.{⊎_elim}
use Rattle.std.specs.Prelude.{if◌then◌else◌, is_some, is_none, nat_le, nat_lt, unwrap_or}
use Rattle.std.proofs.lemmas.Bool.{cond_both, cond-false, and_parts, false≢true, ne_eqb, lt-ltb, cases_eq, leb-true}
use Rattle.fmp_codes.specs.Numbers.{as_task}
use Rattle.fmp_codes.specs.declared.numbers.Proc.{Proc}
use Rattle.fmp_codes.specs.declared.numbers.Task.{Task}
use Rattle.fmp_codes.specs.declared.numbers.Object.{Object}
use Rattle.fmp_codes.specs.declared.numbers.Pri.{Pri}
use Rattle.fmp_codes.specs.declared.calls.Call.{Call}
use Rattle.fmp_codes.specs.declared.calls.Call.TheVariants as call
use Rattle.fmp_codes.specs.declared.calls.TaskCall.{TaskCall}
use Rattle.fmp_codes.specs.declared.calls.TaskCall.TheVariants as tasks
use Rattle.fmp_codes.specs.declared.codes.Code.TheVariants as code
use Rattle.fmp_codes.specs.declared.records.Answer.{Answer}
use Rattle.fmp_codes.specs.declared.records.Answer.TheVariants as answer
use Rattle.fmp_codes.specs.declared.records.Record.{Record}
use Rattle.fmp_codes.specs.declared.records.Runner.{Runner}
use Rattle.fmp_setup.specs.declared.setup.Limits.{Limits}
use Rattle.fmp_setup.specs.Setup.{Setup}
use Rattle.fmp_rules.specs.Effects.{Effect}
use Rattle.fmp_rules.specs.declared.machine.TaskRecord.{TaskRecord}
use Rattle.fmp_rules.specs.declared.machine.Wait.{Wait}
use Rattle.fmp_rules.specs.declared.machine.Wait.TheVariants as wait
use Rattle.fmp_rules.specs.World.{World, task, processor, runner_of}
use Rattle.fmp_rules.specs.Ordering.{Ordering}
use Rattle.fmp_rules.specs.Rows.{Row, done_or_wait, plain}
use Rattle.fmp_rules.specs.Arguments.{caller, is_caller, is_zero, forever, task_named, task_or_caller}
use Rattle.fmp_rules.specs.TaskCalls.{is_sleep, wup, tslp_tsk, task_row}
use Rattle.fmp_law_safety.proofs.Calls.{FromTask}
use Rattle.fmp_law_safety.proofs.Queues.{Lists}
use Rattle.fmp_law_balance.specs.Accepted.{accepted_value}
use Rattle.fmp_law_balance.proofs.waits.Named.{caller_runs}
use Rattle.fmp_law_records.specs.Requests.{ProcessorReported}
use Rattle.fmp_law_records.proofs.Accepting.{activation_same}
use Rattle.fmp_law_records.proofs.Rows.{task_rows}
use Rattle.fmp_law_records.specs.Refusals.Misplaced.{is_for_handlers, is_for_all, is_caller_named}
use Rattle.fmp_law_records.specs.Refusals.Meanings.{is_one_of, is_polling, task_of, task_meant}
use Rattle.fmp_law_records.specs.Refusals.Known.{are_known}
use Rattle.fmp_law_records.specs.Refusals.Arguments.{is_out, pool_setup, are_proper}
use Rattle.fmp_law_records.specs.Refusals.Found.{FoundReported, for_wakeup, waits_so}
use Rattle.fmp_law_records.specs.Refusals.Errors.{Errors, is_activated, is_elsewhere, wakeup_errors, state_errors}
use Rattle.fmp_law_records.specs.Refusals.Outcomes.{accepted, gives, or_waits, refused_or, outcome_reported}
use Rattle.fmp_law_records.proofs.refusals.FirstErrors.{Agree, past, next, never, unless}
use Rattle.fmp_law_records.proofs.refusals.Placed.{Sees, caller_same}
use Rattle.fmp_law_records.proofs.refusals.Configured.{Configured, number_known, time_same, timeout_same, priority_is, limits_same, IsTask, task_is, caller_known, meant_is}
use Rattle.fmp_law_records.proofs.refusals.Argued.{of_task, of_caller, moved_task}
use Rattle.fmp_law_records.proofs.refusals.Found.{Finds, asleep}

pub polling_same : (n : ℤ) → is_zero n ≡ is_polling n
polling_same (pos n) = refl
polling_same (negsuc n) = refl

pub not_less : (n : ℕ) → not (nat_lt 0 n) ≡ (n == 0)
not_less n = ⊎_elim (λ (z : n ≡ 0). rw z refl) (λ (d : n ≡ 0 → ⊥). ap not (lt-ltb 0 n (omega (arith, d))) ∙ sym (ne_eqb n 0 d)) (cases_eq n 0)

pub none_is : {X : Type 0} (o : Option X) → is_none o ≡ not (is_some o)
none_is None = refl
none_is (Some x) = refl

-- a call that may wait
waited : {Q : Type 0} (w : World Q) (can now can_reported cannot : Bool) (did other : World Q × Effect) (a : Answer) → can ≡ can_reported → not can ≡ cannot →
    (can ≡ true → did.1.answer ≡ a) →
    other.1.answer ≡ answer.Wait →
    (if can then did else if now then (w, plain (answer.Done code.TimedOut None)) else other).1.answer
    ≡ refused_or (if now && cannot then Some code.TimedOut else None) (or_waits can_reported a)
waited w true now false cannot did other a e f done_ waits = absurd (false≢true (sym e))
waited w true now true true did other a e f done_ waits = absurd (false≢true f)
waited w true true true false did other a e f done_ waits = done_ refl
waited w true false true false did other a e f done_ waits = done_ refl
waited w false now true cannot did other a e f done_ waits = absurd (false≢true e)
waited w false now false false did other a e f done_ waits = absurd (false≢true (sym f))
waited w false true false true did other a e f done_ waits = refl
waited w false false false true did other a e f done_ waits = waits

-- This is told of a state, and of a processor from which somebody makes a call.
pub record IsTold {Q : Type 0} (k : Ordering Q) (c : Setup) (records : List Record) (x : FoundReported) (w : World Q) (p : Proc) (seen : ProcessorReported)
    (running : Option Task) : Type 0 where
  pub there : is_some (runner_of w p) ≡ true
  pub sees : Sees w p seen
  pub runs : (processor w p).running ≡ running
  pub lists : Lists k w
  pub found : Finds c x w
  pub outs : (m : Object) (b : ℕ) → x.out m b ≡ is_out records m b
  pub active : (t : Task) → (processor w p).running ≡ Some t → (task w t).active ≡ true
  pub blocks : (m : Object) → (pool_setup c m).blocks ≤ 64
  pub locks : c.spin_locks ≤ 32

module _ {Q : Type 0} (k : Ordering Q) (c : Setup) (records : List Record) (x : FoundReported) (w : World Q) (p : Proc) (seen : ProcessorReported)
    (running : Option Task) (h : Configured c w) (here : IsTold k c records x w p seen running) where
  -- A row of a call agrees with what is told, but for its rule. The value that a call receives is that of its own answer.
  abbrev pub Agrees : Call → Row Q → Type 0
  Agrees y row =
      Agree row.effect.1.answer (outcome_reported c x seen running p (runner_of w p) (accepted_value row.effect.1.answer) y)
      ((not row.known, code.Identifier) ∷ (not row.proper, code.Parameter) ∷ row.errors)
      ((not (are_known c y), code.Identifier) ∷ (not (are_proper c records (runner_of w p) y), code.Parameter) ∷ state_errors c x p (runner_of w p) y)

  pub wait_found : (can can_reported cannot : Bool) (did : World Q × Effect) (z : Wait) (timeout : ℤ) (a : Answer) → can ≡ can_reported → not can ≡ cannot →
      (can ≡ true → did.1.answer ≡ a) →
      (done_or_wait k w p can did z timeout).1.answer ≡ refused_or (if is_polling timeout && cannot then Some code.TimedOut else None) (or_waits can_reported a)
  wait_found can can_reported cannot did z timeout a yes_ no_ done_ =
      waited w can (is_zero timeout) can_reported cannot did _ a yes_ no_ done_ refl
      ∙ ap (λ b. refused_or (if b && cannot then Some code.TimedOut else None) (or_waits can_reported a)) (polling_same timeout)

  abbrev r : Option Runner
  r = runner_of w p

  abbrev the : Option Task → Task
  the o = unwrap_or o (as_task 1)

  -- A test of the machine on a task that an argument names.

  abbrev Is : Task → Option Task → Type 0
  Is t o = IsTask c w h t o

  tested : (test : TaskRecord → Bool) (o : Option Task) (t : Task) (b : Bool) → Is t o → (t.number ≤ length w.tasks → test (task w t) ≡ b) →
      test (task w (the o)) ≡ b
  tested test o t b is same = ap (λ (u : Task). test (task w u)) is.is ∙ same is.within

  elsewhere_same : (t : Task) → t.number ≤ length w.tasks → not ((task w t).assigned.number == p.number) ≡ is_elsewhere c x p r (x.task t)
  elsewhere_same t within = ap (λ (q : Proc). not (q.number == p.number)) (here.found.tasks t within).at

  -- Errors that several calls have.

  activated : {o : Option Task} {t : Task} → Is t o →
      Agree accepted accepted (((task w (the o)).active && (task w (the o)).activations == 1, code.QueueOverflow) ∷ [])
      ((is_activated c x p r (x.task t), code.QueueOverflow) ∷ [])
  activated {o = o} {t = t} is =
      next (tested (λ y. y.active && y.activations == 1) o t _ is (λ within. activation_same p (x.task t) (task w t) (here.found.tasks t within)))
      (λ _. past refl)

  -- of an active task
  active_here : {does told : Answer} {es rs : Errors} {o : Option Task} {t : Task} → Is t o → ((task w t).active ≡ true → Agree does told es rs) →
      Agree does told ((not (task w (the o)).active, code.ObjectState) ∷ es) ((not (x.task t).life.active, code.ObjectState) ∷ rs)
  active_here {o = o} {t = t} is rest =
      unless (tested (λ y. y.active) o t _ is (λ within. (here.found.tasks t within).active))
      (λ awake. rest (ap (λ (u : Task). (task w u).active) (sym is.is) ∙ awake))

  wakes : {o : Option Task} {t : Task} → Is t o → Agree (wup k w o).effect.1.answer accepted (wup k w o).errors (wakeup_errors c x p r t)
  unfolding task_rows
  wakes {o = o} {t = t} is =
      active_here is (λ awake.
      next
      (ap (λ (u : Task). not (is_sleep (task w u).wait) && nat_le w.limits.wakeups (task w u).wakeups) is.is
      ∙ ap (λ b. not b && nat_le w.limits.wakeups (task w t).wakeups) (asleep k c x w here.lists h here.found t)
      ∙ ap (λ (y : Limits). not (waits_so for_wakeup (x.task t).wait) && nat_le y.wakeups (task w t).wakeups) (limits_same c w h)
      ∙ ap (λ n. not (waits_so for_wakeup (x.task t).wait) && nat_le c.limits.wakeups n) (here.found.wakeups t is.within awake))
      (λ _. past (cond_both (is_sleep (task w (the o)).wait) _ _ (λ (did : World Q × Effect). did.1.answer ≡ accepted) (λ _. refl) (λ _. refl))))

  waits : {o : Option Task} {t : Task} → Is t o →
      Agree accepted accepted ((is_none (task w (the o)).wait, code.ObjectState) ∷ []) ((not (is_some (x.task t).wait), code.ObjectState) ∷ [])
  waits {o = o} {t = t} is =
      next (tested (λ y. is_none y.wait) o t _ is (λ within. none_is (task w t).wait ∙ ap not (here.found.tasks t within).waits)) (λ _. past refl)

  -- a number from 1 on is that of the caller
  terminates_itself : (f : FromTask w p) (id : ℤ) → is_one_of (length c.tasks) id ≡ true → is_caller w p (task_named w id) ≡ is_caller_named r id
  terminates_itself f id known = ap (is_caller w p) (not_zero id known) ∙ caller_same w p here.there seen here.sees id f.handler
    where
      not_zero : (id : ℤ) → is_one_of (length c.tasks) id ≡ true → task_named w id ≡ task_or_caller w p id
      not_zero (negsuc n) e = refl
      not_zero (pos n) e =
          let least : 1 ≤ n = leb-true 1 n (and_parts (nat_le 1 n) _ e).0 in
          sym (cond-false (n == 0) (processor w p).running (task_named w (pos n)) (ne_eqb n 0 (λ z. omega (arith, least, z))))

  sleeps : (f : FromTask w p) (timeout : ℤ) → (tslp_tsk k w p timeout).effect.1.answer
      ≡ refused_or (if is_polling timeout && x.wakeups (task_meant r (pos 0)) == 0 then Some code.TimedOut else None)
      (or_waits (nat_lt 0 (x.wakeups (task_meant r (pos 0)))) accepted)
  unfolding task_rows
  sleeps f timeout =
      let u : Task = caller w p in
      let is : task_meant r (pos 0) ≡ u = ap (λ (y : Option Runner). task_meant y (pos 0)) (caller_runs w p f) in
      let n : (task w u).wakeups ≡ x.wakeups (task_meant r (pos 0)) = here.found.wakeups u (here.sees.within u f.running) (here.active u f.running)
      ∙ ap x.wakeups (sym is) in
      wait_found (nat_lt 0 (task w u).wakeups) _ _ _ wait.Sleep timeout accepted (ap (nat_lt 0) n) (not_less (task w u).wakeups ∙ ap (λ i. i == 0) n)
      (λ _. refl)

  pub answers_task : (y : TaskCall) → (is_for_all (call.Task y) ≡ false → is_for_handlers (call.Task y) ≡ false → FromTask w p) →
      Agrees (call.Task y) (task_row k w p y)
  unfolding task_rows
  answers_task (tasks.ActTsk id) from = of_caller h (from refl refl) here.sees.within id (λ is. never (activated is))
  answers_task (tasks.IactTsk id) from = of_task h id (λ is. never (activated is))
  answers_task (tasks.MactTsk id to) from =
      let f : FromTask w p = from refl refl in
      moved_task h to (caller_known c w h p f here.sees.within id) (meant_is c w h p f here.sees.within id) (λ is. activated is)
  answers_task (tasks.ImactTsk id to) from =
      moved_task h to (number_known as_task (length w.tasks) (length c.tasks) id h.tasks) (task_is c w h id) (λ is. activated is)
  answers_task (tasks.CanAct id) from = of_caller h (from refl refl) here.sees.within id (λ is.
      let t : Task = task_meant r id in
      never (past (ap (λ (u : Task). gives (pos (task w u).activations)) is.is ∙ ap (λ n. gives (pos n)) (here.found.tasks t is.within).activations)))
  answers_task (tasks.MigTsk id to) from =
      let f : FromTask w p = from refl refl in
      let t : Task = task_meant r id in
      moved_task h to (caller_known c w h p f here.sees.within id) (meant_is c w h p f here.sees.within id) (λ is.
      next (tested (λ y. not (y.assigned.number == p.number)) (task_or_caller w p id) t _ is (elsewhere_same t)) (λ _. past refl))
  answers_task tasks.ExtTsk from = never (never (past refl))
  answers_task (tasks.TerTsk id) from =
      let t : Task = task_of id in
      unless (number_known as_task (length w.tasks) (length c.tasks) id h.tasks) (λ known.
      never (next (terminates_itself (from refl refl) id (sym (number_known as_task (length w.tasks) (length c.tasks) id h.tasks) ∙ known)) (λ _.
      next (tested (λ y. not y.active || not (y.assigned.number == p.number)) (task_named w id) t _ (task_is c w h id known)
      (λ within. ap (λ b. not b || not ((task w t).assigned.number == p.number)) (here.found.tasks t within).active
      ∙ ap (λ b. not (x.task t).life.active || b) (elsewhere_same t within))) (λ _. past refl))))
  answers_task (tasks.ChgPri id n) from = of_caller h (from refl refl) here.sees.within id (λ is.
      unless (priority_is c w h n) (λ _. active_here is (λ _. past refl)))
  answers_task (tasks.GetPri id) from = of_caller h (from refl refl) here.sees.within id (λ is.
      let t : Task = task_meant r id in
      never (active_here is (λ awake.
      past (ap (λ (u : Task). gives (pos (task w u).priority.number)) is.is ∙ ap (λ (n : Pri). gives (pos n.number)) (here.found.priority t is.within awake)))))
  answers_task tasks.SlpTsk from = never (never (past (sleeps (from refl refl) forever)))
  answers_task (tasks.TslpTsk timeout) from = never (unless (timeout_same timeout) (λ _. past (sleeps (from refl refl) timeout)))
  answers_task (tasks.WupTsk id) from = of_caller h (from refl refl) here.sees.within id (λ is. never (wakes is))
  answers_task (tasks.IwupTsk id) from = of_task h id (λ is. never (wakes is))
  answers_task (tasks.CanWup id) from = of_caller h (from refl refl) here.sees.within id (λ is.
      let t : Task = task_meant r id in
      never (active_here is (λ awake.
      past (ap (λ (u : Task). gives (pos (task w u).wakeups)) is.is ∙ ap (λ n. gives (pos n)) (here.found.wakeups t is.within awake)))))
  answers_task (tasks.RelWai id) from = of_task h id (λ is. never (waits is))
  answers_task (tasks.IrelWai id) from = of_task h id (λ is. never (waits is))
  answers_task (tasks.SusTsk id) from = of_caller h (from refl refl) here.sees.within id (λ is.
      let t : Task = task_meant r id in
      never (active_here is (λ _.
      next (tested (λ y. y.suspended) (task_or_caller w p id) t _ is (λ within. (here.found.tasks t within).suspended)) (λ _. past refl))))
  answers_task (tasks.RsmTsk id) from = of_task h id (λ is.
      let t : Task = task_of id in
      never (unless (tested (λ y. y.suspended) (task_named w id) t _ is (λ within. (here.found.tasks t within).suspended)) (λ _. past refl)))
  answers_task (tasks.DlyTsk after) from = never (unless (time_same after) (λ _. past refl))
