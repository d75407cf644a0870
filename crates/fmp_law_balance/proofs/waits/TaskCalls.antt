-- What the calls on tasks do to the waits, and what is told of it.
use Rattle.std.proofs.Common.{◌≡◌, ℕ, ◌-◌, ◌+◌, ◌≤◌, ◌==◌, ℤ, pos, negsuc, inl, inr, Bool, true, false, ◌&&◌, length, refl, sym, ap, ◌∙◌, subst, arith, Option, Some, None, ⊎_elim}
use Rattle.std.specs.Prelude.{if◌then◌else◌, is_some, is_none, nat_lt, nat_le, option_map, unwrap_or}
use Rattle.std.proofs.lemmas.Bool.{cases_eq, cond_both, and_parts, eqb-true, eq-eqb, ne_eqb, leb-true, false≢true, true≢false}
use Rattle.std.proofs.lemmas.List.Elements.{All-nil}
use Rattle.std.proofs.lemmas.Option.{none-some}
use Rattle.fmp_codes.specs.Numbers.{as_proc, as_task}
use Rattle.fmp_setup.specs.declared.setup.TaskSetup.{TaskSetup}
use Rattle.fmp_codes.specs.declared.numbers.Proc.{Proc}
use Rattle.fmp_codes.specs.declared.numbers.Task.{Task}
use Rattle.fmp_codes.specs.declared.calls.Call.TheVariants as calls
use Rattle.fmp_codes.specs.declared.calls.TaskCall.{TaskCall}
use Rattle.fmp_codes.specs.declared.calls.TaskCall.TheVariants as call
use Rattle.fmp_codes.specs.declared.codes.Code.TheVariants as code
use Rattle.fmp_codes.specs.declared.records.Answer.TheVariants as answer
use Rattle.fmp_codes.specs.declared.records.Event.TheVariants as event
use Rattle.fmp_codes.specs.declared.records.Record.{Record}
use Rattle.fmp_codes.proofs.Same.{tasks_same, processors_same}
use Rattle.fmp_rules.specs.Effects.{Effect}
use Rattle.fmp_rules.specs.declared.machine.TaskRecord.{TaskRecord}
use Rattle.fmp_rules.specs.declared.machine.Wait.{Wait}
use Rattle.fmp_rules.specs.declared.machine.Wait.TheVariants as wait
use Rattle.fmp_rules.specs.World.{World, no_task, task, processor, runner_of}
use Rattle.fmp_rules.specs.Ordering.{Ordering, with_task, place}
use Rattle.fmp_rules.specs.Tasks.{started, ended, start, activate, finish, migrate}
use Rattle.fmp_rules.specs.Rows.{in_handler, called, plain, done, release}
use Rattle.fmp_rules.specs.Arguments.{caller, is_zero, task_named, task_or_caller, class_of, processor_or_initial, forever, ticks_of}
use Rattle.fmp_rules.specs.Processors.{opened}
use Rattle.fmp_rules.specs.TaskCalls.{is_sleep, act, mact, can_act, mig_tsk, ext_tsk, ter_tsk, chg_pri, get_pri, tslp_tsk, wup, can_wup, rel_wai, sus_tsk, rsm_tsk, dly_tsk, task_row}
use Rattle.fmp_law_safety.specs.Safe.{Safe}
use Rattle.fmp_law_safety.proofs.Items.{item_holds}
use Rattle.fmp_law_safety.proofs.Calls.{Accepts, from_task}
use Rattle.fmp_law_safety.proofs.KeepsTasks.{no_wait_ended}
use Rattle.fmp_law_balance.proofs.Called.{by_called}
use Rattle.fmp_law_balance.proofs.Steps.{report as record_of}
use Rattle.fmp_setup.specs.Setup.{Setup}
use Rattle.fmp_rules.specs.World.{item}
use Rattle.fmp_law_safety.proofs.Items.{item_same, item_other}
use Rattle.fmp_law_balance.specs.Waits.Meanings.{ticks_in}
use Rattle.fmp_law_balance.specs.Waits.Asked.{OpenWait, asked}
use Rattle.fmp_law_balance.specs.Waits.Waits.{OpenWaits, is_number_of, setup_of, assigned_by, lasts}
use Rattle.fmp_law_balance.specs.Waits.Releases.{breaks_off, Gives, EndsOpenWait}
use Rattle.fmp_law_balance.specs.Waits.Laws.{Waits}
use Rattle.fmp_law_balance.proofs.waits.Named.{by_task, task_known, none_open, waits_not, ticks_same}
use Rattle.fmp_law_balance.proofs.waits.Words.{SameCounts, KeptAs, IsKept, counts_task, counts_wait, report_ended}
use Rattle.fmp_law_balance.proofs.waits.Follows.{Sound, SparesTasks, lasts_same, stays, CallFollows, refused_follows, done_follows, task_follows, release_follows, running_within, running_waits_not, begins_follows, done_or_waits_follow}

-- a task as it ends is as configured
ended_setup : (r : TaskRecord) → (ended r).setup ≡ r.setup
ended_setup r = cond_both _ _ _ (λ (x : TaskRecord). x.setup ≡ r.setup) (λ _. refl) (λ _. refl)

-- 0 is no task's number
zero_names_none : (id : ℤ) (t : Task) → is_zero id ≡ true → is_number_of t id ≡ false
zero_names_none (negsuc n) t e = refl
zero_names_none (pos n) t e = let zero : n ≡ 0 = eqb-true n 0 e in ne_eqb n t.number (λ same. absurd (omega (arith, zero, same, t.least)))

-- the processor that an argument names is that to which it assigns
target : (b d : Bool) (x y : Proc) (n : ℕ) → y ≡ x → is_some (if b then Some y else option_map as_proc (if d then Some n else None)) ≡ true →
    (if b then x else as_proc n) ≡ unwrap_or (if b then Some y else option_map as_proc (if d then Some n else None)) (as_proc 1)
target true d x y n e some = sym e
target false true x y n e some = refl
target false false x y n e some = absurd (false≢true some)

sleeps : (o : Option Wait) → is_sleep o ≡ true → o ≡ Some wait.Sleep
sleeps (Some wait.Sleep) e = refl
sleeps _ e = absurd (false≢true e)

some_wait : (o : Option Wait) → is_none o ≡ false → (y : Wait) × (o ≡ Some y)
some_wait None e = absurd (true≢false e)
some_wait (Some y) e = (y, refl)

module _ {Q : Type 0} (config : Setup) (k : Ordering Q) (w : World Q) (s : Safe k w) (sound : Sound config w) (pending : OpenWaits) (report : (t : Task) → IsKept config w t (pending t)) (p : Proc) where
  abbrev Ends : TaskCall → World Q × Effect → Type 0
  Ends c did = CallFollows config k w pending report p (calls.Task c) did

  abbrev Spares : TaskCall → Type 0
  Spares c = SparesTasks (event.Call p (calls.Task c))

  abbrev task_of : ℤ → Task
  task_of id = unwrap_or (task_named w id) (as_task 1)

  abbrev own_task_of : ℤ → Task
  own_task_of id = unwrap_or (task_or_caller w p id) (as_task 1)

  dormant_waits_not : (t : Task) → (task w t).active ≡ false → (task w t).wait ≡ None
  dormant_waits_not t =
      item_holds (λ (r : TaskRecord). r.active ≡ false → r.wait ≡ None) no_task w.tasks t.number (λ _. refl) (λ i d h e. ((s.in_range.tasks i d h).dormant e).1)

  -- a task that does not wait starts
  starts : (t : Task) (to : Proc) → (task w t).wait ≡ None → KeptAs config t (pending t) (started (task w t) to) (item None w.waits_left t.number)
  starts t to none =
      let ticks = item None w.waits_left t.number in (
        waits_not (task w t).wait ticks (task w t).assigned to (pending t) (report t).0 none,
        (report t).1,
      )

  activates : (c : TaskCall) (t : Task) (to : Proc) (kept : Option Proc) → Spares c → Ends c (activate k w t to kept, done)
  activates c t to kept spares =
      cond_both (task w t).active (with_task w t (record (task w t) { activations = 1; kept = kept })) (start k w t to) (λ (v : World Q). Ends c (v, done))
      (λ _. task_follows config k w pending report p (calls.Task c) t (record (task w t) { activations = 1; kept = kept }) w.order None spares (report t))
      (λ dormant. task_follows config k w pending report p (calls.Task c) t (started (task w t) to) _ None spares (starts t to (dormant_waits_not t dormant)))

  acts : (c : TaskCall) (o : Option Task) → Spares c → Ends c (act k w o).effect
  unfolding act
  acts c o spares = activates c (unwrap_or o (as_task 1)) _ None spares

  macts : (c : TaskCall) (o : Option Task) (id : ℤ) → Spares c → Ends c (mact k w o id).effect
  unfolding mact
  macts c o id spares = activates c (unwrap_or o (as_task 1)) _ _ spares

  is_itself : (id : ℤ) → is_some (task_named w id) ≡ true → is_number_of (task_of id) id ≡ true
  is_itself id known = task_known w id sound.few_tasks known (task_of id) ∙ eq-eqb (task_of id).number (task_of id).number refl

  -- an argument that names a task that waits names it by its number, since 0 names the caller
  names_waiting : (id : ℤ) (y : Wait) → is_some (task_or_caller w p id) ≡ true → (task w (own_task_of id)).wait ≡ Some y → is_number_of (own_task_of id) id ≡ true
  names_waiting id y =
      cond_both (is_zero id) (processor w p).running (task_named w id)
      (λ (o : Option Task). is_some o ≡ true → (task w (unwrap_or o (as_task 1))).wait ≡ Some y → is_number_of (unwrap_or o (as_task 1)) id ≡ true)
      (λ _. runs (processor w p).running refl) (λ _ known waits. is_itself id known)
    where
      runs : (o : Option Task) → (processor w p).running ≡ o → is_some o ≡ true → (task w (unwrap_or o (as_task 1))).wait ≡ Some y → is_number_of (unwrap_or o (as_task 1)) id ≡ true
      runs None e some waits = absurd (false≢true some)
      runs (Some t) e some waits = absurd (none-some y (sym (running_waits_not k w p s t e) ∙ waits))

  -- it names no other task by its number
  pub names_no_other : (id : ℤ) → is_some (task_or_caller w p id) ≡ true → (t : Task) → (t.number ≡ (own_task_of id).number → ⊥) → is_number_of t id ≡ false
  names_no_other id =
      cond_both (is_zero id) (processor w p).running (task_named w id)
      (λ (o : Option Task). is_some o ≡ true → (t : Task) → (t.number ≡ (unwrap_or o (as_task 1)).number → ⊥) → is_number_of t id ≡ false) (λ zero some t other. zero_names_none id t zero)
      (λ _ known t other. task_known w id sound.few_tasks known t ∙ ne_eqb (task_of id).number t.number (λ e. other (sym e)))

  -- and the task is one of those that there are
  names_within : (id : ℤ) → is_some (task_or_caller w p id) ≡ true → (own_task_of id).number ≤ length w.tasks
  names_within id =
      cond_both (is_zero id) (processor w p).running (task_named w id) (λ (o : Option Task). is_some o ≡ true → (unwrap_or o (as_task 1)).number ≤ length w.tasks)
      (λ _. runs (processor w p).running refl) (λ _. named id)
    where
      runs : (o : Option Task) → (processor w p).running ≡ o → is_some o ≡ true → (unwrap_or o (as_task 1)).number ≤ length w.tasks
      runs None e some = absurd (false≢true some)
      runs (Some t) e some = running_within k w p s t e

      named : (i : ℤ) → is_some (task_named w i) ≡ true → (unwrap_or (task_named w i) (as_task 1)).number ≤ length w.tasks
      named (negsuc n) = λ some. absurd (false≢true some)
      named (pos n) =
          cond_both (nat_le 1 n && nat_le n (length w.tasks)) (Some n) None (λ (o : Option ℕ). is_some (option_map as_task o) ≡ true → (unwrap_or (option_map as_task o) (as_task 1)).number ≤ length w.tasks)
          (λ h _.
          let parts = and_parts (nat_le 1 n) (nat_le n (length w.tasks)) h in
          let least : 1 ≤ n = leb-true 1 n parts.0 in
          let most : n ≤ length w.tasks = leb-true n (length w.tasks) parts.1 in
          omega (arith, least, most))
          (λ _ bad. absurd (false≢true bad))

  -- A task is migrated.

  module _ (id to : ℤ) (known : is_some (task_or_caller w p id) ≡ true) (there : is_some (processor_or_initial w (class_of w (task_or_caller w p id)) to) ≡ true) where
    abbrev moved : Task
    moved = own_task_of id

    abbrev next : Proc
    next = unwrap_or (processor_or_initial w (class_of w (task_or_caller w p id)) to) (as_proc 1)

    abbrev tells : Record
    tells = record_of (event.Call p (calls.Task (call.MigTsk id to))) (runner_of w p) done

    next_is : (q : Proc) → assigned_by config moved (Some to) q ≡ next
    next_is q = go to there
      where
        go : (x : ℤ) → is_some (processor_or_initial w (class_of w (task_or_caller w p id)) x) ≡ true →
            assigned_by config moved (Some x) q ≡ unwrap_or (processor_or_initial w (class_of w (task_or_caller w p id)) x) (as_proc 1)
        go (negsuc n) some = absurd (false≢true some)
        go (pos n) some =
            target (n == 0) (nat_le 1 n && nat_le n (length w.processors)) (setup_of config moved).class.initial (class_of w (task_or_caller w p id)).initial n
            (ap (λ (x : TaskSetup). x.class.initial) (report moved).1) some

    moved_there : KeptAs config moved (option_map (lasts config moved tells) (pending moved)) (record (task w moved) { assigned = next }) (item None w.waits_left moved.number)
    moved_there = (go (pending moved) (report moved).0, (report moved).1)
      where
        go : (x : Option OpenWait) → Waits x (task w moved).wait (item None w.waits_left moved.number) (task w moved).assigned →
            Waits (option_map (lasts config moved tells) x) (task w moved).wait (item None w.waits_left moved.number) next
        go None h = record { wait = h.wait; left = h.left; assigned = tt }
        go (Some o) h = record {
          wait = h.wait;
          left = h.left;
          assigned = sym (ap (λ b. assigned_by config moved (if b then Some to else None) o.assigned) (names_waiting id o.wait known h.wait) ∙ next_is o.assigned);
        }

    others_stay : (t : Task) → (t.number ≡ moved.number → ⊥) → IsKept config w t (option_map (lasts config t tells) (pending t))
    others_stay t other =
        subst (IsKept config w t)
        (sym (lasts_same config t tells (λ q. refl) (λ q. ap (λ b. assigned_by config t (if b then Some to else None) q) (names_no_other id known t other)) (pending t))) (report t)

    migrates_follow : (v : World Q) → SameCounts w v → v.waits_left ≡ w.waits_left → task v moved ≡ record (task w moved) { assigned = next } → ((t : Task) → (t.number ≡ moved.number → ⊥) → task v t ≡ task w t) →
        Ends (call.MigTsk id to) (v, done)
    migrates_follow v counts left here others = record {
      report = λ t.
          let now : Option OpenWait = option_map (lasts config t tells) (pending t) in
          subst (λ xs. KeptAs config t now (task v t) (item None xs t.number)) (sym left)
          (⊎_elim
          (λ (e : t.number ≡ moved.number).
          subst (λ (u : Task). KeptAs config u (option_map (lasts config u tells) (pending u)) (task v u) (item None w.waits_left u.number)) (sym (tasks_same t moved e))
          (subst (λ r. KeptAs config moved (option_map (lasts config moved tells) (pending moved)) r (item None w.waits_left moved.number)) (sym here) moved_there))
          (λ (d : t.number ≡ moved.number → ⊥). subst (λ r. KeptAs config t now r (item None w.waits_left t.number)) (sym (others t d)) (others_stay t d)) (cases_eq t.number moved.number));
      fits = All-nil (EndsOpenWait config pending tells);
      once = tt;
      counts = counts;
    }

    migrates_ends : Ends (call.MigTsk id to) (migrate k w moved next, done)
    migrates_ends =
        let r : TaskRecord = record (task w moved) { assigned = next } in
        cond_both ((task w moved).assigned.number == next.number) w (place k w moved r) (λ (v : World Q). Ends (call.MigTsk id to) (v, done))
        (λ e. migrates_follow w (refl, refl, refl, refl) refl
        (ap (λ (q : Proc). record (task w moved) { assigned = q }) (processors_same (task w moved).assigned next (eqb-true (task w moved).assigned.number next.number e))) (λ t d. refl))
        (λ _. migrates_follow (place k w moved r) (counts_task w moved r w.order) refl (item_same no_task w.tasks moved.number r moved.least (names_within id known))
        (λ t d. item_other no_task w.tasks moved.number r t.number t.least moved.least d))

  migrates : (id to : ℤ) → Accepts w p (mig_tsk k w p (task_or_caller w p id) to) → Ends (call.MigTsk id to) (mig_tsk k w p (task_or_caller w p id) to).effect
  unfolding mig_tsk
  migrates id to a =
      let both = and_parts (is_some (task_or_caller w p id)) (is_some (processor_or_initial w (class_of w (task_or_caller w p id)) to)) a.known in
      migrates_ends id to both.0 both.1

  -- a task ends that is not the caller, and its wait with it
  ends : (id : ℤ) → is_some (task_named w id) ≡ true → Ends (call.TerTsk id) (ter_tsk k w p (task_named w id)).effect
  unfolding ter_tsk finish
  ends id known =
      let u : Task = task_of id in
      let c = calls.Task (call.TerTsk id) in
      let r : Record = record_of (event.Call p c) (runner_of w p) done in
      record {
        report = λ t.
            subst (λ b. IsKept config (finish k w u) t (if b then None else option_map (lasts config t r) (pending t))) (sym (task_known w id sound.few_tasks known t))
            (subst (λ o. IsKept config (finish k w u) t (if u.number == t.number then None else o)) (sym (lasts_same config t r (λ q. refl) (λ q. refl) (pending t)))
            (report_ended config w pending report u (ended (task w u)) w.order (no_wait_ended (task w u)) (ended_setup (task w u)) t));
        fits = All-nil (EndsOpenWait config pending r);
        once = tt;
        counts = counts_wait w u (ended (task w u)) None w.order;
      }

  -- the caller ends, which does not wait
  exits : (processor w p).running ≡ Some (caller w p) → Ends call.ExtTsk (ext_tsk k w p).effect
  unfolding ext_tsk finish opened
  exits running =
      let u : Task = caller w p in
      let v : World Q = finish k (opened w p) u in
      let r : Record = record_of (event.Call p (calls.Task call.ExtTsk)) (runner_of w p) (plain answer.Gone) in
      let none : pending u ≡ None = none_open (pending u) _ _ _ (report u).0 (running_waits_not k w p s u running) in
      stays config w pending v r refl (λ t. lasts_same config t r (λ q. refl) (λ q. refl) (pending t))
      (λ t.
      subst (IsKept config v t) (by_task (λ x b. (if b then None else pending x) ≡ pending x) u t (λ e. sym none) (λ d. refl))
      (report_ended config w pending report u (ended (task w u)) w.order (no_wait_ended (task w u)) (ended_setup (task w u)) t))
      (counts_wait w u (ended (task w u)) None w.order)

  -- a wait with a time or timeout
  abbrev with_left : Wait → Option ℕ → Option OpenWait
  with_left x left = Some (record { wait = x; left = left; assigned = p })

  asked_for : (x : Wait) (time : ℤ) → with_left x (ticks_in time) ≡ with_left x (ticks_of time)
  asked_for x time = ap (with_left x) (ticks_same time)

  sleeps_or_waits : (c : TaskCall) (timeout : ℤ) → Spares c → Accepts w p (tslp_tsk k w p timeout) → asked p (calls.Task c) ≡ Some (record { wait = wait.Sleep; left = ticks_of timeout; assigned = p }) →
      Ends c (tslp_tsk k w p timeout).effect
  unfolding tslp_tsk
  sleeps_or_waits c timeout spares a is =
      let t = caller w p in
      let r = record (task w t) { wakeups = (task w t).wakeups - 1 } in
      done_or_waits_follow config k w pending report p s sound (calls.Task c) (nat_lt 0 (task w t).wakeups) (with_task w t r, done) wait.Sleep timeout (from_task w p false true a.rule) is
      (λ _. task_follows config k w pending report p (calls.Task c) t r w.order None spares (report t))

  -- a task that sleeps is released, where the call wakes it up
  wakes_up : (c : TaskCall) (o : Option Task) → Spares c →
      ((task w (unwrap_or o (as_task 1))).wait ≡ Some wait.Sleep → Gives (event.Call p (calls.Task c)) (unwrap_or o (as_task 1)) wait.Sleep None) → Ends c (wup k w o).effect
  unfolding wup
  wakes_up c o spares gives =
      let u = unwrap_or o (as_task 1) in
      let r = record (task w u) { wakeups = (task w u).wakeups + 1 } in
      cond_both (is_sleep (task w u).wait) (release k w u code.Accepted None) (with_task w u r, done) (Ends c)
      (λ e.
      let asleep = sleeps (task w u).wait e in
      release_follows config k w pending report p (calls.Task c) u code.Accepted None None wait.Sleep spares asleep
      (λ a is. inl (record { accepted = refl; code = refl; given = subst (λ y. Gives (event.Call p (calls.Task c)) u y None) (sym is) (gives asleep) })))
      (λ _. task_follows config k w pending report p (calls.Task c) u r w.order None spares (report u))

  breaks : (c : TaskCall) (id : ℤ) → Spares c → breaks_off (task_of id) (event.Call p (calls.Task c)) ≡ true → is_none (task w (task_of id)).wait ≡ false → Ends c (rel_wai k w (task_named w id)).effect
  unfolding rel_wai
  breaks c id spares named some =
      let waits = some_wait (task w (task_of id)).wait some in
      release_follows config k w pending report p (calls.Task c) (task_of id) code.WaitReleased None None waits.0 spares waits.1
      (λ a is. inr (inl (record { accepted = refl; called = named; code = refl; value = refl })))

  pub follows_task : (c : TaskCall) → Ends c (called w p (task_row k w p c))
  unfolding act mact can_act can_wup mig_tsk ext_tsk ter_tsk chg_pri tslp_tsk wup rel_wai sus_tsk rsm_tsk dly_tsk
  follows_task (call.ActTsk id) =
      let c = call.ActTsk id in
      by_called w p (Ends c) (act k w (task_or_caller w p id)) (refl, tt) (refused_follows config k w pending report p (calls.Task c)) (λ a. acts c (task_or_caller w p id) (λ t. (refl, refl)))
  follows_task (call.IactTsk id) =
      let c = call.IactTsk id in
      by_called w p (Ends c) (in_handler (act k w (task_named w id))) (refl, tt) (refused_follows config k w pending report p (calls.Task c)) (λ a. acts c (task_named w id) (λ t. (refl, refl)))
  follows_task (call.MactTsk id to) =
      let c = call.MactTsk id to in
      by_called w p (Ends c) (mact k w (task_or_caller w p id) to) (refl, tt) (refused_follows config k w pending report p (calls.Task c)) (λ a. macts c (task_or_caller w p id) to (λ t. (refl, refl)))
  follows_task (call.ImactTsk id to) =
      let c = call.ImactTsk id to in
      by_called w p (Ends c) (in_handler (mact k w (task_named w id) to)) (refl, tt) (refused_follows config k w pending report p (calls.Task c)) (λ a. macts c (task_named w id) to (λ t. (refl, refl)))
  follows_task (call.CanAct id) =
      let c = call.CanAct id in
      by_called w p (Ends c) (can_act w (task_or_caller w p id)) tt (refused_follows config k w pending report p (calls.Task c))
      (λ a. task_follows config k w pending report p (calls.Task c) (own_task_of id) _ w.order _ (λ t. (refl, refl)) (report (own_task_of id)))
  follows_task (call.MigTsk id to) =
      let c = call.MigTsk id to in
      by_called w p (Ends c) (mig_tsk k w p (task_or_caller w p id) to) (refl, tt) (refused_follows config k w pending report p (calls.Task c)) (λ a. migrates id to a)
  follows_task call.ExtTsk =
      by_called w p (Ends call.ExtTsk) (ext_tsk k w p) tt (refused_follows config k w pending report p (calls.Task call.ExtTsk)) (λ a. exits (from_task w p true false a.rule).running)
  follows_task (call.TerTsk id) =
      let c = call.TerTsk id in
      by_called w p (Ends c) (ter_tsk k w p (task_named w id)) (refl, (refl, tt)) (refused_follows config k w pending report p (calls.Task c)) (λ a. ends id a.known)
  follows_task (call.ChgPri id n) =
      let c = call.ChgPri id n in
      by_called w p (Ends c) (chg_pri k w (task_or_caller w p id) n) (refl, tt) (refused_follows config k w pending report p (calls.Task c))
      (λ a. task_follows config k w pending report p (calls.Task c) (own_task_of id) _ _ None (λ t. (refl, refl)) (report (own_task_of id)))
  follows_task (call.GetPri id) =
      let c = call.GetPri id in
      by_called w p (Ends c) (get_pri w (task_or_caller w p id)) (refl, tt) (refused_follows config k w pending report p (calls.Task c))
      (λ a. done_follows config k w pending report p (calls.Task c) w _ None (λ t. (refl, refl)) report (refl, refl, refl, refl))
  follows_task call.SlpTsk =
      let c = call.SlpTsk in
      by_called w p (Ends c) (tslp_tsk k w p forever) tt (refused_follows config k w pending report p (calls.Task c)) (λ a. sleeps_or_waits c forever (λ t. (refl, refl)) a refl)
  follows_task (call.TslpTsk timeout) =
      let c = call.TslpTsk timeout in
      by_called w p (Ends c) (tslp_tsk k w p timeout) tt (refused_follows config k w pending report p (calls.Task c)) (λ a. sleeps_or_waits c timeout (λ t. (refl, refl)) a (asked_for wait.Sleep timeout))
  follows_task (call.WupTsk id) =
      let c = call.WupTsk id in
      by_called w p (Ends c) (wup k w (task_or_caller w p id)) (refl, (refl, tt)) (refused_follows config k w pending report p (calls.Task c))
      (λ a. wakes_up c (task_or_caller w p id) (λ t. (refl, refl)) (λ asleep. (names_waiting id wait.Sleep a.known asleep, refl)))
  follows_task (call.IwupTsk id) =
      let c = call.IwupTsk id in
      by_called w p (Ends c) (in_handler (wup k w (task_named w id))) (refl, (refl, tt)) (refused_follows config k w pending report p (calls.Task c))
      (λ a. wakes_up c (task_named w id) (λ t. (refl, refl)) (λ asleep. (is_itself id a.known, refl)))
  follows_task (call.CanWup id) =
      let c = call.CanWup id in
      by_called w p (Ends c) (can_wup w (task_or_caller w p id)) (refl, tt) (refused_follows config k w pending report p (calls.Task c))
      (λ a. task_follows config k w pending report p (calls.Task c) (own_task_of id) _ w.order _ (λ t. (refl, refl)) (report (own_task_of id)))
  follows_task (call.RelWai id) =
      let c = call.RelWai id in
      by_called w p (Ends c) (rel_wai k w (task_named w id)) (refl, tt) (refused_follows config k w pending report p (calls.Task c)) (λ a. breaks c id (λ t. (refl, refl)) (is_itself id a.known) a.errors.0)
  follows_task (call.IrelWai id) =
      let c = call.IrelWai id in
      by_called w p (Ends c) (in_handler (rel_wai k w (task_named w id))) (refl, tt) (refused_follows config k w pending report p (calls.Task c)) (λ a. breaks c id (λ t. (refl, refl)) (is_itself id a.known) a.errors.0)
  follows_task (call.SusTsk id) =
      let c = call.SusTsk id in
      by_called w p (Ends c) (sus_tsk k w p (task_or_caller w p id)) (refl, (refl, tt)) (refused_follows config k w pending report p (calls.Task c))
      (λ a. task_follows config k w pending report p (calls.Task c) (own_task_of id) _ _ None (λ t. (refl, refl)) (report (own_task_of id)))
  follows_task (call.RsmTsk id) =
      let c = call.RsmTsk id in
      by_called w p (Ends c) (rsm_tsk k w (task_named w id)) (refl, tt) (refused_follows config k w pending report p (calls.Task c))
      (λ a. task_follows config k w pending report p (calls.Task c) (task_of id) _ _ None (λ t. (refl, refl)) (report (task_of id)))
  follows_task (call.DlyTsk time) =
      let c = call.DlyTsk time in
      by_called w p (Ends c) (dly_tsk k w p time) tt (refused_follows config k w pending report p (calls.Task c))
      (λ a. begins_follows config k w pending report p s sound (calls.Task c) wait.Delay (ticks_of time) (from_task w p false true a.rule) (asked_for wait.Delay time))
