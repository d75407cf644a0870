-- The state at boot is safe.
use Rattle.std.proofs.Common.{◌≡◌, ℕ, ℤ, suc, ◌+◌, ◌-◌, ◌<◌, ◌≤◌, true, false, ◌||◌, List, [], ◌∷◌, length, map, replicate, refl, sym, ap, ◌∙◌, subst, arith, lit≤, not, Option, Some, None}
use Rattle.std.specs.Prelude.{All, is_some, slice_index_or, drop, if◌then◌else◌}
use Rattle.std.specs.List.{list_any}
use Rattle.std.proofs.lemmas.Bool.{and_parts, cond_both, true≢false, false≢true, both_ways}
use Rattle.std.proofs.lemmas.List.{get_or-replicate, length-replicate}
use Rattle.std.proofs.lemmas.List.Elements.{All-map, All-replicate, All-tail}
use Rattle.std.proofs.lemmas.List.Sums.{AllPass-from_list_all}
use Rattle.std.proofs.lemmas.Option.{none-some}
use Rattle.fmp_codes.specs.Numbers.{as_task, within}
use Rattle.fmp_codes.specs.declared.numbers.Proc.{Proc}
use Rattle.fmp_codes.specs.declared.numbers.Task.{Task}
use Rattle.fmp_codes.specs.declared.numbers.Object.{Object}
use Rattle.fmp_codes.specs.declared.records.Runner.{Runner}
use Rattle.fmp_setup.specs.declared.setup.TaskSetup.{TaskSetup}
use Rattle.fmp_rules.specs.declared.machine.TaskRecord.{TaskRecord}
use Rattle.fmp_rules.specs.declared.machine.Processor.{Processor}
use Rattle.fmp_setup.specs.declared.setup.Class.{Class}
use Rattle.fmp_setup.specs.declared.setup.CyclicSetup.{CyclicSetup}
use Rattle.fmp_rules.specs.declared.machine.Semaphore.{Semaphore}
use Rattle.fmp_rules.specs.declared.machine.QueueKind.TheVariants as kind
use Rattle.fmp_setup.specs.Setup.{Setup, has_member}
use Rattle.fmp_setup.specs.Valid.{IsValid, is_class_of}
use Rattle.fmp_rules.specs.Objects.{data_queue, holder}
use Rattle.fmp_rules.specs.World.{World, no_task, no_processor, item, first, task, handler, processors_to, resting}
use Rattle.fmp_rules.specs.Ordering.{Ordering, top, waits_in}
use Rattle.fmp_rules.specs.Tasks.{started, start}
use Rattle.fmp_rules.specs.Boot.{phase_left, blank, all_started, with_top_running, with_tops_running}
use Rattle.fmp_law_safety.specs.Safe.{IsNumberOf, TaskInRange, TicksInRange, CyclicInRange, AlarmInRange, CountsInRange, SafeAt, Safe}
use Rattle.fmp_law_safety.proofs.Items.{item_after, item_holds}
use Rattle.fmp_law_safety.proofs.Rests.{Rests, rests_task, rests_processors}
use Rattle.fmp_law_safety.proofs.Settling.{TopsMayRun, among, with_each, length_each, each_at, locked_each}
use Rattle.fmp_law_safety.proofs.Ending.{runs_once}

-- Before any task is started.

abbrev pub HasInitial : TaskSetup → Type 0
HasInitial s = has_member s.class s.class.initial ≡ true

module _ {Q : Type 0} (order : Q) (c : Setup) (valid : IsValid c) where
  initial_member : (class : Class) → is_class_of c.processors class ≡ true → has_member class class.initial ≡ true
  initial_member class e = (and_parts (has_member class class.initial) (not (list_any (λ m. m) (drop c.processors class.members))) e).0

  pub task_member : All HasInitial c.tasks
  task_member i d h = initial_member (slice_index_or c.tasks i d).class (AllPass-from_list_all (λ t. is_class_of c.processors t.class) c.tasks valid.classes i d h)

  -- a blank task waits for nothing
  pub no_wait : (t : Task) → (task (blank order c) t).wait ≡ None
  no_wait t = item_holds (λ (r : TaskRecord). r.wait ≡ None) no_task (map resting c.tasks) t.number refl (All-map (λ (r : TaskRecord). r.wait ≡ None) resting c.tasks (λ i d h. refl))

  -- nobody holds a spin lock
  no_holder : (l : Object) → holder (blank order c) l ≡ None
  no_holder l =
      item_holds (λ (o : Option Proc). o ≡ None) None (replicate c.spin_locks None) l.number refl (All-replicate (λ (o : Option Proc). o ≡ None) c.spin_locks None refl)

  pub blank_rests : Rests (blank order c)
  blank_rests = record {
    waits = λ t x e. absurd (none-some x (sym (no_wait t) ∙ e));
    in_range = record {
      tasks = All-map (TaskInRange c.limits) resting c.tasks
          (λ i d h. record { activations = lit≤ tt; wakeups = omega arith; assigned = task_member i d h; kept = λ p e. absurd (none-some p e); dormant = λ e. (refl, refl, refl) });
      semaphores = All-map (λ (s : Semaphore). s.count ≤ s.setup.most) _ c.semaphores (λ i d h. (valid.in_range.semaphores i d h).initial);
      contents = λ d n.
          item_holds (λ (vs : List ℤ). length vs ≤ (data_queue (blank order c) d).capacity) [] (map (λ s. []) c.data_queues) d.number (omega arith)
          (All-map (λ (vs : List ℤ). length vs ≤ (data_queue (blank order c) d).capacity) (λ s. []) c.data_queues (λ i e h. omega arith));
      one_waiter = λ f t u n e g h. absurd (false≢true (sym (ap (waits_in kind.Eventflag f) (no_wait t)) ∙ g));
      cyclics = All-map (CyclicInRange c.timer) _ c.cyclics
          (λ i d h. record {
            assigned = initial_member (slice_index_or c.cyclics i d).class (AllPass-from_list_all (λ t. is_class_of c.processors t.class) c.cyclics valid.cyclics i d h);
            served = valid.cyclics_served i d h;
            period = let r = valid.in_range.cyclics i d h in let most = r.most in (r.least, omega (arith, most));
            phase = (valid.in_range.cyclics i d h).phase;
          });
      alarms = All-map (AlarmInRange c.timer) _ c.alarms
          (λ i d h. record {
            assigned = initial_member (slice_index_or c.alarms i d).class (AllPass-from_list_all (λ t. is_class_of c.processors t.class) c.alarms valid.alarms i d h);
            served = valid.alarms_served i d h;
          });
      locked = λ l p e. absurd (none-some p (sym (no_holder l) ∙ e));
      one_lock = λ l m p e f. absurd (none-some p (sym (no_holder l) ∙ e));
    };
  }

  pub blank_counts : CountsInRange (blank order c)
  blank_counts = record {
    waits = λ t. item_holds TicksInRange None (map (λ s. None) c.tasks) t.number tt (All-map TicksInRange (λ s. None) c.tasks (λ i d h. tt));
    cyclics = λ h.
        item_holds TicksInRange None (map phase_left c.cyclics) h.number tt
        (All-map TicksInRange phase_left c.cyclics
        (λ i d b.
        let s : CyclicSetup = slice_index_or c.cyclics i d in
        let most = (valid.in_range.cyclics i d b).phase in
        cond_both s.starts (Some (s.phase + 1)) None TicksInRange (λ _. (omega arith, omega (arith, most))) (λ _. tt)));
    alarms = λ a. item_holds TicksInRange None (map (λ s. None) c.alarms) a.number tt (All-map TicksInRange (λ s. None) c.alarms (λ i d h. tt));
  }

-- Some tasks are started.

-- those of w's tasks from number t on are of these setups
abbrev AreOf : {Q : Type 0} → World Q → ℕ → List TaskSetup → Type 0
AreOf w t ss = (j : ℕ) → j < length ss → (slice_index_or w.tasks (t - 1 + j) no_task).setup ≡ slice_index_or ss j no_task.setup

module _ {Q : Type 0} (k : Ordering Q) where
  -- a start changes the tasks and the order alone
  pub started_processors : (w : World Q) (t : ℕ) (ss : List TaskSetup) → (all_started k w t ss).processors ≡ w.processors
  started_processors w t [] = refl
  started_processors w t (s ∷ ss) =
      started_processors (if s.starts then start k w (as_task t) s.class.initial else w) (t + 1) ss
      ∙ cond_both s.starts (start k w (as_task t) s.class.initial) w (λ (v : World Q). v.processors ≡ w.processors) (λ _. refl) (λ _. refl)

  pub started_due : (w : World Q) (t : ℕ) (ss : List TaskSetup) → (all_started k w t ss).due ≡ w.due
  started_due w t [] = refl
  started_due w t (s ∷ ss) =
      started_due (if s.starts then start k w (as_task t) s.class.initial else w) (t + 1) ss
      ∙ cond_both s.starts (start k w (as_task t) s.class.initial) w (λ (v : World Q). v.due ≡ w.due) (λ _. refl) (λ _. refl)

  pub started_counts : (w : World Q) (t : ℕ) (ss : List TaskSetup) → CountsInRange w → CountsInRange (all_started k w t ss)
  started_counts w t [] h = h
  started_counts w t (s ∷ ss) h =
      started_counts (if s.starts then start k w (as_task t) s.class.initial else w) (t + 1) ss
      (cond_both s.starts (start k w (as_task t) s.class.initial) w CountsInRange (λ _. record { waits = h.waits; cyclics = h.cyclics; alarms = h.alarms }) (λ _. h))

  module _ (w : World Q) (t : ℕ) (s : TaskSetup) (ss : List TaskSetup) (least : 1 ≤ t) (most : t ≤ 64) (of : AreOf w t (s ∷ ss)) where
    place_of : within 64 t - 1 ≡ t - 1 + 0
    place_of = omega (arith, least, most)

    setup_is : (task w (as_task t)).setup ≡ s
    setup_is = ap (λ i. (slice_index_or w.tasks i no_task).setup) place_of ∙ of 0 (omega arith)

    start_rests : has_member s.class s.class.initial ≡ true → Rests w → Rests (start k w (as_task t) s.class.initial)
    start_rests member =
        let there : has_member (task w (as_task t)).setup.class s.class.initial ≡ true = subst (λ (x : TaskSetup). has_member x.class s.class.initial ≡ true) (sym setup_is) member in
        rests_task w (as_task t) (started (task w (as_task t)) s.class.initial) w.waits_left _ (λ x e. absurd (none-some x e))
        (λ r. record { activations = r.activations; wakeups = omega arith; assigned = there; kept = r.kept; dormant = λ e. absurd (true≢false e) })

    later : AreOf w (t + 1) ss
    later j h = let e : t + 1 - 1 + j ≡ t - 1 + suc j = omega (arith, least) in rw e (of (suc j) (omega (arith, h)))

    start_of : AreOf (start k w (as_task t) s.class.initial) (t + 1) ss
    start_of j h =
        let e : t + 1 - 1 + j ≡ t + 1 + j - 1 = omega (arith, least) in
        let old : (slice_index_or w.tasks (t + 1 + j - 1) no_task).setup ≡ slice_index_or ss j no_task.setup = rw (← e) (later j h) in
        rw e
        (item_after no_task w.tasks (within 64 t) (started (task w (as_task t)) s.class.initial) (λ (r : TaskRecord). r.setup ≡ slice_index_or ss j no_task.setup) (t + 1 + j)
        (λ i. absurd (omega (arith, i, place_of, least))) old)

  pub started_rests : (w : World Q) (t : ℕ) (ss : List TaskSetup) → 1 ≤ t → t + length ss ≤ 65 → AreOf w t ss → All HasInitial ss → Rests w → Rests (all_started k w t ss)
  started_rests w t [] least most of member r = r
  started_rests w t (s ∷ ss) least most of member r =
      let low : t ≤ 64 = omega (arith, most) in
      let few : t + 1 + length ss ≤ 65 = omega (arith, most) in
      let others : All HasInitial ss = All-tail HasInitial s ss member in
      cond_both s.starts (start k w (as_task t) s.class.initial) w (λ (v : World Q). Rests (all_started k v (t + 1) ss))
      (λ _. started_rests (start k w (as_task t) s.class.initial) (t + 1) ss (omega arith) few (start_of w t s ss least low of) others (start_rests w t s ss least low of (member 0 s (omega arith)) r))
      (λ _. started_rests w (t + 1) ss (omega arith) few (later w t s ss least low of) others r)

-- Each processor runs its top.

module _ {Q : Type 0} (k : Ordering Q) where
  abbrev running : (Proc → Option Task) → Proc → Processor → Processor
  running first p c = record c { running = first p }

  tops_is : (w : World Q) (ps : List Proc) → with_tops_running k w ps ≡ record w { processors = with_each (running (top k w)) w.processors ps }
  tops_is w [] = refl
  tops_is w (p ∷ ps) = tops_is (with_top_running k w p) ps

  module _ (w : World Q) (n : ℕ) (idle : w.processors ≡ replicate n no_processor) (none_due : w.due ≡ replicate n []) where
    abbrev cs : List Processor
    cs = with_each (running (top k w)) w.processors (processors_to n)

    length_cs : length cs ≡ n
    length_cs = length_each (running (top k w)) w.processors (processors_to n) ∙ ap length idle ∙ length-replicate n no_processor

    item_at : (p : Proc) → p.number ≤ n → item no_processor cs p.number ≡ record no_processor { running = top k w p }
    item_at p h =
        let counted : p.number ≤ length w.processors = rw (idle, length-replicate n no_processor) h in
        let below : p.number - 1 < n = omega (arith, h, p.least) in
        each_at (running (top k w)) (λ p c. refl) w.processors (processors_to n) p counted
        ∙ rw (among p 1 n p.least (omega (arith, h)), idle, get_or-replicate n (p.number - 1) no_processor no_processor below) refl

    no_handler : (p : Proc) → p.number ≤ n → handler w p ≡ None
    no_handler p h =
        let below : p.number - 1 < n = omega (arith, h, p.least) in
        ap first (ap (λ (ds : List (List Runner)). item [] ds p.number) none_due ∙ get_or-replicate n (p.number - 1) [] [] below)

    module _ (first_may : TopsMayRun k w) (p : Proc) (h : p.number ≤ n) where
      free : (is_some (handler w p) || (item no_processor cs p.number).locked || (item no_processor cs p.number).disabled) ≡ false
      free = rw (item_at p h, no_handler p h) refl

      safe_at : SafeAt k (record w { processors = cs }) p
      safe_at = record {
        runs = λ t e. first_may p t (sym (ap (λ (c : Processor). c.running) (item_at p h)) ∙ e);
        dispatched = λ l f. ap (λ (c : Processor). c.running) (item_at p h);
        occupied = λ e. absurd (both_ways _ free e);
        disabled = λ e. absurd (true≢false (sym e ∙ ap (λ (c : Processor). c.disabled) (item_at p h)));
      }

    pub safe_running : TopsMayRun k w → Rests w → CountsInRange w → Safe k (with_tops_running k w (processors_to n))
    safe_running first_may r counts =
        let rests = rests_processors w cs w.holders
        (λ l q e. (e, locked_each (running (top k w)) (λ p c h. h) w.processors (processors_to n) q.number (r.in_range.locked l q e))) r in
        let each : (p : Proc) → IsNumberOf cs p.number → SafeAt k (record w { processors = cs }) p =
        λ p h. safe_at first_may p (subst (λ i. p.number ≤ i) length_cs h.1) in
        subst (Safe k) (sym (tops_is w (processors_to n)))
        (record {
          processors = each;
          runs_once = runs_once k (record w { processors = cs }) each;
          waits = rests.waits;
          in_range = rests.in_range;
          counts = record { waits = counts.waits; cyclics = counts.cyclics; alarms = counts.alarms };
        })

    pub length_running : length (with_tops_running k w (processors_to n)).processors ≡ n
    length_running = ap (λ (x : World Q). length x.processors) (tops_is w (processors_to n)) ∙ length_cs
