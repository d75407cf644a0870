-- What an argument names, in a state that has what its configuration has.
use Rattle.std.proofs.Common.{◌≡◌, ◌≤◌, ◌==◌, ◌-◌, ℕ, ℤ, pos, negsuc, Bool, true, false, not, ◌&&◌, List, length, arith, refl, sym, ap, ◌∙◌, subst, Option, Some, None}
use Rattle.std.proofs.Common.{⊎_elim}
use Rattle.std.specs.Prelude.{if◌then◌else◌, is_some, nat_le, unwrap_or, option_map, slice_index_or}
use Rattle.std.proofs.lemmas.Bool.{cond_both, cond-true, cond-false, and_parts, leb-true, le-leb, false≢true, eqb-true, ne_eqb, cases_eq}
use Rattle.std.proofs.lemmas.List.{length-map}
use Rattle.std.proofs.Math.ListN.{get_or-map}
use Rattle.fmp_codes.specs.Numbers.{as_task, as_object, as_proc}
use Rattle.fmp_codes.specs.declared.numbers.Proc.{Proc}
use Rattle.fmp_codes.specs.declared.numbers.Task.{Task}
use Rattle.fmp_codes.specs.declared.numbers.Object.{Object}
use Rattle.fmp_codes.specs.declared.records.Runner.{Runner}
use Rattle.fmp_codes.specs.declared.records.Runner.TheVariants as runner
use Rattle.fmp_setup.specs.declared.setup.Class.{Class}
use Rattle.fmp_setup.specs.declared.setup.Limits.{Limits}
use Rattle.fmp_setup.specs.Setup.{Setup, no_semaphore, no_eventflag, no_pool, no_cyclic, no_alarm}
use Rattle.fmp_rules.specs.declared.machine.Semaphore.{Semaphore}
use Rattle.fmp_rules.specs.declared.machine.Eventflag.{Eventflag}
use Rattle.fmp_rules.specs.declared.machine.Pool.{Pool}
use Rattle.fmp_rules.specs.declared.machine.Cyclic.{Cyclic}
use Rattle.fmp_rules.specs.declared.machine.Alarm.{Alarm}
use Rattle.fmp_rules.specs.World.{World, task, processor, runner_of}
use Rattle.fmp_rules.specs.Objects.{blank_semaphore, blank_eventflag, blank_pool, semaphore, eventflag, pool, cyclic, alarm}
use Rattle.fmp_rules.specs.Arguments.{number_within, object_named, task_named, task_or_caller, processor_named, processor_or_initial, caller, is_zero, is_time}
use Rattle.fmp_rules.specs.Arguments.{is_timeout, is_priority_or_zero}
use Rattle.fmp_law_safety.proofs.Calls.{FromTask}
use Rattle.fmp_law_balance.specs.Waits.Waits.{setup_of}
use Rattle.fmp_law_balance.proofs.waits.Named.{caller_runs}
use Rattle.fmp_law_records.specs.Refusals.Meanings.{is_one_of, is_zero_or_of, says_time, says_timeout, task_of, task_meant, object_of, processor_in}
use Rattle.fmp_law_records.proofs.refusals.Frames.{Frame, frame, frame_of}

-- what a state has of its configuration
pub record Configured {Q : Type 0} (c : Setup) (w : World Q) : Type 0 where
  pub frame : frame w ≡ frame_of c
  pub tasks : length w.tasks ≡ length c.tasks
  pub processors : length w.processors ≡ c.processors
  pub few : length w.tasks ≤ 64
  pub classes : (t : Task) → t.number ≤ length w.tasks → (task w t).setup.class ≡ (setup_of c t).class

-- Numbers.

some_if : {X : Type 0} (f : ℕ → X) (b : Bool) (n : ℕ) → is_some (option_map f (if b then Some n else None)) ≡ b
some_if f b n = cond_both b (Some n) None (λ o. is_some (option_map f o) ≡ b) (λ yes_. sym yes_) (λ no_. sym no_)

pub number_known : {X : Type 0} (f : ℕ → X) (count last : ℕ) (id : ℤ) → count ≡ last → is_some (option_map f (number_within count id)) ≡ is_one_of last id
number_known f count last (negsuc n) e = refl
number_known f count last (pos n) e = some_if f (nat_le 1 n && nat_le n count) n ∙ ap (λ i. nat_le 1 n && nat_le n i) e

-- 0 or one from 1 on
pub zero_or : (last n : ℕ) → (if n == 0 then true else nat_le 1 n && nat_le n last) ≡ nat_le n last
zero_or last n =
    cond_both (n == 0) true (nat_le 1 n && nat_le n last) (λ b. b ≡ nat_le n last)
    (λ is. sym (le-leb n last (omega (arith, eqb-true n 0 is))))
    (λ not_. ap (λ b. b && nat_le n last) (le-leb 1 n (positive n not_)))
  where
    positive : (n : ℕ) → (n == 0) ≡ false → 1 ≤ n
    positive n e = ⊎_elim (λ (z : n ≡ 0). absurd (false≢true (sym e ∙ rw z refl))) (λ (d : n ≡ 0 → ⊥). omega (arith, d)) (cases_eq n 0)

pub not_zero : (last n : ℕ) → (nat_le n last && not (n == 0)) ≡ (nat_le 1 n && nat_le n last)
not_zero last n =
    ⊎_elim (λ (z : n ≡ 0). rw z (and_false (nat_le 0 last)))
    (λ (d : n ≡ 0 → ⊥). ap (λ b. nat_le n last && not b) (ne_eqb n 0 d) ∙ and_true (nat_le n last) ∙ sym (ap (λ b. b && nat_le n last) (le-leb 1 n (omega (arith, d)))))
    (cases_eq n 0)
  where
    and_false : (b : Bool) → (b && false) ≡ false
    and_false true = refl
    and_false false = refl

    and_true : (b : Bool) → (b && true) ≡ b
    and_true true = refl
    and_true false = refl

pub time_same : (n : ℤ) → is_time n ≡ says_time n
time_same (pos n) = refl
time_same (negsuc n) = refl

pub timeout_same : (n : ℤ) → is_timeout n ≡ says_timeout n
timeout_same (pos n) = refl
timeout_same (negsuc n) = refl

priority_same : (limits : Limits) (n : ℤ) → is_priority_or_zero limits n ≡ is_zero_or_of limits.priorities n
priority_same limits (pos n) = refl
priority_same limits (negsuc n) = refl

positive_same : (limits : Limits) (n : ℤ) → (is_priority_or_zero limits n && not (is_zero n)) ≡ is_one_of limits.priorities n
positive_same limits (pos n) = not_zero limits.priorities n
positive_same limits (negsuc n) = refl

-- Objects.

pub object_is : {X : Type 0} (xs : List X) (id : ℤ) → is_some (object_named xs id) ≡ true → unwrap_or (object_named xs id) (as_object 1) ≡ object_of id
object_is xs (negsuc n) known = refl
object_is xs (pos n) known =
    cond_both (nat_le 1 n && nat_le n (length xs)) (Some n) None
    (λ (o : Option ℕ). is_some (option_map as_object o) ≡ true → unwrap_or (option_map as_object o) (as_object 1) ≡ as_object n)
    (λ _ _. refl) (λ _ bad. absurd (false≢true bad)) known

module _ {Q : Type 0} (c : Setup) (w : World Q) (h : Configured c w) where
  pub limits_same : w.limits ≡ c.limits
  limits_same = ap (λ (f : Frame). f.limits) h.frame

  pub priority_is : (n : ℤ) → is_priority_or_zero w.limits n ≡ is_zero_or_of c.limits.priorities n
  priority_is n = priority_same w.limits n ∙ ap (λ (l : Limits). is_zero_or_of l.priorities n) limits_same

  pub positive_is : (n : ℤ) → (is_priority_or_zero w.limits n && not (is_zero n)) ≡ is_one_of c.limits.priorities n
  positive_is n = positive_same w.limits n ∙ ap (λ (l : Limits). is_one_of l.priorities n) limits_same

  pub semaphores_same : length w.semaphores ≡ length c.semaphores
  semaphores_same = sym (length-map w.semaphores (λ (x : Semaphore). x.setup)) ∙ ap (λ (f : Frame). length f.semaphores) h.frame

  pub eventflags_same : length w.eventflags ≡ length c.eventflags
  eventflags_same = sym (length-map w.eventflags (λ (x : Eventflag). x.setup)) ∙ ap (λ (f : Frame). length f.eventflags) h.frame

  pub data_queues_same : length w.data_queues ≡ length c.data_queues
  data_queues_same = ap (λ (f : Frame). length f.data_queues) h.frame

  pub pools_same : length w.pools ≡ length c.pools
  pools_same = sym (length-map w.pools (λ (x : Pool). x.setup)) ∙ ap (λ (f : Frame). length f.pools) h.frame

  pub cyclics_same : length w.cyclics ≡ length c.cyclics
  cyclics_same = sym (length-map w.cyclics (λ (x : Cyclic). x.setup)) ∙ ap (λ (f : Frame). length f.cyclics) h.frame

  pub alarms_same : length w.alarms ≡ length c.alarms
  alarms_same = sym (length-map w.alarms (λ (x : Alarm). x.setup)) ∙ ap (λ (f : Frame). length f.alarms) h.frame

  pub holders_same : length w.holders ≡ c.spin_locks
  holders_same = ap (λ (f : Frame). f.spin_locks) h.frame

  pub semaphore_setup : (s : Object) → (semaphore w s).setup ≡ slice_index_or c.semaphores (s.number - 1) no_semaphore
  semaphore_setup s = sym (get_or-map (λ (x : Semaphore). x.setup) w.semaphores (s.number - 1) blank_semaphore)
      ∙ ap (λ (f : Frame). slice_index_or f.semaphores (s.number - 1) no_semaphore) h.frame

  pub eventflag_setup : (o : Object) → (eventflag w o).setup ≡ slice_index_or c.eventflags (o.number - 1) no_eventflag
  eventflag_setup o = sym (get_or-map (λ (x : Eventflag). x.setup) w.eventflags (o.number - 1) blank_eventflag)
      ∙ ap (λ (f : Frame). slice_index_or f.eventflags (o.number - 1) no_eventflag) h.frame

  pub pool_setup_same : (m : Object) → (pool w m).setup ≡ slice_index_or c.pools (m.number - 1) no_pool
  pool_setup_same m = sym (get_or-map (λ (x : Pool). x.setup) w.pools (m.number - 1) blank_pool)
      ∙ ap (λ (f : Frame). slice_index_or f.pools (m.number - 1) no_pool) h.frame

  pub cyclic_setup : (o : Object) → (cyclic w o).setup ≡ slice_index_or c.cyclics (o.number - 1) no_cyclic
  cyclic_setup o = sym (get_or-map (λ (x : Cyclic). x.setup) w.cyclics (o.number - 1) (record { setup = no_cyclic; assigned = as_proc 1 }))
      ∙ ap (λ (f : Frame). slice_index_or f.cyclics (o.number - 1) no_cyclic) h.frame

  pub alarm_setup : (a : Object) → (alarm w a).setup ≡ slice_index_or c.alarms (a.number - 1) no_alarm
  alarm_setup a = sym (get_or-map (λ (x : Alarm). x.setup) w.alarms (a.number - 1) (record { setup = no_alarm; assigned = as_proc 1 }))
      ∙ ap (λ (f : Frame). slice_index_or f.alarms (a.number - 1) no_alarm) h.frame

  -- Processors.

  pub processor_known : (class : Class) (id : ℤ) → is_some (processor_or_initial w class id) ≡ is_zero_or_of c.processors id
  processor_known class (negsuc n) = refl
  processor_known class (pos n) =
      cond_both (n == 0) (Some class.initial) (processor_named w (pos n))
      (λ (o : Option Proc). is_some o ≡ (if n == 0 then true else nat_le 1 n && nat_le n c.processors))
      (λ yes_. sym (cond-true (n == 0) true _ yes_))
      (λ no_. number_known as_proc (length w.processors) c.processors (pos n) h.processors ∙ sym (cond-false (n == 0) true _ no_))
      ∙ zero_or c.processors n

  pub processor_is : (class : Class) (id : ℤ) → is_some (processor_or_initial w class id) ≡ true →
      unwrap_or (processor_or_initial w class id) (as_proc 1) ≡ processor_in class id
  processor_is class (negsuc n) known = absurd (false≢true known)
  processor_is class (pos n) known =
      cond_both (n == 0) (Some class.initial) (processor_named w (pos n))
      (λ (o : Option Proc). is_some o ≡ true → unwrap_or o (as_proc 1) ≡ (if n == 0 then class.initial else as_proc n))
      (λ yes_ _. sym (cond-true (n == 0) class.initial (as_proc n) yes_)) (λ no_ there. named there ∙ sym (cond-false (n == 0) class.initial (as_proc n) no_)) known
    where
      named : is_some (processor_named w (pos n)) ≡ true → unwrap_or (processor_named w (pos n)) (as_proc 1) ≡ as_proc n
      named there =
          cond_both (nat_le 1 n && nat_le n (length w.processors)) (Some n) None
          (λ (o : Option ℕ). is_some (option_map as_proc o) ≡ true → unwrap_or (option_map as_proc o) (as_proc 1) ≡ as_proc n)
          (λ _ _. refl) (λ _ bad. absurd (false≢true bad)) there

  -- Tasks.

  abbrev the : Option Task → Task
  the o = unwrap_or o (as_task 1)

  pub record IsTask (u : Task) (o : Option Task) : Type 0 where
    pub is : the o ≡ u
    pub within : u.number ≤ length w.tasks

  pub task_is : (id : ℤ) → is_some (task_named w id) ≡ true → IsTask (task_of id) (task_named w id)
  task_is (negsuc n) known = absurd (false≢true known)
  task_is (pos n) known =
      cond_both (nat_le 1 n && nat_le n (length w.tasks)) (Some n) None
      (λ (o : Option ℕ). is_some (option_map as_task o) ≡ true → IsTask (as_task n) (option_map as_task o))
      (λ in_range _.
      let parts = and_parts (nat_le 1 n) (nat_le n (length w.tasks)) in_range in
      let most : n ≤ length w.tasks = leb-true n (length w.tasks) parts.1 in
      let least : 1 ≤ n = leb-true 1 n parts.0 in
      record { is = refl; within = omega (arith, most, least) })
      (λ _ bad. absurd (false≢true bad)) known

  module _ (p : Proc) (f : FromTask w p) (within : (t : Task) → (processor w p).running ≡ Some t → t.number ≤ length w.tasks) where
    pub caller_known : (id : ℤ) → is_some (task_or_caller w p id) ≡ is_zero_or_of (length c.tasks) id
    caller_known (negsuc n) = refl
    caller_known (pos n) =
        cond_both (n == 0) (processor w p).running (task_named w (pos n))
        (λ (o : Option Task). is_some o ≡ (if n == 0 then true else nat_le 1 n && nat_le n (length c.tasks)))
        (λ yes_. ap is_some f.running ∙ sym (cond-true (n == 0) true _ yes_))
        (λ no_. number_known as_task (length w.tasks) (length c.tasks) (pos n) h.tasks ∙ sym (cond-false (n == 0) true _ no_))
        ∙ zero_or (length c.tasks) n

    pub meant_is : (id : ℤ) → is_some (task_or_caller w p id) ≡ true → IsTask (task_meant (runner_of w p) id) (task_or_caller w p id)
    meant_is id known = subst (λ (r : Option Runner). IsTask (task_meant r id) (task_or_caller w p id)) (sym (caller_runs w p f)) (go id known)
      where
        go : (id : ℤ) → is_some (task_or_caller w p id) ≡ true → IsTask (task_meant (Some (runner.Task (caller w p))) id) (task_or_caller w p id)
        go (negsuc n) known = absurd (false≢true known)
        go (pos n) known =
            cond_both (n == 0) (processor w p).running (task_named w (pos n))
            (λ (o : Option Task). is_some o ≡ true → IsTask (if n == 0 then caller w p else as_task n) o)
            (λ yes_ _. subst (λ (t : Task). IsTask t (processor w p).running) (sym (cond-true (n == 0) (caller w p) (as_task n) yes_))
            (record { is = refl; within = within (caller w p) f.running }))
            (λ no_ there. subst (λ (t : Task). IsTask t (task_named w (pos n))) (sym (cond-false (n == 0) (caller w p) (as_task n) no_)) (task_is (pos n) there)) known
