-- At boot a task is active that starts then, and nothing is queued.
use Rattle.std.proofs.Common.{◌≡◌, ℕ, suc, ◌+◌, ◌-◌, ◌<◌, ◌≤◌, false, List, [], ◌∷◌, length, map, refl, sym, ap, ◌∙◌, subst, arith, ⊎_elim}
use Rattle.std.specs.Prelude.{if◌then◌else◌, slice_index_or}
use Rattle.std.proofs.lemmas.Bool.{cases_eq, cond_both}
use Rattle.std.proofs.lemmas.List.{length-map, length-set}
use Rattle.std.proofs.lemmas.List.Elements.{All-map}
use Rattle.fmp_codes.specs.Numbers.{as_task, within}
use Rattle.fmp_codes.specs.declared.numbers.Proc.{Proc}
use Rattle.fmp_codes.specs.declared.numbers.Task.{Task}
use Rattle.fmp_codes.proofs.Same.{tasks_same}
use Rattle.fmp_setup.specs.declared.setup.TaskSetup.{TaskSetup}
use Rattle.fmp_setup.specs.Setup.{Setup}
use Rattle.fmp_rules.specs.declared.machine.TaskRecord.{TaskRecord}
use Rattle.fmp_rules.specs.World.{World, no_task, item, task, processors_to, resting}
use Rattle.fmp_rules.specs.Ordering.{Ordering}
use Rattle.fmp_rules.specs.Arrivals.{State, numbered}
use Rattle.fmp_rules.specs.Tasks.{started, start}
use Rattle.fmp_rules.specs.Boot.{blank, all_started, with_top_running, with_tops_running, booted, unnumbered}
use Rattle.fmp_law_safety.proofs.Items.{item_holds}
use Rattle.fmp_law_balance.specs.Accepted.{one_if}
use Rattle.fmp_law_records.proofs.counts.Tasks.{after_change, changed_here, changed_there}
use Rattle.fmp_law_records.proofs.counts.Lives.{life}

module _ {Q : Type 0} (k : Ordering Q) where
  abbrev pub started_if : World Q → Task → TaskSetup → World Q
  started_if w t s = if s.starts then start k w t s.class.initial else w

  pub tasks_started_if : (w : World Q) (t : Task) (s : TaskSetup) → length (started_if w t s).tasks ≡ length w.tasks
  tasks_started_if w t s = cond_both s.starts _ _ (λ (v : World Q). length v.tasks ≡ length w.tasks) (λ _. length-set w.tasks _ _) (λ _. refl)

  pub other_started : (w : World Q) (u t : Task) (s : TaskSetup) → (t.number ≡ u.number → ⊥) → task (started_if w u s) t ≡ task w t
  other_started w u t s d = cond_both s.starts _ _ (λ (v : World Q). task v t ≡ task w t) (λ _. changed_there w u (started (task w u) s.class.initial) t d) (λ _. refl)

  this_started : (w : World Q) (t : Task) (s : TaskSetup) → t.number ≤ length w.tasks → life (task w t) ≡ 0 → life (task (started_if w t s) t) ≡ one_if s.starts
  this_started w t s most rests =
      cond_both s.starts _ _ (λ (v : World Q). life (task v t) ≡ one_if s.starts)
      (λ starts. let one : one_if s.starts ≡ 1 = ap one_if starts in let queued : life (started (task w t) s.class.initial) ≡ 1 = omega (arith, rests) in ap life (changed_here w t (started (task w t) s.class.initial) most) ∙ queued ∙ sym one)
      (λ not_now. rests ∙ sym (ap one_if not_now))

  pub tasks_started : (w : World Q) (n : ℕ) (ss : List TaskSetup) → length (all_started k w n ss).tasks ≡ length w.tasks
  tasks_started w n [] = refl
  tasks_started w n (s ∷ ss) = tasks_started (started_if w (as_task n) s) (n + 1) ss ∙ tasks_started_if w (as_task n) s

  -- a task of a lesser number is started no more
  pub later_started : (w : World Q) (n : ℕ) (ss : List TaskSetup) (t : Task) → n + length ss ≤ 65 → t.number < n → task (all_started k w n ss) t ≡ task w t
  later_started w n [] t few before = refl
  later_started w n (s ∷ ss) t few before =
      let number : within 64 n ≡ n = omega (arith, few, before) in
      later_started (started_if w (as_task n) s) (n + 1) ss t (omega (arith, few)) (omega (arith, before)) ∙ other_started w (as_task n) t s (λ e. omega (arith, number, e, before))

  lives_started : (w : World Q) (n : ℕ) (ss : List TaskSetup) (t : Task) → 1 ≤ n → n + length ss ≤ 65 → n ≤ t.number → t.number ≤ length w.tasks → life (task w t) ≡ 0 →
      life (task (all_started k w n ss) t) ≡ one_if (slice_index_or (map (λ (s : TaskSetup). s.starts) ss) (t.number - n) false)
  lives_started w n [] t least few from most rests = rests
  lives_started w n (s ∷ ss) t least few from most rests =
      let number : within 64 n ≡ n = omega (arith, least, few) in
      let v : World Q = started_if w (as_task n) s in
      ⊎_elim
      (λ (e : t.number ≡ n).
      let first : t.number - n ≡ 0 = omega (arith, e) in
      let same : t ≡ as_task n = tasks_same t (as_task n) (omega (arith, e, number)) in
      ap life (later_started v (n + 1) ss t (omega (arith, few)) (omega (arith, e)))
      ∙ subst (λ (u : Task). life (task (started_if w u s) t) ≡ one_if s.starts) same (this_started w t s most rests)
      ∙ rw first refl)
      (λ (d : t.number ≡ n → ⊥).
      let later : t.number - n ≡ suc (t.number - (n + 1)) = omega (arith, d, from) in
      let kept : task v t ≡ task w t = other_started w (as_task n) t s (λ e. d (e ∙ number)) in
      lives_started v (n + 1) ss t (omega arith) (omega (arith, few)) (omega (arith, d, from)) (rw (tasks_started_if w (as_task n) s) most) (rw kept rests)
      ∙ rw later refl)
      (cases_eq t.number n)

  no_wakeups_started : (w : World Q) (n : ℕ) (ss : List TaskSetup) (t : Task) → (task w t).wakeups ≡ 0 → (task (all_started k w n ss) t).wakeups ≡ 0
  no_wakeups_started w n [] t h = h
  no_wakeups_started w n (s ∷ ss) t h =
      let u : Task = as_task n in
      no_wakeups_started (started_if w u s) (n + 1) ss t
      (cond_both s.starts (start k w u s.class.initial) w (λ (v : World Q). (task v t).wakeups ≡ 0)
      (λ _. after_change w u (started (task w u) s.class.initial) t (λ o. o.wakeups ≡ 0) (λ _. refl) h) (λ _. h))

  pub tasks_running : (w : World Q) (ps : List Proc) → (with_tops_running k w ps).tasks ≡ w.tasks
  tasks_running w [] = refl
  tasks_running w (p ∷ ps) = tasks_running (with_top_running k w p) ps

module _ (c : Setup) (few : length c.tasks ≤ 64) where
  abbrev at_first : State
  at_first = blank (unnumbered c) c

  abbrev all_there : State
  all_there = all_started numbered at_first 1 c.tasks

  pub count_booted_tasks : length (booted c).tasks ≡ length c.tasks
  count_booted_tasks = ap length (tasks_running numbered all_there (processors_to c.processors)) ∙ tasks_started numbered at_first 1 c.tasks ∙ length-map c.tasks resting

  -- a task is active at boot if it starts then, and no activation of it is queued
  pub booted_life : (t : Task) → t.number ≤ length c.tasks → life (task (booted c) t) ≡ one_if (item false (map (λ s. s.starts) c.tasks) t.number)
  booted_life t most =
      let count : length at_first.tasks ≡ length c.tasks = length-map c.tasks resting in
      let rests : life (task at_first t) ≡ 0 = item_holds (λ (r : TaskRecord). life r ≡ 0) no_task at_first.tasks t.number refl (All-map (λ (r : TaskRecord). life r ≡ 0) resting c.tasks (λ i d h. refl)) in
      ap (λ (rs : List TaskRecord). life (item no_task rs t.number)) (tasks_running numbered all_there (processors_to c.processors))
      ∙ lives_started numbered at_first 1 c.tasks t (omega arith) (omega (arith, few)) t.least (omega (arith, most, count)) rests

  pub booted_wakeups : (t : Task) → (task (booted c) t).wakeups ≡ 0
  booted_wakeups t =
      ap (λ (rs : List TaskRecord). (item no_task rs t.number).wakeups) (tasks_running numbered all_there (processors_to c.processors))
      ∙ no_wakeups_started numbered at_first 1 c.tasks t
      (item_holds (λ (r : TaskRecord). r.wakeups ≡ 0) no_task at_first.tasks t.number refl (All-map (λ (r : TaskRecord). r.wakeups ≡ 0) resting c.tasks (λ i d h. refl)))
