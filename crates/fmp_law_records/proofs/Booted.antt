-- At boot no task is suspended, and each has its initial priority.
use Rattle.std.proofs.Common.{◌≡◌, ℕ, ◌+◌, ◌≤◌, false, List, [], ◌∷◌, length, refl, sym, ◌∙◌, subst}
use Rattle.std.specs.Prelude.{if◌then◌else◌}
use Rattle.std.proofs.lemmas.Bool.{cond_both}
use Rattle.std.proofs.lemmas.List.Elements.{All-map}
use Rattle.fmp_codes.specs.Numbers.{as_task}
use Rattle.fmp_codes.specs.declared.numbers.Task.{Task}
use Rattle.fmp_codes.specs.declared.numbers.Pri.{Pri}
use Rattle.fmp_setup.specs.declared.setup.TaskSetup.{TaskSetup}
use Rattle.fmp_setup.specs.Setup.{Setup}
use Rattle.fmp_rules.specs.declared.machine.TaskRecord.{TaskRecord}
use Rattle.fmp_rules.specs.World.{World, no_task, item, task, processors_to, resting}
use Rattle.fmp_rules.specs.Ordering.{Ordering}
use Rattle.fmp_rules.specs.Arrivals.{State, numbered}
use Rattle.fmp_rules.specs.Tasks.{started, start}
use Rattle.fmp_rules.specs.Boot.{blank, all_started, booted, unnumbered}
use Rattle.fmp_law_safety.proofs.Items.{item_holds}
use Rattle.fmp_law_records.proofs.counts.Tasks.{after_change}
use Rattle.fmp_law_records.proofs.counts.Booted.{tasks_running}
use Rattle.fmp_law_records.proofs.Priorities.{HasPriority}

-- not suspended, and of its initial priority
pub record IsFresh (r : TaskRecord) : Type 0 where
  pub suspended : r.suspended ≡ false
  pub priority : r.priority ≡ r.setup.priority

fresh_started : {Q : Type 0} (k : Ordering Q) (w : World Q) (n : ℕ) (ss : List TaskSetup) (t : Task) → IsFresh (task w t) → IsFresh (task (all_started k w n ss) t)
fresh_started k w n [] t h = h
fresh_started k w n (s ∷ ss) t h =
    let u : Task = as_task n in
    fresh_started k (if s.starts then start k w u s.class.initial else w) (n + 1) ss t
    (cond_both s.starts (start k w u s.class.initial) w (λ (v : World _). IsFresh (task v t))
    (λ _. after_change w u (started (task w u) s.class.initial) t IsFresh (λ _. record { suspended = refl; priority = refl }) h) (λ _. h))

module _ (c : Setup) (few : length c.tasks ≤ 64) (t : Task) where
  abbrev at_first : State
  at_first = blank (unnumbered c) c

  pub booted_fresh : IsFresh (task (booted c) t)
  booted_fresh =
      subst (λ (rs : List TaskRecord). IsFresh (item no_task rs t.number)) (sym (tasks_running numbered (all_started numbered at_first 1 c.tasks) (processors_to c.processors)))
      (fresh_started numbered at_first 1 c.tasks t
      (item_holds IsFresh no_task at_first.tasks t.number (record { suspended = refl; priority = refl }) (All-map IsFresh resting c.tasks (λ i d h. record { suspended = refl; priority = refl }))))

  pub booted_unsuspended : (task (booted c) t).suspended ≡ false
  booted_unsuspended = booted_fresh.suspended

  pub booted_priority : {initial : Pri} → (task (booted c) t).setup.priority ≡ initial → HasPriority initial initial (task (booted c) t)
  booted_priority is = record { active = λ _. booted_fresh.priority ∙ is; dormant = λ _. refl; setup = is }
