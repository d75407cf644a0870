-- The whole record of each task at boot.
use Rattle.std.proofs.Common.{◌≡◌, ℕ, ◌+◌, ◌-◌, ◌≤◌, ◌<◌, suc, List, [], ◌∷◌, length, arith, refl, sym, ap, ◌∙◌, subst, ⊎_elim}
use Rattle.std.specs.Prelude.{if◌then◌else◌, slice_index_or}
use Rattle.std.proofs.lemmas.Bool.{cond_both, cond-true, cond-false, cases_eq}
use Rattle.std.proofs.lemmas.List.{length-map}
use Rattle.std.proofs.Math.ListN.{get_or-map}
use Rattle.fmp_codes.specs.Numbers.{as_task, within}
use Rattle.fmp_codes.specs.declared.numbers.Task.{Task}
use Rattle.fmp_codes.proofs.Same.{tasks_same}
use Rattle.fmp_setup.specs.declared.setup.TaskSetup.{TaskSetup}
use Rattle.fmp_setup.specs.Setup.{Setup}
use Rattle.fmp_rules.specs.declared.machine.TaskRecord.{TaskRecord}
use Rattle.fmp_rules.specs.World.{World, no_task, item, task, processors_to, resting}
use Rattle.fmp_rules.specs.Ordering.{Ordering}
use Rattle.fmp_rules.specs.Arrivals.{State, numbered}
use Rattle.fmp_rules.specs.Tasks.{started}
use Rattle.fmp_rules.specs.Boot.{blank, all_started, booted, unnumbered}
use Rattle.fmp_law_balance.specs.Waits.Waits.{setup_of}
use Rattle.fmp_law_records.proofs.counts.Tasks.{changed_here}
use Rattle.fmp_law_records.proofs.counts.Booted.{started_if, tasks_started_if, other_started, later_started, tasks_running}

-- a task of this setup, which it had before it started or not
abbrev pub at_start : TaskSetup → TaskRecord → TaskRecord
at_start s r = if s.starts then started r s.class.initial else r

module _ {Q : Type 0} (k : Ordering Q) (none : TaskSetup) where
  this_started : (w : World Q) (t : Task) (s : TaskSetup) → t.number ≤ length w.tasks → task (started_if k w t s) t ≡ at_start s (task w t)
  this_started w t s most =
      cond_both s.starts _ _ (λ (v : World Q). task v t ≡ at_start s (task w t))
      (λ yes_. changed_here w t (started (task w t) s.class.initial) most ∙ sym (cond-true s.starts _ _ yes_))
      (λ no_. sym (cond-false s.starts _ _ no_))

  tasks_at_start : (w : World Q) (n : ℕ) (ss : List TaskSetup) (t : Task) → 1 ≤ n → n + length ss ≤ 65 → n ≤ t.number → t.number < n + length ss → t.number ≤ length w.tasks →
      task (all_started k w n ss) t ≡ at_start (slice_index_or ss (t.number - n) none) (task w t)
  tasks_at_start w n [] t least few from below most = absurd (omega (arith, from, below))
  tasks_at_start w n (s ∷ ss) t least few from below most =
      let number : within 64 n ≡ n = omega (arith, least, few) in
      let v : World Q = started_if k w (as_task n) s in
      ⊎_elim
      (λ (e : t.number ≡ n).
      let first : t.number - n ≡ 0 = omega (arith, e) in
      let same : t ≡ as_task n = tasks_same t (as_task n) (omega (arith, e, number)) in
      later_started k v (n + 1) ss t (omega (arith, few)) (omega (arith, e))
      ∙ subst (λ (u : Task). task (started_if k w u s) t ≡ at_start s (task w t)) same (this_started w t s most)
      ∙ rw first refl)
      (λ (d : t.number ≡ n → ⊥).
      let later : t.number - n ≡ suc (t.number - (n + 1)) = omega (arith, d, from) in
      let kept : task v t ≡ task w t = other_started k w (as_task n) t s (λ e. d (e ∙ number)) in
      tasks_at_start v (n + 1) ss t (omega arith) (omega (arith, few)) (omega (arith, d, from)) (omega (arith, below)) (rw (tasks_started_if k w (as_task n) s) most)
      ∙ rw (kept, later) refl)
      (cases_eq t.number n)

module _ (c : Setup) (few : length c.tasks ≤ 64) where
  abbrev at_first : State
  at_first = blank (unnumbered c) c

  pub booted_task : (t : Task) → t.number ≤ length c.tasks → task (booted c) t ≡ at_start (setup_of c t) (resting (setup_of c t))
  booted_task t most =
      let count : length at_first.tasks ≡ length c.tasks = length-map c.tasks resting in
      ap (λ (rs : List TaskRecord). item no_task rs t.number) (tasks_running numbered (all_started numbered at_first 1 c.tasks) (processors_to c.processors))
      ∙ tasks_at_start numbered no_task.setup at_first 1 c.tasks t (omega arith) (omega (arith, few)) t.least (omega (arith, most)) (omega (arith, most, count))
      ∙ ap (at_start (setup_of c t)) (get_or-map resting c.tasks (t.number - 1) no_task.setup)
