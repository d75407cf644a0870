-- The state at boot of a valid configuration is safe.
use Rattle.std.proofs.Common.{◌≡◌, ℕ, ◌+◌, ◌-◌, ◌<◌, List, length, map, ap, arith, lit≤}
use Rattle.std.specs.Prelude.{slice_index_or}
use Rattle.std.proofs.lemmas.List.{get_or-map}
use Rattle.fmp_rules.specs.declared.machine.TaskRecord.{TaskRecord}
use Rattle.fmp_setup.specs.Setup.{Setup}
use Rattle.fmp_setup.specs.Valid.{IsValid}
use Rattle.fmp_rules.specs.World.{World, no_task, resting}
use Rattle.fmp_rules.specs.Ordering.{Ordering}
use Rattle.fmp_rules.specs.Arrivals.{State, numbered}
use Rattle.fmp_rules.specs.Boot.{blank, all_started, boot, booted, unnumbered}
use Rattle.fmp_law_safety.specs.Safe.{Safe}
use Rattle.fmp_law_safety.specs.Runs.{AreOn, IsSafeThroughout}
use Rattle.fmp_codes.specs.declared.records.Event.{Event}
use Rattle.fmp_law_safety.proofs.Rests.{Rests}
use Rattle.fmp_law_safety.proofs.Settling.{TopsMayRun}
use Rattle.fmp_law_safety.proofs.Stepping.{numbered_tops, safe_throughout}
use Rattle.fmp_law_safety.proofs.Booting.{task_member, blank_rests, blank_counts, started_counts, started_processors, started_due, started_rests, safe_running, length_running}

module _ {Q : Type 0} (k : Ordering Q) (may_run : (w : World Q) → TopsMayRun k w) (order : Q) where
  -- the tasks are started and the processors run their tops
  boot_safe : (c : Setup) → IsValid c → Safe k (boot k order c)
  boot_safe c valid =
      let w : World Q = all_started k (blank order c) 1 c.tasks in
      let of : (j : ℕ) → j < length c.tasks → (slice_index_or (map resting c.tasks) (1 - 1 + j) no_task).setup ≡ slice_index_or c.tasks j no_task.setup =
      λ j h. let e : 1 - 1 + j ≡ j = omega arith in rw e (ap (λ (r : TaskRecord). r.setup) (get_or-map resting c.tasks j no_task.setup no_task h)) in
      let few = valid.few_tasks in
      let rests : Rests w = started_rests k (blank order c) 1 c.tasks (lit≤ tt) (omega (arith, few)) of (task_member order c valid) (blank_rests order c valid) in
      safe_running k w c.processors (started_processors k (blank order c) 1 c.tasks) (started_due k (blank order c) 1 c.tasks) (may_run w) rests
      (started_counts k (blank order c) 1 c.tasks (blank_counts order c valid))

pub booted_safe : (c : Setup) → IsValid c → Safe numbered (booted c)
booted_safe c valid = boot_safe numbered numbered_tops (unnumbered c) c valid

pub count_booted : (c : Setup) → length (booted c).processors ≡ c.processors
count_booted c =
    let blank_world : State = blank (unnumbered c) c in
    length_running numbered (all_started numbered blank_world 1 c.tasks) c.processors (started_processors numbered blank_world 1 c.tasks) (started_due numbered blank_world 1 c.tasks)

-- every prefix of a list of events on the machine's processors leads to a safe state
pub runs_safe : (c : Setup) (events : List Event) → IsValid c → AreOn c.processors events → IsSafeThroughout (booted c) events
runs_safe c events valid on = safe_throughout (booted c) events (booted_safe c valid) (rw (count_booted c) on)
