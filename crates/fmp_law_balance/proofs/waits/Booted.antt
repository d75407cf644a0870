-- At boot nobody waits. So the records of every run tell the waits, and each release fits.
use Rattle.std.proofs.Common.{map, ◌≡◌, ℕ, zero, suc, ◌-◌, ◌+◌, false, List, [], ◌∷◌, replicate, refl, sym, ◌∙◌, Option, None}
use Rattle.std.specs.Prelude.{slice_index_or, if◌then◌else◌}
use Rattle.std.proofs.lemmas.Bool.{cond_both}
use Rattle.std.proofs.lemmas.List.{length-map}
use Rattle.std.proofs.lemmas.List.Elements.{All-map}
use Rattle.fmp_codes.specs.Numbers.{as_task}
use Rattle.fmp_codes.specs.declared.numbers.Proc.{Proc}
use Rattle.fmp_codes.specs.declared.numbers.Task.{Task}
use Rattle.fmp_codes.specs.declared.records.Event.{Event}
use Rattle.fmp_setup.specs.declared.setup.TaskSetup.{TaskSetup}
use Rattle.fmp_setup.specs.Setup.{Setup}
use Rattle.fmp_setup.specs.Valid.{IsValid}
use Rattle.fmp_rules.specs.declared.machine.Semaphore.{Semaphore}
use Rattle.fmp_rules.specs.declared.machine.Eventflag.{Eventflag}
use Rattle.fmp_rules.specs.declared.machine.Pool.{Pool}
use Rattle.fmp_rules.specs.declared.machine.TaskRecord.{TaskRecord}
use Rattle.fmp_rules.specs.World.{World, no_task, task, resting, processors_to}
use Rattle.fmp_rules.specs.Ordering.{Ordering}
use Rattle.fmp_rules.specs.Arrivals.{State, numbered}
use Rattle.fmp_rules.specs.Tasks.{started, start}
use Rattle.fmp_rules.specs.Step.{answers}
use Rattle.fmp_rules.specs.Boot.{blank, all_started, with_top_running, with_tops_running, booted, unnumbered}
use Rattle.fmp_law_safety.specs.Runs.{AreOn}
use Rattle.fmp_law_safety.proofs.Booted.{runs_safe}
use Rattle.fmp_law_safety.proofs.Items.{item_holds}
use Rattle.fmp_law_safety.proofs.Listed.{numbered_lists}
use Rattle.fmp_law_balance.specs.Waits.Waits.{nobody_waits}
use Rattle.fmp_law_balance.specs.Waits.Releases.{EachReleaseFits}
use Rattle.fmp_law_balance.specs.Waits.Laws.{AreWaitsReported}
use Rattle.fmp_law_balance.proofs.waits.Words.{IsKept, report_kept, counts_task}
use Rattle.fmp_law_balance.proofs.waits.Follows.{Sound}
use Rattle.fmp_law_balance.proofs.waits.Ticks.{numbered_once}
use Rattle.fmp_law_balance.proofs.waits.Steps.{report_run, fit_run}

-- nobody waits, and there are as many of each
pub record Quiet {Q : Type 0} (config : Setup) (w : World Q) : Type 0 where
  pub report : (t : Task) → IsKept config w t None
  pub sound : Sound config w

module _ {Q : Type 0} (config : Setup) (k : Ordering Q) where
  quiet_start : (w : World Q) (t : Task) (p : Proc) → Quiet config w → Quiet config (start k w t p)
  quiet_start w t p q =
      let r : TaskRecord = started (task w t) p in
      let same = (counts_task w t r w.order).0 in
      record {
        report = report_kept config w nobody_waits q.report t r w.order (record { wait = refl; left = (q.report t).0.left; assigned = tt }, (q.report t).1);
        sound = record {
          few = record { semaphores = q.sound.few.semaphores; pools = q.sound.few.pools; data_queues = q.sound.few.data_queues };
          few_eventflags = q.sound.few_eventflags;
          few_tasks = rw same q.sound.few_tasks;
          waits_left = q.sound.waits_left ∙ sym same;
          timer = q.sound.timer;
        };
      }

  quiet_started : (w : World Q) (t : ℕ) (ss : List TaskSetup) → Quiet config w → Quiet config (all_started k w t ss)
  quiet_started w t [] q = q
  quiet_started w t (s ∷ ss) q =
      quiet_started (if s.starts then start k w (as_task t) s.class.initial else w) (t + 1) ss
      (cond_both s.starts (start k w (as_task t) s.class.initial) w (λ (v : World Q). Quiet config v) (λ _. quiet_start w (as_task t) s.class.initial q) (λ _. q))

  quiet_running : (w : World Q) (ps : List Proc) → Quiet config w → Quiet config (with_tops_running k w ps)
  quiet_running w [] q = q
  quiet_running w (p ∷ ps) q =
      quiet_running (with_top_running k w p) ps
      (record {
        report = q.report;
        sound = record {
          few = record { semaphores = q.sound.few.semaphores; pools = q.sound.few.pools; data_queues = q.sound.few.data_queues };
          few_eventflags = q.sound.few_eventflags;
          few_tasks = q.sound.few_tasks;
          waits_left = q.sound.waits_left;
          timer = q.sound.timer;
        };
      })

-- each task is as configured at first
setup_at_first : (ss : List TaskSetup) (i : ℕ) → (slice_index_or (map resting ss) i no_task).setup ≡ slice_index_or ss i no_task.setup
setup_at_first [] i = refl
setup_at_first (s ∷ ss) zero = refl
setup_at_first (s ∷ ss) (suc i) = setup_at_first ss i

module _ (c : Setup) (valid : IsValid c) where
  abbrev at_first : State
  at_first = blank (unnumbered c) c

  quiet_at_first : Quiet c at_first
  quiet_at_first = record {
    report = λ t. (
      record {
        wait = item_holds (λ (r : TaskRecord). r.wait ≡ None) no_task at_first.tasks t.number refl (All-map (λ (r : TaskRecord). r.wait ≡ None) resting c.tasks (λ i d h. refl));
        left = item_holds (λ (o : Option ℕ). o ≡ None) None at_first.waits_left t.number refl (All-map (λ (o : Option ℕ). o ≡ None) (λ s. None) c.tasks (λ i d h. refl));
        assigned = tt;
      },
      setup_at_first c.tasks (t.number - 1),
    );
    sound = record {
      few = record {
        semaphores = rw (length-map {B = Semaphore} c.semaphores (λ x. record { setup = x; count = x.initial })) valid.few.semaphores;
        pools = rw (length-map {B = Pool} c.pools (λ x. record { setup = x; handed = replicate 64 false })) valid.few.pools;
        data_queues = valid.few.data_queues;
      };
      few_eventflags = rw (length-map {B = Eventflag} c.eventflags (λ x. record { setup = x; pattern = x.initial })) valid.few.eventflags;
      few_tasks = rw (length-map c.tasks resting) valid.few_tasks;
      waits_left = length-map {B = Option ℕ} c.tasks (λ s. None) ∙ sym (length-map c.tasks resting);
      timer = refl;
    };
  }

  pub quiet_booted : Quiet c (booted c)
  quiet_booted = quiet_running c numbered (all_started numbered at_first 1 c.tasks) (processors_to c.processors) (quiet_started c numbered at_first 1 c.tasks quiet_at_first)

  pub waits_reported : (events : List Event) → AreOn c.processors events → AreWaitsReported c events (answers numbered (booted c) events)
  waits_reported events on = report_run c numbered numbered_once numbered_lists (booted c) quiet_booted.sound nobody_waits quiet_booted.report events (runs_safe c events valid on)

  pub releases_fit : (events : List Event) → AreOn c.processors events → EachReleaseFits c nobody_waits (answers numbered (booted c) events)
  releases_fit events on = fit_run c numbered numbered_once numbered_lists (booted c) quiet_booted.sound nobody_waits quiet_booted.report events (runs_safe c events valid on)
