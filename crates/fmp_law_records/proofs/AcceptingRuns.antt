-- Which calls on a task are due along a run.
use Rattle.std.proofs.Common.{◌≡◌, ◌≤◌, List, length, ap, Option, Some, None}
use Rattle.std.specs.Prelude.{is_some, option_map}
use Rattle.fmp_codes.specs.declared.numbers.Task.{Task}
use Rattle.fmp_codes.specs.declared.records.Event.{Event}
use Rattle.fmp_setup.specs.Setup.{Setup}
use Rattle.fmp_setup.specs.Valid.{IsValid}
use Rattle.fmp_rules.specs.declared.machine.Wait.{Wait}
use Rattle.fmp_rules.specs.World.{task}
use Rattle.fmp_rules.specs.Arrivals.{State, numbered}
use Rattle.fmp_rules.specs.Step.{step, replay, answers}
use Rattle.fmp_rules.specs.Boot.{booted}
use Rattle.fmp_law_safety.specs.Runs.{AreOn}
use Rattle.fmp_law_balance.specs.Waits.Asked.{OpenWait}
use Rattle.fmp_law_records.proofs.counts.Ready.{ready_after}
use Rattle.fmp_law_records.specs.Accepting.{report_task, TaskCallFits}
use Rattle.fmp_law_records.proofs.TaskRuns.{suspension_from_boot}
use Rattle.fmp_law_records.proofs.LivesRuns.{life_from_boot}
use Rattle.fmp_law_records.proofs.Accepting.{Agrees, fits_step}

waits_same : (q : Option OpenWait) (o : Option Wait) → o ≡ option_map (λ y. y.wait) q → is_some o ≡ is_some q
waits_same None o e = ap is_some e
waits_same (Some y) o e = ap is_some e

pub agrees_from_boot : (c : Setup) (es : List Event) → IsValid c → AreOn c.processors es → (t : Task) → t.number ≤ length c.tasks → Agrees (report_task c t (answers numbered (booted c) es)) (task (replay numbered (booted c) es) t)
agrees_from_boot c es valid on t here =
    let h = life_from_boot c t here es valid on in
    let m : State = replay numbered (booted c) es in
    record {
      active = h.active;
      at = h.at;
      activations = h.activations;
      suspended = suspension_from_boot c t here es valid on;
      waits = waits_same _ (task m t).wait ((ready_after c valid es on).report t).0.wait;
    }

pub calls_fit : (c : Setup) (events : List Event) → IsValid c → AreOn c.processors events → (e : Event) (t : Task) → t.number ≤ length c.tasks →
    TaskCallFits t (report_task c t (answers numbered (booted c) events)) (step numbered (replay numbered (booted c) events) e).1
calls_fit c events valid on e t here =
    fits_step numbered (replay numbered (booted c) events) t _ (agrees_from_boot c events valid on t here) (ready_after c valid events on).sound.few_tasks e
