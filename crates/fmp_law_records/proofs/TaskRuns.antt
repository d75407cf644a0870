-- The suspension and the priority of a task along a run.
use Rattle.std.proofs.Common.{◌≡◌, ℕ, ◌≤◌, Bool, false, List, [], ◌∷◌, ◌++◌, length, arith, sym, ap, ◌∙◌, subst}
use Rattle.std.specs.Prelude.{take}
use Rattle.std.proofs.lemmas.List.Elements.{All-nil, All-cons, All-append}
use Rattle.fmp_codes.specs.declared.numbers.Task.{Task}
use Rattle.fmp_codes.specs.declared.numbers.Pri.{Pri}
use Rattle.fmp_codes.specs.declared.records.Event.{Event}
use Rattle.fmp_setup.specs.Setup.{Setup}
use Rattle.fmp_setup.specs.Valid.{IsValid}
use Rattle.fmp_rules.specs.World.{task}
use Rattle.fmp_rules.specs.Arrivals.{State, numbered}
use Rattle.fmp_rules.specs.Step.{step, replay, answers}
use Rattle.fmp_rules.specs.Boot.{booted}
use Rattle.fmp_rules.proofs.Replays.{answers_take}
use Rattle.fmp_law_safety.specs.Runs.{processor_of, AreOn}
use Rattle.fmp_law_balance.specs.Waits.Waits.{OpenWaits, nobody_waits, after_record, setup_of}
use Rattle.fmp_law_records.proofs.counts.Ready.{Ready, ready_next, ready_later, ready_at_boot, ready_after, prefix_on}
use Rattle.fmp_law_records.specs.Suspensions.{suspended_after, suspended_by, IsSuspensionReported, SuspensionFits}
use Rattle.fmp_law_records.specs.Priorities.{priority_after, priority_by, report_priority, IsPriorityReported, TellsPriority}
use Rattle.fmp_law_records.proofs.Suspensions.{suspension_step, fits_step}
use Rattle.fmp_law_records.proofs.Priorities.{HasPriority, priority_step, tells_step}
use Rattle.fmp_law_records.proofs.Begins.{begins_unsuspended}
use Rattle.fmp_law_records.proofs.Booted.{booted_unsuspended, booted_priority}

module _ (c : Setup) (t : Task) (here : t.number ≤ length c.tasks) where
  suspension_run : (pending : OpenWaits) (m : State) (es : List Event) (x : Bool) → Ready c pending m es → (task m t).suspended ≡ x →
      (task (replay numbered m es) t).suspended ≡ suspended_by t (answers numbered m es) x
  suspension_run pending m [] x h old = old
  suspension_run pending m (e ∷ es) x h old =
      suspension_run (after_record c pending (step numbered m e).1) (step numbered m e).0 es (suspended_after t (step numbered m e).1 x) (ready_next c pending m e es h)
      (suspension_step numbered m t x old h.safe h.sound.few_tasks (rw h.tasks here) e)

  priority_run : (initial : Pri) (pending : OpenWaits) (m : State) (es : List Event) (x : Pri) → Ready c pending m es → HasPriority initial x (task m t) →
      HasPriority initial (priority_by initial t (answers numbered m es) x) (task (replay numbered m es) t)
  priority_run initial pending m [] x h old = old
  priority_run initial pending m (e ∷ es) x h old =
      priority_run initial (after_record c pending (step numbered m e).1) (step numbered m e).0 es (priority_after initial t (step numbered m e).1 x) (ready_next c pending m e es h)
      (priority_step numbered m t initial x old h.sound.few_tasks (rw h.tasks here) e)

  pub suspension_from_boot : (es : List Event) → IsValid c → AreOn c.processors es → (task (replay numbered (booted c) es) t).suspended ≡ suspended_by t (answers numbered (booted c) es) false
  suspension_from_boot es valid on = suspension_run nobody_waits (booted c) es false (ready_at_boot c valid es on) (booted_unsuspended c valid.few_tasks t)

  priority_from_boot : (es : List Event) → IsValid c → AreOn c.processors es → HasPriority (setup_of c t).priority (report_priority c t (answers numbered (booted c) es)) (task (replay numbered (booted c) es) t)
  priority_from_boot es valid on =
      let ready = ready_at_boot c valid es on in
      priority_run (setup_of c t).priority nobody_waits (booted c) es (setup_of c t).priority ready (booted_priority c valid.few_tasks t (ap (λ s. s.priority) (ready.report t).1))

pub suspensions_reported : (c : Setup) (events : List Event) → IsValid c → AreOn c.processors events → (n : ℕ) (t : Task) → t.number ≤ length c.tasks →
    IsSuspensionReported (take n (answers numbered (booted c) events)) (replay numbered (booted c) (take n events)) t
suspensions_reported c events valid on n t here =
    let es : List Event = take n events in
    subst (λ rs. IsSuspensionReported rs (replay numbered (booted c) es) t) (answers_take n (booted c) events) (suspension_from_boot c t here es valid (prefix_on n c.processors events on))

pub suspensions_fit : (c : Setup) (events : List Event) → IsValid c → AreOn c.processors events → (e : Event) (t : Task) → (processor_of e).number ≤ c.processors → t.number ≤ length c.tasks →
    SuspensionFits t (suspended_by t (answers numbered (booted c) events) false) (step numbered (replay numbered (booted c) events) e).1
suspensions_fit c events valid on e t within here =
    let m : State = replay numbered (booted c) events in
    let x : Bool = suspended_by t (answers numbered (booted c) events) false in
    let ready = ready_after c valid events on in
    let old = suspension_from_boot c t here events valid on in
    let Within : Event → Type 0 = λ y. (processor_of y).number ≤ c.processors in
    let with_last : AreOn c.processors (events ++ e ∷ []) = All-append Within events (e ∷ []) on (All-cons Within e [] within (All-nil Within)) in
    let before_last = ready_later c nobody_waits (booted c) events (e ∷ []) (ready_at_boot c valid (events ++ e ∷ []) with_last) in
    let fits = fits_step numbered m t x old ready.sound.few_tasks e in
    record {
      begun = fits.begun;
      twice = fits.twice;
      ended = fits.ended;
      runs = λ h.
          sym (suspension_step numbered m t x old ready.safe ready.sound.few_tasks (rw ready.tasks here) e)
          ∙ begins_unsuspended m t ready.safe e (before_last.on 0 e (omega arith)) h;
    }

-- after all of these events
pub priority_after_all : (c : Setup) (events : List Event) → IsValid c → AreOn c.processors events → (t : Task) → t.number ≤ length c.tasks → IsPriorityReported c (answers numbered (booted c) events) (replay numbered (booted c) events) t
priority_after_all c events valid on t here = (priority_from_boot c t here events valid on).active

pub priorities_reported : (c : Setup) (events : List Event) → IsValid c → AreOn c.processors events → (n : ℕ) (t : Task) → t.number ≤ length c.tasks →
    IsPriorityReported c (take n (answers numbered (booted c) events)) (replay numbered (booted c) (take n events)) t
priorities_reported c events valid on n t here =
    let es : List Event = take n events in
    subst (λ rs. IsPriorityReported c rs (replay numbered (booted c) es) t) (answers_take n (booted c) events) (priority_after_all c es valid (prefix_on n c.processors events on) t here)

pub priorities_answered : (c : Setup) (events : List Event) → IsValid c → AreOn c.processors events → (e : Event) (t : Task) → t.number ≤ length c.tasks →
    TellsPriority t (report_priority c t (answers numbered (booted c) events)) (step numbered (replay numbered (booted c) events) e).1
priorities_answered c events valid on e t here =
    let ready = ready_after c valid events on in
    tells_step numbered (replay numbered (booted c) events) t (setup_of c t).priority (report_priority c t (answers numbered (booted c) events)) (priority_from_boot c t here events valid on) ready.sound.few_tasks e
