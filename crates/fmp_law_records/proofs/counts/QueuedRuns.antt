-- The activations and the wakeups of a task along a run.
use Rattle.std.proofs.Common.{◌≡◌, ℕ, ◌+◌, ◌≤◌, List, [], ◌∷◌, length, subst, arith, refl}
use Rattle.std.specs.Prelude.{sum_by, take}
use Rattle.std.proofs.lemmas.List.Sums.{sum_by-cons}
use Rattle.fmp_codes.specs.declared.numbers.Task.{Task}
use Rattle.fmp_codes.specs.declared.records.Event.{Event}
use Rattle.fmp_codes.specs.declared.records.Record.{Record}
use Rattle.fmp_setup.specs.Setup.{Setup}
use Rattle.fmp_setup.specs.Valid.{IsValid}
use Rattle.fmp_rules.specs.World.{task}
use Rattle.fmp_rules.specs.Arrivals.{State, numbered}
use Rattle.fmp_rules.specs.Step.{step, replay, answers}
use Rattle.fmp_rules.specs.Boot.{booted}
use Rattle.fmp_rules.proofs.Replays.{answers_take}
use Rattle.fmp_law_safety.specs.Runs.{AreOn}
use Rattle.fmp_law_balance.specs.Waits.Waits.{OpenWaits, nobody_waits, after_record}
use Rattle.fmp_law_records.specs.Counts.Lives.{activated, ended, taken_back, ActivationBalance}
use Rattle.fmp_law_records.proofs.counts.Lives.{life, lives_step}
use Rattle.fmp_law_records.proofs.counts.Booted.{booted_life, booted_wakeups}
use Rattle.fmp_law_records.proofs.counts.Ready.{Ready, ready_next, ready_at_boot, ready_after, prefix_on}
use Rattle.fmp_law_records.specs.Counts.Wakeups.{queued_after, queued_by, WakeupBalance, TakesWhatIsQueued}
use Rattle.fmp_law_records.proofs.counts.Sparing.{tally}
use Rattle.fmp_law_records.proofs.counts.Wakeups.{QueuedWakeups, queue_step, takes_step}

lives_run : (c : Setup) (t : Task) → t.number ≤ length c.tasks → (pending : OpenWaits) (m : State) (es : List Event) → Ready c pending m es →
    life (task m t) + sum_by (activated t) (answers numbered m es)
    ≡ life (task (replay numbered m es) t) + sum_by (ended t) (answers numbered m es) + sum_by (taken_back t) (answers numbered m es)
lives_run c t here pending m [] h = omega arith
lives_run c t here pending m (e ∷ es) h =
    let v : State = (step numbered m e).0 in
    let r : Record = (step numbered m e).1 in
    let rs : List Record = answers numbered v es in
    let now = lives_step numbered m t h.safe h.sound.few_tasks (rw h.tasks here) e in
    let later = lives_run c t here (after_record c pending r) v es (ready_next c pending m e es h) in
    omega (arith, now, later, sum_by-cons (activated t) r rs, sum_by-cons (ended t) r rs, sum_by-cons (taken_back t) r rs)

pub activations_balance : (c : Setup) (events : List Event) → IsValid c → AreOn c.processors events → (n : ℕ) (t : Task) → t.number ≤ length c.tasks →
    ActivationBalance c (take n (answers numbered (booted c) events)) (replay numbered (booted c) (take n events)) t
activations_balance c events valid on n t here =
    let es : List Event = take n events in
    let all = lives_run c t here nobody_waits (booted c) es (ready_at_boot c valid es (prefix_on n c.processors events on)) in
    let first = booted_life c valid.few_tasks t here in
    subst (λ rs. ActivationBalance c rs (replay numbered (booted c) es) t) (answers_take n (booted c) events) (omega (arith, all, first))

queue_run : (c : Setup) (t : Task) → t.number ≤ length c.tasks → (pending : OpenWaits) (m : State) (es : List Event) (n : ℕ) → Ready c pending m es → QueuedWakeups n (tally (task m t)) → QueuedWakeups (queued_by t (answers numbered m es) n) (tally (task (replay numbered m es) t))
queue_run c t here pending m [] n h queue = queue
queue_run c t here pending m (e ∷ es) n h queue =
    queue_run c t here (after_record c pending (step numbered m e).1) (step numbered m e).0 es (queued_after t (step numbered m e).1 n) (ready_next c pending m e es h) (queue_step numbered m t n queue h.sound.few_tasks (rw h.tasks here) e)

queue_from_boot : (c : Setup) (t : Task) (es : List Event) → IsValid c → AreOn c.processors es → t.number ≤ length c.tasks → QueuedWakeups (queued_by t (answers numbered (booted c) es) 0) (tally (task (replay numbered (booted c) es) t))
queue_from_boot c t es valid on here = queue_run c t here nobody_waits (booted c) es 0 (ready_at_boot c valid es on) (record { active = λ e. booted_wakeups c valid.few_tasks t; dormant = λ e. refl })

pub wakeups_balance : (c : Setup) (events : List Event) → IsValid c → AreOn c.processors events → (n : ℕ) (t : Task) → t.number ≤ length c.tasks →
    WakeupBalance (take n (answers numbered (booted c) events)) (replay numbered (booted c) (take n events)) t
wakeups_balance c events valid on n t here =
    let es : List Event = take n events in
    subst (λ rs. WakeupBalance rs (replay numbered (booted c) es) t) (answers_take n (booted c) events) (queue_from_boot c t es valid (prefix_on n c.processors events on) here).active

pub wakeups_taken : (c : Setup) (events : List Event) → IsValid c → AreOn c.processors events → (e : Event) (t : Task) → t.number ≤ length c.tasks →
    TakesWhatIsQueued t (queued_by t (answers numbered (booted c) events) 0) (step numbered (replay numbered (booted c) events) e).1
wakeups_taken c events valid on e t here =
    let ready = ready_after c valid events on in
    takes_step numbered (replay numbered (booted c) events) t (queued_by t (answers numbered (booted c) events) 0) (queue_from_boot c t events valid on here) ready.sound.few_tasks ready.safe e
