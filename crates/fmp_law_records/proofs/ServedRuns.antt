-- In which order waiting tasks are served along a run.
use Rattle.std.proofs.Common.{◌≡◌, ℕ, ◌+◌, ◌-◌, ◌≤◌, Bool, true, false, List, [], ◌∷◌, length, arith, refl, sym, ap, ◌∙◌, subst, Option, None, Some}
use Rattle.std.specs.Prelude.{is_some, if◌then◌else◌, option_map}
use Rattle.std.proofs.Math.ListN.{get_or-map}
use Rattle.std.proofs.lemmas.Bool.{cond_both, false≢true, both_ways}
use Rattle.std.proofs.lemmas.List.{length-map}
use Rattle.fmp_codes.specs.Numbers.{as_task}
use Rattle.fmp_codes.specs.declared.numbers.Proc.{Proc}
use Rattle.fmp_codes.specs.declared.numbers.Task.{Task}
use Rattle.fmp_codes.specs.declared.numbers.Object.{Object}
use Rattle.fmp_codes.specs.declared.records.Event.{Event}
use Rattle.fmp_codes.specs.declared.records.Record.{Record}
use Rattle.fmp_setup.specs.declared.setup.TaskSetup.{TaskSetup}
use Rattle.fmp_setup.specs.declared.setup.SemaphoreSetup.{SemaphoreSetup}
use Rattle.fmp_setup.specs.declared.setup.EventflagSetup.{EventflagSetup}
use Rattle.fmp_setup.specs.declared.setup.PoolSetup.{PoolSetup}
use Rattle.fmp_setup.specs.Setup.{Setup, no_semaphore, no_eventflag, no_pool}
use Rattle.fmp_setup.specs.Valid.{IsValid}
use Rattle.fmp_rules.specs.declared.machine.Semaphore.{Semaphore}
use Rattle.fmp_rules.specs.declared.machine.Eventflag.{Eventflag}
use Rattle.fmp_rules.specs.declared.machine.Pool.{Pool}
use Rattle.fmp_rules.specs.declared.machine.TaskRecord.{TaskRecord}
use Rattle.fmp_rules.specs.declared.machine.Wait.{Wait}
use Rattle.fmp_rules.specs.declared.machine.QueueKind.{QueueKind}
use Rattle.fmp_rules.specs.declared.machine.QueueKind.TheVariants as kind
use Rattle.fmp_rules.specs.World.{no_task, task, processors_to}
use Rattle.fmp_rules.specs.Ordering.{order_in}
use Rattle.fmp_rules.specs.Arrivals.{State, numbered}
use Rattle.fmp_rules.specs.Tasks.{start, started}
use Rattle.fmp_rules.specs.Step.{step, replay, answers}
use Rattle.fmp_rules.specs.Boot.{blank, all_started, with_top_running, with_tops_running, booted, unnumbered}
use Rattle.fmp_law_safety.specs.Runs.{AreOn}
use Rattle.fmp_law_safety.specs.Safe.{Safe}
use Rattle.fmp_law_safety.proofs.Items.{item_holds}
use Rattle.fmp_law_safety.proofs.Listed.{not_past}
use Rattle.fmp_law_balance.specs.Waits.Waits.{OpenWaits, after_records, setup_of}
use Rattle.fmp_law_balance.specs.Waits.Asked.{OpenWait}
use Rattle.fmp_law_balance.proofs.waits.Words.{IsKept}
use Rattle.fmp_law_records.proofs.counts.Ready.{Ready, ready_next, ready_at_boot, ready_after, followed}
use Rattle.fmp_law_records.proofs.counts.Booted.{count_booted_tasks}
use Rattle.fmp_law_records.specs.Priorities.{priority_by}
use Rattle.fmp_law_records.specs.Served.{Places, places_after, places_by, places_at_boot, ServesInOrder}
use Rattle.fmp_law_records.proofs.TaskRuns.{priority_after_all}
use Rattle.fmp_law_records.proofs.Joins.{Quiet, quiet_all, quiet_then, quiet_place}
use Rattle.fmp_law_records.proofs.Places.{ordered_as, ArePlaced, placed_step}
use Rattle.fmp_law_records.proofs.Served.{serves_step}

-- what is told of waits and priorities
pub waits_by : (c : Setup) (rs : List Record) (x : Places) → (places_by c rs x).waits ≡ after_records c x.waits rs
waits_by c [] x = refl
waits_by c (r ∷ rs) x = waits_by c rs (places_after c r x)

pub priority_reported_by : (c : Setup) (t : Task) (rs : List Record) (x : Places) → (places_by c rs x).priority t ≡ priority_by (setup_of c t).priority t rs (x.priority t)
priority_reported_by c t [] x = refl
priority_reported_by c t (r ∷ rs) x = priority_reported_by c t rs (places_after c r x)

-- At boot nobody waits.

started_quiet : (w : State) (n : ℕ) (ss : List TaskSetup) → Quiet w (all_started numbered w n ss)
started_quiet w n [] = quiet_all w
started_quiet w n (s ∷ ss) =
    let u : Task = as_task n in
    let v : State = if s.starts then start numbered w u s.class.initial else w in
    quiet_then w v _ (cond_both s.starts (start numbered w u s.class.initial) w (λ (z : State). Quiet w z) (λ _. quiet_place w u (started (task w u) s.class.initial)) (λ _. quiet_all w)) (started_quiet v (n + 1) ss)

running_quiet : (w : State) (ps : List Proc) → Quiet w (with_tops_running numbered w ps)
running_quiet w [] = quiet_all w
running_quiet w (p ∷ ps) = quiet_then w (with_top_running numbered w p) _ (record { begun = refl; next = omega arith; orders = λ k o. refl }) (running_quiet (with_top_running numbered w p) ps)

module _ (c : Setup) where
  abbrev at_first : State
  at_first = blank (unnumbered c) c

  booted_quiet : Quiet at_first (booted c)
  booted_quiet = quiet_then at_first (all_started numbered at_first 1 c.tasks) (booted c) (started_quiet at_first 1 c.tasks) (running_quiet (all_started numbered at_first 1 c.tasks) (processors_to c.processors))

  first_orders : (k : QueueKind) (o : Object) → order_in at_first k o ≡ ordered_as c k o
  first_orders kind.Semaphore o = ap (λ (s : Semaphore). s.setup.order) (get_or-map (λ (s : SemaphoreSetup). record { setup = s; count = s.initial }) c.semaphores (o.number - 1) no_semaphore)
  first_orders kind.Eventflag o = ap (λ (s : Eventflag). s.setup.order) (get_or-map (λ (s : EventflagSetup). record { setup = s; pattern = s.initial }) c.eventflags (o.number - 1) no_eventflag)
  first_orders kind.Pool o = ap (λ (s : Pool). s.setup.order) (get_or-map (λ (s : PoolSetup). record { setup = s; handed = _ }) c.pools (o.number - 1) no_pool)
  first_orders k o = refl

  pub placed_booted : length c.tasks ≤ 64 → ArePlaced c (places_at_boot c) (booted c)
  placed_booted few = record {
    since = λ t. omega arith;
    begun = λ t none. absurd (false≢true none);
    same = λ t u none _. absurd (false≢true none);
    count = ap length booted_quiet.begun ∙ length-map c.tasks _ ∙ sym (count_booted_tasks c few);
    orders = λ k o. booted_quiet.orders k o ∙ first_orders k o;
  }

  pub placed_run : (x : Places) (m : State) (es : List Event) → Ready c x.waits m es → ArePlaced c x m → ArePlaced c (places_by c (answers numbered m es) x) (replay numbered m es)
  placed_run x m [] ready placed = placed
  placed_run x m (e ∷ es) ready placed =
      placed_run (places_after c (step numbered m e).1 x) (step numbered m e).0 es (ready_next c x.waits m e es ready)
      (placed_step c m x placed ready.safe ready.sound ready.report e (followed c x.waits m (e ∷ es) ready e).counts.0)

-- who waits is active
pub waiting_active : (m : State) → Safe numbered m → (t : Task) → is_some (task m t).wait ≡ true → (task m t).active ≡ true
waiting_active m s t waits = go (task m t).active refl
  where
    dormant : (task m t).active ≡ false → (task m t).wait ≡ None
    dormant = item_holds (λ (r : TaskRecord). r.active ≡ false → r.wait ≡ None) no_task m.tasks t.number (λ _. refl) (λ i d h e. ((s.in_range.tasks i d h).dormant e).1)

    go : (b : Bool) → (task m t).active ≡ b → (task m t).active ≡ true
    go true e = e
    go false e = absurd (both_ways _ (ap is_some (dormant e)) waits)

pub open_waits : (o : Option Wait) (q : Option OpenWait) → o ≡ option_map (λ y. y.wait) q → is_some q ≡ true → is_some o ≡ true
open_waits o (Some y) is e = ap is_some is
open_waits o None is e = absurd (false≢true e)

pub serves_in_order : (c : Setup) (events : List Event) → IsValid c → AreOn c.processors events → (e : Event) →
    ServesInOrder c (places_by c (answers numbered (booted c) events) (places_at_boot c)) (step numbered (replay numbered (booted c) events) e).1
serves_in_order c events valid on e =
    let m : State = replay numbered (booted c) events in
    let rs : List Record = answers numbered (booted c) events in
    let x : Places = places_by c rs (places_at_boot c) in
    let ready = ready_after c valid events on in
    let waits : (t : Task) → IsKept c m t (x.waits t) = λ t. subst (λ (pending : OpenWaits). IsKept c m t (pending t)) (sym (waits_by c rs (places_at_boot c))) (ready.report t) in
    serves_step c m x (placed_run c (places_at_boot c) (booted c) events (ready_at_boot c valid events on) (placed_booted c valid.few_tasks)) ready.safe ready.sound waits
    (λ t open_.
    let waits_now : is_some (task m t).wait ≡ true = open_waits (task m t).wait (x.waits t) (waits t).0.wait open_ in
    let here : t.number ≤ length c.tasks = rw (sym ready.tasks) (not_past (λ (r : TaskRecord). is_some r.wait) no_task m.tasks t.number t.least refl waits_now) in
    priority_after_all c events valid on t here (waiting_active m ready.safe t waits_now) ∙ sym (priority_reported_by c t rs (places_at_boot c)))
    e
