-- Which tasks a tick releases is what is told, and so it is of each event of a run.
use Rattle.std.proofs.Common.{◌≡◌, ℕ, ◌-◌, ◌≤◌, ◌==◌, Bool, true, false, ◌&&◌, List, [], ◌∷◌, length, arith, refl, sym, ap, ◌∙◌, subst, Option, Some, None, ⊎_elim}
use Rattle.std.specs.Prelude.{All, if◌then◌else◌, is_some, filter, map, option_map, slice_index_or}
use Rattle.std.proofs.lemmas.Bool.{ne_eqb, cases_eq}
use Rattle.std.proofs.lemmas.List.Elements.{All-head, All-tail, filter_agree}
use Rattle.fmp_codes.specs.declared.numbers.Proc.{Proc}
use Rattle.fmp_codes.specs.declared.numbers.Task.{Task}
use Rattle.fmp_codes.specs.declared.records.Event.{Event}
use Rattle.fmp_codes.specs.declared.records.Record.{Record}
use Rattle.fmp_setup.specs.declared.setup.Timer.{Timer}
use Rattle.fmp_setup.specs.Setup.{Setup, counts_for}
use Rattle.fmp_setup.specs.Valid.{IsValid}
use Rattle.fmp_rules.specs.declared.machine.TaskRecord.{TaskRecord}
use Rattle.fmp_rules.specs.declared.machine.Wait.{Wait}
use Rattle.fmp_rules.specs.declared.machine.Wait.TheVariants as wait
use Rattle.fmp_rules.specs.World.{no_task, item, task}
use Rattle.fmp_rules.specs.Tasks.{make_ready}
use Rattle.fmp_rules.specs.Arrivals.{State, numbered, in_order, comes_before}
use Rattle.fmp_rules.specs.Tick.{one_less, lowered, code_of, is_over, tasks_expired, counted_down, released, ticked, tick}
use Rattle.fmp_rules.specs.Step.{step, replay, answers}
use Rattle.fmp_rules.specs.Boot.{booted}
use Rattle.fmp_law_safety.specs.Runs.{processor_of, AreOn}
use Rattle.fmp_law_safety.specs.Safe.{TicksInRange, Safe}
use Rattle.fmp_law_safety.proofs.Items.{item_other}
use Rattle.fmp_law_safety.proofs.Listed.{not_past}
use Rattle.fmp_law_safety.proofs.TellsTick.{lowered_length}
use Rattle.fmp_law_records.specs.Counts.Alarms.{is_last}
use Rattle.fmp_law_records.proofs.counts.Ready.{ready_at_boot, ready_after}
use Rattle.fmp_law_balance.specs.Waits.Asked.{OpenWait}
use Rattle.fmp_law_balance.specs.Waits.Laws.{Waits, left_of}
use Rattle.fmp_law_balance.specs.Waits.Releases.{over_code}
use Rattle.fmp_law_balance.specs.Waits.Waits.{OpenWaits}
use Rattle.fmp_law_balance.proofs.waits.Events.{by_event}
use Rattle.fmp_law_balance.proofs.waits.Follows.{Sound, running_may}
use Rattle.fmp_law_balance.proofs.waits.Several.{Distinct}
use Rattle.fmp_law_balance.proofs.waits.Ticks.{numbered_once, lowered_at}
use Rattle.fmp_law_balance.proofs.waits.Words.{IsKept}
use Rattle.fmp_law_records.specs.Patterns.{IsPatternReported}
use Rattle.fmp_law_records.specs.Served.{Places, began_before, places_by, places_at_boot}
use Rattle.fmp_law_balance.specs.Turns.{in_turn}
use Rattle.fmp_law_balance.proofs.Turns.{turns_ordered}
use Rattle.fmp_law_balance.proofs.Words.{clock_counts}
use Rattle.fmp_law_records.proofs.Alike.{in_order_alike}
use Rattle.fmp_law_records.proofs.PatternsRuns.{patterns_reported}
use Rattle.fmp_law_records.proofs.Places.{ArePlaced}
use Rattle.fmp_law_records.proofs.ServedRuns.{waits_by, priority_reported_by, placed_booted, placed_run, waiting_active, open_waits}
use Rattle.fmp_law_records.proofs.TaskRuns.{priority_after_all}
use Rattle.fmp_law_records.proofs.refusals.Judged.{at_end, configured_after_all}
use Rattle.fmp_law_records.specs.Effects.Releases.{released_with, is_timed, how_over, is_over_on, tick_releases, AreReleasesReported}
use Rattle.fmp_law_records.proofs.effects.Queues.{distinct_filter}
use Rattle.fmp_law_records.proofs.effects.Releases.{tells_call}

-- The counts of waits after a tick.

less_is : (n : ℕ) → 1 ≤ n → (n - 1 == 0) ≡ (n == 1)
less_is n least =
    ⊎_elim (λ (one : n ≡ 1). rw one refl) (λ (d : n ≡ 1 → ⊥). ne_eqb (n - 1) 0 (λ z. d (omega (arith, z, least))) ∙ sym (ne_eqb n 1 d)) (cases_eq n 1)

last_is : (b : Bool) (l : Option ℕ) → TicksInRange l → is_over (if b then one_less l else l) ≡ (b && is_last l)
last_is true None range = refl
last_is false None range = refl
last_is true (Some n) range = less_is n range.0
last_is false (Some n) range = let least = range.0 in ne_eqb n 0 (λ z. omega (arith, z, least))

some_left : (b : Bool) (l : Option ℕ) → is_some (if b then one_less l else l) ≡ is_some l
some_left true None = refl
some_left true (Some n) = refl
some_left false l = refl

never : (b : Bool) → is_over (if b then one_less None else None) ≡ false
never true = refl
never false = refl

code_same : (o : Option OpenWait) → code_of (option_map (λ y. y.wait) o) ≡ how_over o
code_same None = refl
code_same (Some o) = go o.wait
  where
    go : (z : Wait) → code_of (Some z) ≡ over_code z
    go wait.Delay = refl
    go z = refl

module _ (c : Setup) (m : State) (x : Places) (placed : ArePlaced c x m) (waits : (t : Task) → IsKept c m t (x.waits t)) (count : length m.tasks ≡ length c.tasks)
    (s : Safe numbered m) (sound : Sound c m) where
  released_same : (v : State) (ts : List Task) → Distinct ts → All (λ t. (task v t).wait ≡ option_map (λ y. y.wait) (x.waits t)) ts →
      (released numbered v ts).1 ≡ map (λ t. released_with t (how_over (x.waits t)) None) ts
  released_same v [] distinct all = refl
  released_same v (t ∷ ts) distinct all =
      let W : Task → Type 0 = λ u. (task v u).wait ≡ option_map (λ y. y.wait) (x.waits u) in
      let code_is : code_of (task v t).wait ≡ how_over (x.waits t) = ap code_of (All-head W t ts all) ∙ code_same (x.waits t) in
      ap (λ z. released_with t z None ∷ (released numbered (make_ready numbered v t) ts).1) code_is
      ∙ ap (λ rs. released_with t (how_over (x.waits t)) None ∷ rs)
      (released_same (make_ready numbered v t) ts distinct.1
      (λ i d below.
      let u : Task = slice_index_or ts i d in
      ap (λ (r : TaskRecord). r.wait) (item_other no_task v.tasks t.number (record (task v t) { wait = None }) u.number u.least t.least (distinct.0 i d below))
      ∙ All-tail W t ts all i d below))

  module _ (p : Proc) where
    abbrev falls : Task → Bool
    falls t = counts_for m.timer p (task m t).assigned

    abbrev left_now : Task → Option ℕ
    left_now t = item None (lowered (λ r. counts_for m.timer p r.assigned) m.tasks m.waits_left) t.number

    fallen : (t : Task) → left_now t ≡ (if falls t then one_less (item None m.waits_left t.number) else item None m.waits_left t.number)
    fallen t = lowered_at (λ (r : TaskRecord). counts_for m.timer p r.assigned) no_task m.tasks m.waits_left (t.number - 1) sound.waits_left

    over_same : (t : Task) → is_over (left_now t) ≡ is_over_on c x p (x.waits t)
    over_same t = ap is_over (fallen t) ∙ go (x.waits t) (waits t).0
      where
        go : (o : Option OpenWait) → Waits o (task m t).wait (item None m.waits_left t.number) (task m t).assigned →
            is_over (if falls t then one_less (item None m.waits_left t.number) else item None m.waits_left t.number) ≡ is_over_on c x p o
        go None h = ap (λ l. is_over (if falls t then one_less l else l)) h.left ∙ never (falls t)
        go (Some o) h =
            last_is (falls t) (item None m.waits_left t.number) (s.counts.waits t) ∙ ap (λ l. falls t && is_last l) h.left
            ∙ ap (λ (q : Proc). counts_for m.timer p q && is_last o.left) h.assigned ∙ ap (λ (z : Timer). counts_for z p o.assigned && is_last o.left) sound.timer ∙ ap (λ b. b && is_last o.left) (sym (clock_counts c.timer p o.assigned))

    timed_same : (t : Task) → is_some (left_now t) ≡ is_timed (x.waits t)
    timed_same t = ap is_some (fallen t) ∙ some_left (falls t) (item None m.waits_left t.number) ∙ ap is_some (waits t).0.left ∙ go (x.waits t)
      where
        go : (o : Option OpenWait) → is_some (left_of o) ≡ is_timed o
        go None = refl
        go (Some o) = refl

    timed_open : (o : Option OpenWait) → is_timed o ≡ true → is_some o ≡ true
    timed_open None e = e
    timed_open (Some o) e = refl

    pub tick_reported : (tick numbered m p).1.releases ≡ tick_releases c x p
    unfolding counted_down ticked numbered
    tick_reported =
        let v : State = counted_down m p in
        let timed : List Task = numbered.timed v.order v.waits_left in
        let over : Task → Bool = λ t. is_over (left_now t) in
        let lefts : length v.waits_left ≡ length m.tasks = lowered_length (λ r. counts_for m.timer p r.assigned) m.tasks m.waits_left ∙ sound.waits_left in
        let few : length v.waits_left ≤ 64 = rw lefts sound.few_tasks in
        let report : List Task = in_turn (λ t. is_timed (x.waits t)) (began_before x) (length c.tasks) in
        let same : timed ≡ report =
        in_order_alike (length v.waits_left) few (λ t. is_some (left_now t)) (λ t. is_timed (x.waits t)) (comes_before (λ t. 0) m.order.begun) (began_before x)
        (λ t _. timed_same t)
        (λ t u _ _ a b. sym (placed.same t u (timed_open (x.waits t) (sym (timed_same t) ∙ a)) (timed_open (x.waits u) (sym (timed_same u) ∙ b))))
        (length v.waits_left) (omega arith)
        ∙ ap (in_order (λ t. is_timed (x.waits t)) (began_before x)) (lefts ∙ count) ∙ sym (turns_ordered (λ t. is_timed (x.waits t)) (began_before x) (length c.tasks)) in
        let ts : List Task = tasks_expired v.waits_left timed in
        released_same v ts (distinct_filter over timed (numbered_once v few)) (λ i d below. (waits (slice_index_or ts i d)).0.wait)
        ∙ ap (map (λ t. released_with t (how_over (x.waits t)) None))
        (filter_agree over (λ t. is_over_on c x p (x.waits t)) over_same timed ∙ ap (filter (λ t. is_over_on c x p (x.waits t))) same)

-- Along a run.

module _ (c : Setup) (events : List Event) (valid : IsValid c) (on : AreOn c.processors events) where
  abbrev m : State
  m = replay numbered (booted c) events

  abbrev rs : List Record
  rs = answers numbered (booted c) events

  abbrev x : Places
  x = places_by c rs (places_at_boot c)

  -- the waits, the places in the queues and the priorities that are told are those of the machine
  pub waits_after_all : (t : Task) → IsKept c m t (x.waits t)
  waits_after_all t = subst (λ (pending : OpenWaits). IsKept c m t (pending t)) (sym (waits_by c rs (places_at_boot c))) ((ready_after c valid events on).report t)

  pub placed_after_all : ArePlaced c x m
  placed_after_all = placed_run c (places_at_boot c) (booted c) events (ready_at_boot c valid events on) (placed_booted c valid.few_tasks)

  pub priorities_after_all : (t : Task) → is_some (x.waits t) ≡ true → (task m t).priority ≡ x.priority t
  priorities_after_all t open_ =
      let ready = ready_after c valid events on in
      let waits_now : is_some (task m t).wait ≡ true = open_waits (task m t).wait (x.waits t) (waits_after_all t).0.wait open_ in
      let here : t.number ≤ length c.tasks = rw (sym ready.tasks) (not_past (λ (r : TaskRecord). is_some r.wait) no_task m.tasks t.number t.least refl waits_now) in
      priority_after_all c events valid on t here (waiting_active m ready.safe t waits_now) ∙ sym (priority_reported_by c t rs (places_at_boot c))

  pub releases_are_reported : (e : Event) → (processor_of e).number ≤ c.processors → AreReleasesReported c rs (step numbered m e).1
  unfolding ticked
  releases_are_reported e within =
      let ready = ready_after c valid events on in
      by_event numbered m (λ v r. AreReleasesReported c rs r) (λ v cs r y ps h. h)
      (λ p y.
      tells_call c rs m x placed_after_all waits_after_all priorities_after_all ready.tasks ready.sound.few_tasks (configured_after_all c events valid on)
      (λ f. at_end c events valid on (λ records v. IsPatternReported c records v f) (patterns_reported c f events valid on)) p
      (λ t runs. not_past (λ (r : TaskRecord). r.active) no_task m.tasks t.number t.least refl (running_may numbered m p ready.safe t runs).active) y)
      (λ p y. refl) (λ p. tick_reported c m x placed_after_all waits_after_all ready.tasks ready.safe ready.sound p) (λ p. refl) (λ p. refl) (λ p a none. refl) e
