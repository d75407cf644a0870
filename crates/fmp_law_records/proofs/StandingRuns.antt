-- Which tasks are ready, and in which order, along a run.
use Rattle.std.proofs.Common.{◌≡◌, ℕ, ◌+◌, ◌≤◌, false, List, [], ◌∷◌, length, arith, refl, sym, ap, ◌∙◌, subst}
use Rattle.std.specs.Prelude.{if◌then◌else◌, take}
use Rattle.std.proofs.lemmas.Bool.{cond_both, both_ways}
use Rattle.std.proofs.lemmas.List.{length-map}
use Rattle.fmp_codes.specs.Numbers.{as_task, within}
use Rattle.fmp_codes.specs.declared.numbers.Proc.{Proc}
use Rattle.fmp_codes.specs.declared.numbers.Task.{Task}
use Rattle.fmp_codes.specs.declared.records.Event.{Event}
use Rattle.std.proofs.lemmas.List.Elements.{All-map}
use Rattle.fmp_setup.specs.declared.setup.TaskSetup.{TaskSetup}
use Rattle.fmp_setup.specs.Setup.{Setup}
use Rattle.fmp_setup.specs.Valid.{IsValid}
use Rattle.fmp_rules.specs.declared.machine.TaskRecord.{TaskRecord}
use Rattle.fmp_rules.specs.World.{no_task, task, processors_to, resting}
use Rattle.fmp_rules.specs.Ordering.{is_runnable}
use Rattle.fmp_rules.specs.Arrivals.{State, numbered}
use Rattle.fmp_rules.specs.Tasks.{started, start}
use Rattle.fmp_rules.specs.Step.{step, replay, answers}
use Rattle.fmp_rules.specs.Boot.{blank, all_started, with_top_running, with_tops_running, booted, unnumbered}
use Rattle.fmp_rules.proofs.Replays.{answers_take}
use Rattle.fmp_law_safety.specs.Runs.{AreOn}
use Rattle.fmp_law_safety.proofs.Items.{item_holds}
use Rattle.fmp_law_balance.specs.Waits.Waits.{setup_of}
use Rattle.fmp_law_records.proofs.counts.Ready.{Ready, ready_next, ready_at_boot, prefix_on}
use Rattle.fmp_law_records.specs.Line.{Line}
use Rattle.fmp_law_records.specs.Standing.{Standing, standing_after, standing_by, standing_at_boot, report_standing, AreReadyReported}
use Rattle.fmp_law_records.proofs.Booted.{booted_unsuspended, booted_priority}
use Rattle.fmp_law_records.proofs.Lives.{life_step}
use Rattle.fmp_law_records.proofs.LivesRuns.{booted_life}
use Rattle.fmp_law_records.proofs.Suspensions.{suspension_step}
use Rattle.fmp_law_records.proofs.Priorities.{priority_step}
use Rattle.fmp_law_records.proofs.Lines.{OrderedIn, can_run, ordered_still, ordered_place}
use Rattle.fmp_law_records.proofs.Ready.{Stands, ready_same, top_same}
use Rattle.fmp_law_records.proofs.Standing.{line_step}

-- At boot the tasks stand by number.

abbrev by_number : ℕ → Line
by_number n = record { count = n; since = λ t. t.number }

started_line : (w : State) (n : ℕ) (ss : List TaskSetup) → n + length ss ≤ 64 → OrderedIn (by_number n) w → OrderedIn (by_number (n + length ss)) (all_started numbered w (n + 1) ss)
started_line w n [] few h = subst (λ k. OrderedIn (by_number k) w) (omega arith) h
started_line w n (s ∷ ss) few h =
    let u : Task = as_task (n + 1) in
    let number : within 64 (n + 1) ≡ n + 1 = omega (arith, few) in
    let v : State = if s.starts then start numbered w u s.class.initial else w in
    let now : OrderedIn (by_number (n + 1)) v =
    cond_both s.starts (start numbered w u s.class.initial) w (λ (x : State). OrderedIn (by_number (n + 1)) x)
    (λ _. ordered_place w (by_number n) (by_number (n + 1)) u (started (task w u) s.class.initial) h (omega arith) (λ t d runs. refl) (λ within runs. (omega (arith, number), omega (arith, number))))
    (λ _. ordered_still (by_number n) (by_number (n + 1)) w.tasks w.tasks w.order.ready w.order.next w.order.next h (omega arith) (omega arith) refl (λ t runs. runs) (λ t runs. refl)) in
    subst (λ k. OrderedIn (by_number k) (all_started numbered v (n + 1 + 1) ss)) (omega arith) (started_line v (n + 1) ss (omega (arith, few)) now)

running_line : (l : Line) (w : State) (ps : List Proc) → OrderedIn l w → OrderedIn l (with_tops_running numbered w ps)
running_line l w [] h = h
running_line l w (p ∷ ps) h = running_line l (with_top_running numbered w p) ps h

module _ (c : Setup) where
  abbrev at_first : State
  at_first = blank (unnumbered c) c

  nobody_runs : (t : Task) → can_run at_first.tasks t ≡ false
  nobody_runs t = item_holds (λ (r : TaskRecord). is_runnable r ≡ false) no_task at_first.tasks t.number refl (All-map (λ (r : TaskRecord). is_runnable r ≡ false) resting c.tasks (λ i d h. refl))

  first_line : OrderedIn (by_number 0) at_first
  first_line = record {
    since = λ t runs. absurd (both_ways _ (nobody_runs t) runs);
    before = λ t runs. absurd (both_ways _ (nobody_runs t) runs);
    same = λ t u runs _. absurd (both_ways _ (nobody_runs t) runs);
    count = length-map c.tasks _ ∙ sym (length-map c.tasks resting);
  }

  booted_line : length c.tasks ≤ 64 → OrderedIn (by_number (length c.tasks)) (booted c)
  booted_line few =
      let none : 0 + length c.tasks ≡ length c.tasks = omega arith in
      subst (λ k. OrderedIn (by_number k) (booted c)) none
      (running_line (by_number (0 + length c.tasks)) (all_started numbered at_first 1 c.tasks) (processors_to c.processors) (started_line at_first 0 c.tasks (omega (arith, none, few)) first_line))

  pub stands_next : (s : Standing) (m : State) (e : Event) (es : List Event) → Ready c s.waits m (e ∷ es) → Stands c s m → Stands c (standing_after c (step numbered m e).1 s) (step numbered m e).0
  stands_next s m e es ready h =
      let next = ready_next c s.waits m e es ready in
      let same : length (step numbered m e).0.tasks ≡ length m.tasks = next.tasks ∙ sym ready.tasks in
      let few = ready.sound.few_tasks in
      record {
        life = λ t n. let here : t.number ≤ length m.tasks = rw (sym same) n in life_step numbered m t (setup_of c t).class (s.life t) (h.life t here) few here e;
        suspended = λ t n. let here : t.number ≤ length m.tasks = rw (sym same) n in suspension_step numbered m t (s.suspended t) (h.suspended t here) ready.safe few here e;
        priority = λ t n. let here : t.number ≤ length m.tasks = rw (sym same) n in priority_step numbered m t (setup_of c t).priority (s.priority t) (h.priority t here) few here e;
        waits = λ t. (next.report t).0.wait;
        line = line_step c s m h ready.safe few e;
        count = next.tasks;
      }

  stands_run : (s : Standing) (m : State) (es : List Event) → Ready c s.waits m es → Stands c s m → Stands c (standing_by c (answers numbered m es) s) (replay numbered m es)
  stands_run s m [] ready h = h
  stands_run s m (e ∷ es) ready h = stands_run (standing_after c (step numbered m e).1 s) (step numbered m e).0 es (ready_next c s.waits m e es ready) (stands_next s m e es ready h)

  booted_stands : (valid : IsValid c) → (es : List Event) → AreOn c.processors es → Stands c (standing_at_boot c) (booted c)
  booted_stands valid es on =
      let ready = ready_at_boot c valid es on in
      let few = valid.few_tasks in
      record {
        life = λ t n. booted_life c t (rw (sym ready.tasks) n) valid;
        suspended = λ t n. booted_unsuspended c few t;
        priority = λ t n. booted_priority c few t (ap (λ s. s.priority) (ready.report t).1);
        waits = λ t. (ready.report t).0.wait;
        line = booted_line few;
        count = ready.tasks;
      }

  pub stands_from_boot : (es : List Event) → IsValid c → AreOn c.processors es → Stands c (report_standing c (answers numbered (booted c) es)) (replay numbered (booted c) es)
  stands_from_boot es valid on = stands_run (standing_at_boot c) (booted c) es (ready_at_boot c valid es on) (booted_stands valid es on)

  after_all : (es : List Event) → IsValid c → AreOn c.processors es → (p : Proc) → AreReadyReported c (report_standing c (answers numbered (booted c) es)) (replay numbered (booted c) es) p
  after_all es valid on p =
      let h = stands_from_boot es valid on in
      let m : State = replay numbered (booted c) es in
      let few : length m.tasks ≤ 64 = rw h.count valid.few_tasks in
      record { ready = ready_same c _ m h few p; top = top_same c _ m h few p }

pub order_reported : (c : Setup) (events : List Event) → IsValid c → AreOn c.processors events → (n : ℕ) (p : Proc) →
    AreReadyReported c (report_standing c (take n (answers numbered (booted c) events))) (replay numbered (booted c) (take n events)) p
order_reported c events valid on n p =
    let es : List Event = take n events in
    subst (λ rs. AreReadyReported c (report_standing c rs) (replay numbered (booted c) es) p) (answers_take n (booted c) events) (after_all c es valid (prefix_on n c.processors events on) p)
