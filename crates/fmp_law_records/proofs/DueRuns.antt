-- Which handlers are due on a processor along a run, and who runs there.
use Rattle.std.proofs.Common.{◌≡◌, ℕ, zero, suc, ◌≤◌, List, [], ◌∷◌, refl, sym, ap, ◌∙◌, subst, Option, Some, None}
use Rattle.std.specs.Prelude.{take, option_map}
use Rattle.std.specs.Option.{option_or}
use Rattle.std.proofs.lemmas.List.Elements.{All-replicate}
use Rattle.fmp_codes.specs.declared.numbers.Proc.{Proc}
use Rattle.fmp_codes.specs.declared.numbers.Task.{Task}
use Rattle.fmp_codes.specs.declared.numbers.Object.{Object}
use Rattle.fmp_codes.specs.declared.records.Event.{Event}
use Rattle.fmp_codes.specs.declared.records.Record.{Record}
use Rattle.fmp_codes.specs.declared.records.Runner.{Runner}
use Rattle.fmp_codes.specs.declared.records.Runner.TheVariants as runner
use Rattle.fmp_setup.specs.Setup.{Setup}
use Rattle.fmp_setup.specs.Valid.{IsValid}
use Rattle.fmp_rules.specs.World.{World, item, first, processor, runner_of, processors_to}
use Rattle.fmp_rules.specs.Ordering.{Ordering}
use Rattle.fmp_rules.specs.Arrivals.{State, numbered}
use Rattle.fmp_rules.specs.Step.{step, replay, answers}
use Rattle.fmp_rules.specs.Boot.{blank, all_started, with_top_running, with_tops_running, booted, unnumbered}
use Rattle.fmp_rules.proofs.Replays.{answers_take}
use Rattle.fmp_law_safety.specs.Runs.{processor_of, AreOn}
use Rattle.fmp_law_safety.proofs.Items.{item_holds}
use Rattle.fmp_law_safety.proofs.Booting.{started_due}
use Rattle.fmp_law_balance.specs.Waits.Waits.{OpenWaits, nobody_waits, after_record}
use Rattle.fmp_law_balance.proofs.waits.Events.{event_reported, by_event}
use Rattle.fmp_law_records.proofs.counts.HandlersRuns.{Clocked, clocked_next, clocked_booted}
use Rattle.fmp_law_records.proofs.counts.Ready.{Ready, ready_next, ready_at_boot, prefix_on}
use Rattle.fmp_law_records.specs.Handlers.{alarm_by, cyclic_by}
use Rattle.fmp_law_records.specs.Due.{HandlersReported, handlers_after, handlers_by, handlers_at_boot, AreDueReported, RunsFirst}
use Rattle.fmp_law_records.proofs.AlarmsRuns.{alarms_reported}
use Rattle.fmp_law_records.proofs.CyclicsRuns.{cyclics_reported}
use Rattle.fmp_law_records.proofs.Due.{AreTimed, due_step}

-- what is told of one alarm and of one cyclic handler
alarms_by : (c : Setup) (p : Proc) (rs : List Record) (x : HandlersReported) (a : Object) → (handlers_by c p rs x).alarms a ≡ alarm_by c a rs (x.alarms a)
alarms_by c p [] x a = refl
alarms_by c p (r ∷ rs) x a = alarms_by c p rs (handlers_after c p r x) a

cyclics_by : (c : Setup) (p : Proc) (rs : List Record) (x : HandlersReported) (o : Object) → (handlers_by c p rs x).cyclics o ≡ cyclic_by c o rs (x.cyclics o)
cyclics_by c p [] x o = refl
cyclics_by c p (r ∷ rs) x o = cyclics_by c p rs (handlers_after c p r x) o

-- At boot no handler is due.

running_due : (w : State) (ps : List Proc) → (with_tops_running numbered w ps).due ≡ w.due
running_due w [] = refl
running_due w (p ∷ ps) = running_due (with_top_running numbered w p) ps

booted_due : (c : Setup) (p : Proc) → item [] (booted c).due p.number ≡ []
booted_due c p =
    let at_first : State = blank (unnumbered c) c in
    ap (λ ds. item [] ds p.number) (running_due (all_started numbered at_first 1 c.tasks) (processors_to c.processors) ∙ started_due numbered at_first 1 c.tasks)
    ∙ item_holds (λ (ds : List Runner). ds ≡ []) [] at_first.due p.number refl (All-replicate (λ (ds : List Runner). ds ≡ []) c.processors [] refl)

module _ (c : Setup) (p : Proc) (here : p.number ≤ c.processors) where
  abbrev TimedBy : State → List Event → HandlersReported → Type 0
  TimedBy m es x = (n : ℕ) → AreTimed c (replay numbered m (take n es)) (handlers_by c p (take n (answers numbered m es)) x)

  due_run : (pending : OpenWaits) (m : State) (es : List Event) (x : HandlersReported) → Ready c pending m es → Clocked c m → TimedBy m es x → item [] m.due p.number ≡ x.due →
      item [] (replay numbered m es).due p.number ≡ (handlers_by c p (answers numbered m es) x).due
  due_run pending m [] x ready count timed old = old
  due_run pending m (e ∷ es) x ready count timed old =
      due_run (after_record c pending (step numbered m e).1) (step numbered m e).0 es (handlers_after c p (step numbered m e).1 x) (ready_next c pending m e es ready) (clocked_next c m e count) (λ n. timed (suc n))
      (due_step c m x p here ready.safe.counts ready.sound.timer count (timed zero) old e)

  -- after all of these events
  pub due_after_all : (es : List Event) → IsValid c → AreOn c.processors es → AreDueReported c (answers numbered (booted c) es) (replay numbered (booted c) es) p
  due_after_all es valid on =
      let timed : TimedBy (booted c) es (handlers_at_boot c) = λ i.
      record {
        alarms = λ a there.
            let h = alarms_reported c es valid on i a there in
            let same = alarms_by c p (take i (answers numbered (booted c) es)) (handlers_at_boot c) a in
            (h.left ∙ sym (ap (λ y. y.left) same), h.at ∙ sym (ap (λ y. y.at) same));
        cyclics = λ o there.
            let h = cyclics_reported c es valid on i o there in
            let same = cyclics_by c p (take i (answers numbered (booted c) es)) (handlers_at_boot c) o in
            (h.left ∙ sym (ap (λ y. y.left) same), h.at ∙ sym (ap (λ y. y.at) same));
      } in
      due_run nobody_waits (booted c) es (handlers_at_boot c) (ready_at_boot c valid es on) (clocked_booted c) timed (booted_due c p)

  pub due_reported : (events : List Event) → IsValid c → AreOn c.processors events → (n : ℕ) → AreDueReported c (take n (answers numbered (booted c) events)) (replay numbered (booted c) (take n events)) p
  due_reported events valid on n =
      subst (λ rs. AreDueReported c rs (replay numbered (booted c) (take n events)) p) (answers_take n (booted c) events) (due_after_all (take n events) valid (prefix_on n c.processors events on))

-- Who runs is the first that is due.

module _ {Q : Type 0} (k : Ordering Q) (w : World Q) where
  runner_reported : (e : Event) → (step k w e).1.runner ≡ runner_of w (processor_of (step k w e).1.event)
  runner_reported e =
      by_event k w (λ v r. r.runner ≡ runner_of w (processor_of r.event)) (λ v cs r x ps h. h) (λ p c. refl) (λ p c. refl) (λ p. refl) (λ p. refl) (λ p. refl) (λ p a none. refl) e

first_runs : (ds : List Runner) (o : Option Task) → RunsFirst ds (option_or (first ds) (option_map runner.Task o))
first_runs [] None = refl
first_runs [] (Some t) = refl
first_runs (h ∷ hs) o = refl

pub first_runs_reported : (c : Setup) (events : List Event) → IsValid c → AreOn c.processors events → (e : Event) → (processor_of e).number ≤ c.processors →
    RunsFirst (handlers_by c (processor_of e) (answers numbered (booted c) events) (handlers_at_boot c)).due (step numbered (replay numbered (booted c) events) e).1.runner
first_runs_reported c events valid on e here =
    let m : State = replay numbered (booted c) events in
    let p : Proc = processor_of e in
    let runs : (step numbered m e).1.runner ≡ runner_of m p = runner_reported numbered m e ∙ ap (λ x. runner_of m (processor_of x)) (event_reported numbered m e) in
    subst (λ ds. RunsFirst ds (step numbered m e).1.runner) (due_after_all c p here events valid on)
    (subst (RunsFirst (item [] m.due p.number)) (sym runs) (first_runs (item [] m.due p.number) (processor m p).running))
