-- Who makes the calls from a processor is whom the records tell.
use Rattle.std.proofs.Common.{◌≡◌, ◌≤◌, ◌==◌, true, false, ◌||◌, List, [], ◌∷◌, length, arith, refl, sym, ap, ◌∙◌, subst, Option, Some, None, ⊎_elim}
use Rattle.std.specs.Prelude.{if◌then◌else◌, is_some, unwrap_or, option_map}
use Rattle.std.specs.Option.{option_or}
use Rattle.std.proofs.lemmas.Bool.{cond_both, cond-true, cond-false, false≢true, eqb-true, eq-eqb, ne_eqb, cases_eq}
use Rattle.std.proofs.lemmas.List.Elements.{All-nil}
use Rattle.fmp_codes.specs.declared.numbers.Proc.{Proc}
use Rattle.fmp_codes.specs.declared.numbers.Task.{Task}
use Rattle.fmp_codes.specs.declared.records.Answer.{Answer}
use Rattle.fmp_codes.specs.declared.records.Answer.TheVariants as answer
use Rattle.fmp_codes.specs.declared.records.Event.{Event}
use Rattle.fmp_codes.specs.declared.records.Event.TheVariants as event
use Rattle.fmp_codes.specs.declared.records.Record.{Record}
use Rattle.fmp_codes.specs.declared.records.Runner.{Runner}
use Rattle.fmp_codes.specs.declared.records.Runner.TheVariants as runner
use Rattle.fmp_codes.proofs.Same.{tasks_same, processors_same}
use Rattle.fmp_setup.specs.Setup.{Setup, has_time}
use Rattle.fmp_setup.specs.Valid.{IsValid}
use Rattle.fmp_rules.specs.Effects.{Effect}
use Rattle.fmp_rules.specs.declared.machine.Processor.{Processor}
use Rattle.fmp_rules.specs.World.{no_processor, item, with_item, first, processor, handler, runner_of, is_held}
use Rattle.fmp_rules.specs.Ordering.{top}
use Rattle.fmp_rules.specs.Arrivals.{State, numbered}
use Rattle.fmp_rules.specs.Rows.{called, plain}
use Rattle.fmp_rules.specs.Tick.{tick}
use Rattle.fmp_rules.specs.Step.{is_same, changed_run, requests, tops, settle, row_of, settled, before_event, unchanged, step, replay, answers}
use Rattle.fmp_rules.specs.Boot.{booted}
use Rattle.fmp_law_safety.specs.Runs.{processor_of, AreOn}
use Rattle.fmp_law_safety.specs.Safe.{Safe}
use Rattle.fmp_law_safety.proofs.Items.{item_other}
use Rattle.fmp_law_safety.proofs.Booted.{booted_safe, count_booted}
use Rattle.fmp_law_safety.proofs.Calls.{occupied_at}
use Rattle.fmp_law_safety.proofs.Keeps.{KeepsOthers, keeps_all}
use Rattle.fmp_law_safety.proofs.KeepsTick.{keeps_tick}
use Rattle.fmp_law_safety.proofs.Listed.{numbered_lists}
use Rattle.fmp_law_safety.proofs.Settling.{with_latches, latches_at, settle_is}
use Rattle.fmp_law_safety.proofs.Stepping.{numbered_tops, keeps_call, safe_step}
use Rattle.fmp_law_balance.specs.Waits.Waits.{OpenWaits, nobody_waits, after_record}
use Rattle.fmp_law_balance.proofs.waits.Events.{by_event, event_reported}
use Rattle.fmp_law_records.proofs.counts.Ready.{Ready, ready_next, ready_at_boot}
use Rattle.fmp_law_records.specs.Requests.{processor_at_boot, report_processor}
use Rattle.fmp_law_records.specs.Standing.{standing_at_boot, top_reported}
use Rattle.fmp_law_records.proofs.DueRuns.{due_after_all}
use Rattle.fmp_law_records.proofs.RequestsRuns.{by_parts, HoldsReported, holds_after_all, requests_reported}
use Rattle.fmp_law_records.proofs.StandingRuns.{order_reported}
use Rattle.fmp_law_records.specs.Refusals.Callers.{running_after, running_by, report_running, first_or_task, IsCallerReported}

-- One step.

-- a processor runs what the change of its running task tells
change_is : (a b : Option Task) → unwrap_or (changed_run a b) a ≡ b
change_is a b = cond_both (is_same a b) None (Some b) (λ (x : Option (Option Task)). unwrap_or x a ≡ b) (λ same. go a b same) (λ _. refl)
  where
    go : (a b : Option Task) → is_same a b ≡ true → a ≡ b
    go None None e = refl
    go None (Some u) e = absurd (false≢true e)
    go (Some t) None e = absurd (false≢true e)
    go (Some t) (Some u) e = ap Some (tasks_same t u (eqb-true t.number u.number e))

module _ (m : State) (s : Safe numbered m) (p : Proc) (here : p.number ≤ length m.processors) where
  abbrev RunsReported : (State × Record) → Type 0
  RunsReported x = (processor x.0 p).running ≡ running_after p x.1 (processor m p).running

  -- the end of an event on another processor leaves what p runs
  elsewhere : (before : List (Option Task)) (v : State) (q : Proc) → length v.processors ≡ length m.processors → (p.number ≡ q.number → ⊥) →
      (processor (settle numbered before v q) p).running ≡ (processor v p).running
  elsewhere before v q count d =
      let rs : List Proc = requests numbered before v q in
      let cs : List Processor = with_latches v.processors rs in
      let x : Processor = record (item no_processor cs q.number) { running = top numbered v q; latch = false } in
      ap (λ (u : State). (processor u p).running) (settle_is numbered before v q)
      ∙ cond_both (is_held (record v { processors = cs }) q) cs (with_item cs q.number x)
      (λ (ds : List Processor). (item no_processor ds p.number).running ≡ (item no_processor cs p.number).running) (λ _. refl)
      (λ _. ap (λ (y : Processor). y.running) (item_other no_processor cs q.number x p.number p.least q.least d))
      ∙ ap (λ (y : Processor). y.running) (latches_at v.processors rs p (rw count here))

  runs_settled : (e : Event) (q : Proc) (did : State × Effect) → (processor_of e).number ≡ q.number → KeepsOthers m did.0 q →
      RunsReported (settled numbered (before_event numbered m e q) did)
  unfolding settled before_event
  runs_settled e q did is keeps =
      ⊎_elim
      (λ (same : p.number ≡ q.number).
      let after : State = settle numbered (tops numbered m) did.0 q in
      let at : ((processor_of e).number == p.number) ≡ true = eq-eqb (processor_of e).number p.number (is ∙ sym same) in
      let change : Option (Option Task) = changed_run (processor m q).running (processor after q).running in
      subst (λ (y : Proc). (processor after y).running ≡ unwrap_or change (processor m y).running) (sym (processors_same p q same))
      (sym (change_is (processor m q).running (processor after q).running))
      ∙ sym (cond-true ((processor_of e).number == p.number) (unwrap_or change (processor m p).running) (processor m p).running at))
      (λ (d : p.number ≡ q.number → ⊥).
      let other : ((processor_of e).number == p.number) ≡ false = ne_eqb (processor_of e).number p.number (λ i. d (sym i ∙ is)) in
      elsewhere (tops numbered m) did.0 q keeps.count d ∙ ap (λ (y : Processor). y.running) (keeps.processors p d)
      ∙ sym (cond-false ((processor_of e).number == p.number) _ (processor m p).running other))
      (cases_eq p.number q.number)

  runs_unchanged : (e : Event) (q : Proc) (a : Answer) → RunsReported (unchanged m e q a)
  unfolding unchanged
  runs_unchanged e q a = sym (cond_both ((processor_of e).number == p.number) (processor m p).running (processor m p).running
      (λ (o : Option Task). o ≡ (processor m p).running) (λ _. refl) (λ _. refl))

  running_step : (e : Event) → (processor_of e).number ≤ length m.processors → RunsReported (step numbered m e)
  running_step (event.Call q c) within =
      cond_both (is_some (runner_of m q)) _ _ RunsReported
      (λ there. runs_settled (event.Call q c) q (called m q (row_of numbered m q c)) refl (keeps_call numbered m numbered_lists s q (q.least, within) there c))
      (λ _. runs_unchanged (event.Call q c) q answer.Idle)
  running_step (event.Tick q) within =
      cond_both (has_time m.timer q) _ _ RunsReported
      (λ _.
      cond_both ((processor m q).locked || is_some (handler m q)) _ _ RunsReported (λ _. runs_unchanged (event.Tick q) q answer.Held)
      (λ _. runs_settled (event.Tick q) q (tick numbered m q) refl (keeps_tick numbered numbered_lists m s q (q.least, within))))
      (λ _. runs_unchanged (event.Tick q) q answer.Nothing)
  running_step (event.Ipi q) within =
      cond_both (is_held m q) _ _ RunsReported (λ _. runs_unchanged (event.Ipi q) q answer.Held)
      (λ _. runs_settled (event.Ipi q) q (m, plain (if (processor m q).latch then answer.Taken else answer.Nothing)) refl
      (keeps_all m q (occupied_at m q (s.processors q (q.least, within)))))

-- Along a run.

module _ (c : Setup) (valid : IsValid c) (p : Proc) (here : p.number ≤ c.processors) where
  running_run : (pending : OpenWaits) (m : State) (es : List Event) (o : Option Task) → Ready c pending m es → length m.processors ≡ c.processors →
      (processor m p).running ≡ o →
      (processor (replay numbered m es) p).running ≡ running_by p (answers numbered m es) o
  running_run pending m [] o ready count old = old
  running_run pending m (e ∷ es) o ready count old =
      let r : Record = (step numbered m e).1 in
      let within : (processor_of e).number ≤ length m.processors = ready.on 0 e (omega arith) in
      running_run (after_record c pending r) (step numbered m e).0 es (running_after p r o) (ready_next c pending m e es ready)
      ((safe_step numbered numbered_tops numbered_lists m e ready.safe ((processor_of e).least, within)).count ∙ count)
      (running_step m ready.safe p (rw count here) e within ∙ ap (running_after p r) old)

  -- at boot p runs its top
  running_at_boot : (processor (booted c) p).running ≡ top_reported c (standing_at_boot c) p
  running_at_boot =
      let none : AreOn c.processors [] = All-nil (λ (e : Event). (processor_of e).number ≤ c.processors) in
      let holds : HoldsReported c p (booted c) (report_processor c p []) = holds_after_all c p here [] valid none in
      let s : Safe numbered (booted c) = booted_safe c valid in
      (s.processors p (p.least, rw (count_booted c) here)).dispatched (requests_reported c p here [] valid none 0) holds.held ∙ (order_reported c [] valid none 0 p).top

  module _ (events : List Event) (on : AreOn c.processors events) where
    abbrev m : State
    m = replay numbered (booted c) events

    abbrev records : List Record
    records = answers numbered (booted c) events

    pub running_after_all : (processor m p).running ≡ report_running c p records
    running_after_all = running_run nobody_waits (booted c) events (top_reported c (standing_at_boot c) p) (ready_at_boot c valid events on)
        (count_booted c) running_at_boot

    first_is : (ds : List Runner) (o : Option Task) → option_or (first ds) (option_map runner.Task o) ≡ first_or_task ds o
    first_is [] None = refl
    first_is [] (Some t) = refl
    first_is (d ∷ ds) o = refl

    caller_after_all : runner_of m p ≡ first_or_task (report_processor c p records).handlers.due (report_running c p records)
    caller_after_all =
        ap (λ ds. option_or (first ds) (option_map runner.Task (processor m p).running))
        (due_after_all c p here events valid on ∙ sym (ap (λ h. h.due) (by_parts c p records (processor_at_boot c)).handlers))
        ∙ ap (λ o. option_or (first (report_processor c p records).handlers.due) (option_map runner.Task o)) running_after_all
        ∙ first_is (report_processor c p records).handlers.due (report_running c p records)

runner_is : (m : State) (e : Event) → (step numbered m e).1.runner ≡ runner_of m (processor_of (step numbered m e).1.event)
runner_is m e = by_event numbered m (λ v r. r.runner ≡ runner_of m (processor_of r.event)) (λ v cs r x ps h. h) (λ p c. refl) (λ p c. refl) (λ p. refl) (λ p. refl)
    (λ p. refl) (λ p a none. refl) e

pub callers_reported : (c : Setup) (events : List Event) → IsValid c → AreOn c.processors events → (e : Event) → (processor_of e).number ≤ c.processors →
    IsCallerReported c (answers numbered (booted c) events) (step numbered (replay numbered (booted c) events) e).1
callers_reported c events valid on e here =
    let m : State = replay numbered (booted c) events in
    let rs : List Record = answers numbered (booted c) events in
    let is : processor_of (step numbered m e).1.event ≡ processor_of e = ap processor_of (event_reported numbered m e) in
    runner_is m e ∙ ap (runner_of m) is ∙ caller_after_all c valid (processor_of e) here events on
    ∙ sym (ap (λ (p : Proc). first_or_task (report_processor c p rs).handlers.due (report_running c p rs)) is)
