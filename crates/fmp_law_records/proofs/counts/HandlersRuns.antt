-- What is left of alarms and cyclic handlers along a run, and which of them become due.
use Rattle.std.proofs.Common.{◌≡◌, ℕ, ◌+◌, ◌≤◌, Bool, ◌&&◌, List, [], ◌∷◌, ◌++◌, length, map, refl, sym, ap, ◌∙◌, arith, Option, None}
use Rattle.std.specs.Prelude.{if◌then◌else◌}
use Rattle.std.proofs.lemmas.Bool.{cond_both}
use Rattle.std.proofs.lemmas.List.{length-map, length-replicate}
use Rattle.std.proofs.lemmas.List.Elements.{All-map}
use Rattle.fmp_codes.specs.Numbers.{as_task}
use Rattle.fmp_codes.specs.declared.numbers.Proc.{Proc}
use Rattle.fmp_codes.specs.declared.numbers.Object.{Object}
use Rattle.fmp_codes.specs.declared.records.Event.{Event}
use Rattle.fmp_codes.specs.declared.records.Event.TheVariants as event
use Rattle.fmp_codes.specs.declared.records.Runner.TheVariants as runner
use Rattle.fmp_setup.specs.declared.setup.TaskSetup.{TaskSetup}
use Rattle.fmp_setup.specs.declared.setup.AlarmSetup.{AlarmSetup}
use Rattle.fmp_setup.specs.Setup.{Setup, counts_for}
use Rattle.fmp_setup.specs.Valid.{IsValid}
use Rattle.fmp_rules.specs.World.{World, item, runner_of, processors_to}
use Rattle.fmp_rules.specs.Objects.{cyclic, alarm}
use Rattle.fmp_rules.specs.Ordering.{Ordering}
use Rattle.fmp_rules.specs.Arrivals.{State, numbered}
use Rattle.fmp_rules.specs.Tasks.{start}
use Rattle.fmp_rules.specs.Step.{step, replay}
use Rattle.fmp_rules.specs.Boot.{blank, all_started, with_top_running, with_tops_running, booted, unnumbered}
use Rattle.fmp_law_safety.specs.Runs.{AreOn}
use Rattle.fmp_law_safety.specs.Safe.{Safe}
use Rattle.fmp_law_safety.proofs.Items.{item_holds}
use Rattle.fmp_law_balance.specs.Waits.Waits.{OpenWaits, nobody_waits, after_record}
use Rattle.fmp_law_records.proofs.counts.Ready.{Ready, ready_next, ready_at_boot, ready_after}
use Rattle.fmp_law_records.specs.Counts.Alarms.{alarm_left_after, alarm_left_by, is_last, IsAlarmTimed}
use Rattle.fmp_law_records.specs.Counts.Cyclics.{cyclic_left_after, cyclic_left_by, cyclic_at_boot, IsCyclicTimed}
use Rattle.fmp_law_records.specs.Counts.Due.{by_number, BecomeDue, FallDue}
use Rattle.fmp_law_balance.proofs.waits.Events.{by_event, tick_state}
use Rattle.fmp_law_records.proofs.counts.Sparing.{Clock, clock}
use Rattle.fmp_law_records.proofs.counts.HandlersCalls.{times_call, idle_time, cyclic_times_call, idle_cyclic_time, Clocks, clocks_all, clocks_call}
use Rattle.fmp_law_records.proofs.counts.HandlersTick.{left_at_tick, cyclic_left_at_tick, due_at_tick, clocks_tick, same_passed}

module _ {Q : Type 0} (k : Ordering Q) (w : World Q) where
  pub clocks_step : (e : Event) → Clocks w (step k w e).0
  clocks_step e =
      by_event k w (λ v r. Clocks w v) (λ v cs r x ps h. record { alarms = h.alarms; alarms_left = h.alarms_left; cyclics = h.cyclics; cyclics_left = h.cyclics_left; due = h.due })
      (λ p c. clocks_call w k p c) (λ p c. clocks_all w) (λ p. clocks_tick k w p) (λ p. clocks_all w) (λ p. clocks_all w) (λ p a h. clocks_all w) e

  -- what is left of an alarm after a step is what its record says
  alarm_step : (a : Object) → length w.alarms ≤ 32 → length w.alarms_left ≡ length w.alarms → a.number ≤ length w.alarms → Safe k w → (e : Event) →
      item None (step k w e).0.alarms_left a.number ≡ alarm_left_after w a (step k w e).1 (item None w.alarms_left a.number)
  alarm_step a few same here s e =
      by_event k w (λ v r. item None v.alarms_left a.number ≡ alarm_left_after w a r (item None w.alarms_left a.number)) (λ v cs r x ps h. h)
      (λ p c. times_call k w p a few same c) (λ p c. sym (idle_time w a (runner_of w p) (event.Call p c) (item None w.alarms_left a.number)))
      (λ p. left_at_tick k w p a here same (s.counts.alarms a)) (λ p. refl) (λ p. refl) (λ p x h. refl) e

  cyclic_step : (c : Object) → length w.cyclics ≤ 32 → length w.cyclics_left ≡ length w.cyclics → c.number ≤ length w.cyclics → Safe k w → (e : Event) →
      item None (step k w e).0.cyclics_left c.number ≡ cyclic_left_after w c (step k w e).1 (item None w.cyclics_left c.number)
  cyclic_step c few same here s e =
      by_event k w (λ v r. item None v.cyclics_left c.number ≡ cyclic_left_after w c r (item None w.cyclics_left c.number)) (λ v cs r x ps h. h)
      (λ p x. cyclic_times_call k w p c few same x) (λ p x. sym (idle_cyclic_time w c (runner_of w p) (event.Call p x) (item None w.cyclics_left c.number)))
      (λ p. cyclic_left_at_tick k w p c here same (s.counts.cyclics c)) (λ p. refl) (λ p. refl) (λ p x h. refl) e

-- there are as many handlers, counts and lists of due handlers as are configured
pub record Clocked (c : Setup) (m : State) : Type 0 where
  pub alarms : length m.alarms ≡ length c.alarms
  pub alarms_left : length m.alarms_left ≡ length c.alarms
  pub cyclics : length m.cyclics ≡ length c.cyclics
  pub cyclics_left : length m.cyclics_left ≡ length c.cyclics
  pub due : length m.due ≡ c.processors

pub clocked_next : (c : Setup) (m : State) (e : Event) → Clocked c m → Clocked c (step numbered m e).0
clocked_next c m e h =
    let same = clocks_step numbered m e in
    record {
      alarms = same.alarms ∙ h.alarms;
      alarms_left = same.alarms_left ∙ h.alarms_left;
      cyclics = same.cyclics ∙ h.cyclics;
      cyclics_left = same.cyclics_left ∙ h.cyclics_left;
      due = same.due ∙ h.due;
    }

clocked_later : (c : Setup) (m : State) (es : List Event) → Clocked c m → Clocked c (replay numbered m es)
clocked_later c m [] h = h
clocked_later c m (e ∷ es) h = clocked_later c (step numbered m e).0 es (clocked_next c m e h)

module _ (s : Setup) (valid : IsValid s) where
  cyclic_run : (c : Object) → c.number ≤ length s.cyclics → (pending : OpenWaits) (m : State) (es : List Event) (left : Option ℕ) → Ready s pending m es → Clocked s m → item None m.cyclics_left c.number ≡ left →
      item None (replay numbered m es).cyclics_left c.number ≡ cyclic_left_by c m es left
  cyclic_run c here pending m [] left ready h e = e
  cyclic_run c here pending m (e ∷ es) left ready h same =
      cyclic_run c here (after_record s pending (step numbered m e).1) (step numbered m e).0 es (cyclic_left_after m c (step numbered m e).1 left) (ready_next s pending m e es ready) (clocked_next s m e h)
      (cyclic_step numbered m c (rw h.cyclics valid.few.cyclics) (h.cyclics_left ∙ sym h.cyclics) (rw h.cyclics here) ready.safe e ∙ ap (λ (o : Option ℕ). cyclic_left_after m c (step numbered m e).1 o) same)

  alarm_run : (a : Object) → a.number ≤ length s.alarms → (pending : OpenWaits) (m : State) (es : List Event) (left : Option ℕ) → Ready s pending m es → Clocked s m → item None m.alarms_left a.number ≡ left →
      item None (replay numbered m es).alarms_left a.number ≡ alarm_left_by a m es left
  alarm_run a here pending m [] left ready h e = e
  alarm_run a here pending m (e ∷ es) left ready h same =
      alarm_run a here (after_record s pending (step numbered m e).1) (step numbered m e).0 es (alarm_left_after m a (step numbered m e).1 left) (ready_next s pending m e es ready) (clocked_next s m e h)
      (alarm_step numbered m a (rw h.alarms valid.few.alarms) (h.alarms_left ∙ sym h.alarms) (rw h.alarms here) ready.safe e ∙ ap (λ (o : Option ℕ). alarm_left_after m a (step numbered m e).1 o) same)

-- Boot.

pub clock_started : (w : State) (n : ℕ) (ss : List TaskSetup) → clock (all_started numbered w n ss) ≡ clock w
clock_started w n [] = refl
clock_started w n (s ∷ ss) =
    let v : State = if s.starts then start numbered w (as_task n) s.class.initial else w in
    clock_started v (n + 1) ss ∙ cond_both s.starts (start numbered w (as_task n) s.class.initial) w (λ (u : State). clock u ≡ clock w) (λ _. refl) (λ _. refl)

pub clock_running : (w : State) (ps : List Proc) → clock (with_tops_running numbered w ps) ≡ clock w
clock_running w [] = refl
clock_running w (p ∷ ps) = clock_running (with_top_running numbered w p) ps

module _ (c : Setup) where
  abbrev at_first : State
  at_first = blank (unnumbered c) c

  clock_booted : clock (booted c) ≡ clock at_first
  clock_booted = clock_running (all_started numbered at_first 1 c.tasks) (processors_to c.processors) ∙ clock_started at_first 1 c.tasks

  booted_alarm : (a : Object) → item None (booted c).alarms_left a.number ≡ None
  booted_alarm a =
      ap (λ (x : Clock). item None x.alarms_left a.number) clock_booted
      ∙ item_holds (λ (o : Option ℕ). o ≡ None) None at_first.alarms_left a.number refl (All-map (λ (o : Option ℕ). o ≡ None) (λ (s : AlarmSetup). None) c.alarms (λ i d h. refl))

  booted_cyclic : (o : Object) → item None (booted c).cyclics_left o.number ≡ cyclic_at_boot c o
  booted_cyclic o = ap (λ (x : Clock). item None x.cyclics_left o.number) clock_booted

  pub clocked_booted : Clocked c (booted c)
  clocked_booted = record {
    alarms = ap (λ (x : Clock). length x.alarms) clock_booted ∙ length-map c.alarms _;
    alarms_left = ap (λ (x : Clock). length x.alarms_left) clock_booted ∙ length-map c.alarms _;
    cyclics = ap (λ (x : Clock). length x.cyclics) clock_booted ∙ length-map c.cyclics _;
    cyclics_left = ap (λ (x : Clock). length x.cyclics_left) clock_booted ∙ length-map c.cyclics _;
    due = ap (λ (x : Clock). x.due) clock_booted ∙ length-replicate c.processors [];
  }

pub alarms_timed : (c : Setup) (events : List Event) → IsValid c → AreOn c.processors events → (a : Object) → a.number ≤ length c.alarms → IsAlarmTimed c events a
alarms_timed c events valid on a here = alarm_run c valid a here nobody_waits (booted c) events None (ready_at_boot c valid events on) (clocked_booted c) (booted_alarm c a)

pub cyclics_timed : (s : Setup) (events : List Event) → IsValid s → AreOn s.processors events → (c : Object) → c.number ≤ length s.cyclics → IsCyclicTimed s events c
cyclics_timed s events valid on c here = cyclic_run s valid c here nobody_waits (booted s) events (cyclic_at_boot s c) (ready_at_boot s valid events on) (clocked_booted s) (booted_cyclic s c)

pub handlers_fall_due : (s : Setup) (events : List Event) → IsValid s → AreOn s.processors events → (p : Proc) → p.number ≤ s.processors → FallDue s events p
handlers_fall_due s events valid on p at =
    let m : State = replay numbered (booted s) events in
    let h : Clocked s m = clocked_later s (booted s) events (clocked_booted s) in
    let safe : Safe numbered m = (ready_after s valid events on).safe in
    let law = due_at_tick numbered m p (rw h.due at) (h.alarms_left ∙ sym h.alarms) (h.cyclics_left ∙ sym h.cyclics) safe.counts.alarms safe.counts.cyclics in
    let last_alarms : Object → Bool = λ a. counts_for m.timer p (alarm m a).assigned && is_last (alarm_left_by a (booted s) events None) in
    let last_cyclics : Object → Bool = λ c. counts_for m.timer p (cyclic m c).assigned && is_last (cyclic_left_by c (booted s) events (cyclic_at_boot s c)) in
    let report_alarms = same_passed (λ a. counts_for m.timer p (alarm m a).assigned && is_last (item None m.alarms_left a.number)) last_alarms (length m.alarms) 1 (length m.alarms) (omega arith) (omega arith)
    (λ a here. ap (λ (o : Option ℕ). counts_for m.timer p (alarm m a).assigned && is_last o) (alarms_timed s events valid on a (rw (sym h.alarms) here))) in
    let report_cyclics = same_passed (λ c. counts_for m.timer p (cyclic m c).assigned && is_last (item None m.cyclics_left c.number)) last_cyclics (length m.cyclics) 1 (length m.cyclics) (omega arith) (omega arith)
    (λ c here. ap (λ (o : Option ℕ). counts_for m.timer p (cyclic m c).assigned && is_last o) (cyclics_timed s events valid on c (rw (sym h.cyclics) here))) in
    tick_state numbered m p (λ (v : State). BecomeDue (item [] m.due p.number) (item [] v.due p.number) (by_number m.alarms last_alarms) (by_number m.cyclics last_cyclics))
    (λ v cs d. d)
    (law
    ∙ ap (λ xs. item [] m.due p.number ++ map runner.Alarm xs ++ map runner.Cyclic (by_number m.cyclics (λ c. counts_for m.timer p (cyclic m c).assigned && is_last (item None m.cyclics_left c.number)))) report_alarms
    ∙ ap (λ xs. item [] m.due p.number ++ map runner.Alarm (by_number m.alarms last_alarms) ++ map runner.Cyclic xs) report_cyclics)
