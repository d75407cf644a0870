-- Where an alarm is assigned, and what is left of its time, along a run.
use Rattle.std.proofs.Common.{◌≡◌, ℕ, ◌-◌, ◌≤◌, ◌&&◌, ℤ, pos, negsuc, Bool, List, [], ◌∷◌, length, map, refl, sym, ap, ◌∙◌, subst, Option, None}
use Rattle.std.specs.Prelude.{if◌then◌else◌, take}
use Rattle.std.proofs.Math.ListN.{get_or-map}
use Rattle.std.proofs.lemmas.List.{length-map}
use Rattle.fmp_codes.specs.Numbers.{as_proc}
use Rattle.fmp_codes.specs.declared.numbers.Object.{Object}
use Rattle.fmp_codes.specs.declared.numbers.Proc.{Proc}
use Rattle.fmp_codes.specs.declared.records.Event.{Event}
use Rattle.fmp_codes.specs.declared.records.Record.{Record}
use Rattle.fmp_setup.specs.declared.setup.AlarmSetup.{AlarmSetup}
use Rattle.fmp_setup.specs.declared.setup.Timer.{Timer}
use Rattle.fmp_setup.specs.Setup.{Setup, no_alarm}
use Rattle.fmp_setup.specs.Valid.{IsValid}
use Rattle.fmp_rules.specs.declared.machine.Alarm.{Alarm}
use Rattle.fmp_rules.specs.World.{item, processors_to}
use Rattle.fmp_rules.specs.Objects.{alarm}
use Rattle.fmp_law_balance.specs.Waits.Meanings.{ticks_in}
use Rattle.fmp_rules.specs.Arrivals.{State, numbered}
use Rattle.fmp_rules.specs.Step.{step, replay, answers}
use Rattle.fmp_rules.specs.Boot.{blank, all_started, booted, unnumbered}
use Rattle.fmp_rules.proofs.Replays.{answers_take}
use Rattle.fmp_law_safety.specs.Runs.{AreOn}
use Rattle.fmp_law_balance.specs.Waits.Waits.{OpenWaits, nobody_waits, after_record, is_tick_for}
use Rattle.fmp_law_balance.proofs.waits.Events.{by_event}
use Rattle.fmp_law_balance.specs.Accepted.{is_accepted}
use Rattle.fmp_law_records.specs.Counts.Alarms.{starts_alarm, stops_alarm, alarm_time, without_tick, alarm_left_after, alarm_left_by}
use Rattle.fmp_law_records.proofs.counts.HandlersRuns.{alarms_timed, clocks_step, clock_started, clock_running}
use Rattle.fmp_law_records.proofs.counts.Sparing.{Clock}
use Rattle.fmp_law_records.proofs.counts.Ready.{Ready, ready_next, ready_at_boot, prefix_on}
use Rattle.fmp_law_records.specs.Handlers.{HandlerReported, takes_alarm, begun_with, alarm_after, alarm_by, alarm_at_boot, IsAlarmReported}
use Rattle.fmp_law_records.proofs.Alarms.{at_with, untaken, tick_alarms, alarm_call}
use Rattle.fmp_rules.specs.Tick.{tick}

abbrev blank_alarm : Alarm
blank_alarm = record { setup = no_alarm; assigned = as_proc 1 }

-- it is where the record says, and there are as many
pub record AlarmAs (a : Object) (w v : State) (r : Record) : Type 0 where
  pub here : alarm v a ≡ record (alarm w a) { assigned = at_with (alarm w a).setup.class r.answer (takes_alarm a r.event) (alarm w a).assigned }

alarm_step : (m : State) (a : Object) → length m.alarms ≤ 32 → (e : Event) → AlarmAs a m (step numbered m e).0 (step numbered m e).1
alarm_step m a few e =
    by_event numbered m (λ v r. AlarmAs a m v r) (λ v cs r y ps h. record { here = h.here }) (λ p c. record { here = (alarm_call numbered m p a few c).here })
    (λ p c. record { here = refl }) (λ p. record { here = ap (λ xs. item blank_alarm xs a.number) (tick_alarms numbered m p) ∙ ap (λ q. record (alarm m a) { assigned = q }) (sym (untaken (alarm m a).setup.class (tick numbered m p).1.answer (alarm m a).assigned)) }) (λ p. record { here = refl }) (λ p. record { here = refl })
    (λ p x no_answer. record { here = ap (λ q. record (alarm m a) { assigned = q }) (sym (untaken (alarm m a).setup.class x (alarm m a).assigned)) }) e

same_begun : (time : ℤ) → ticks_in time ≡ begun_with time
same_begun (pos n) = refl
same_begun (negsuc n) = refl

-- what is left of it, where the processor is the machine's
same_left : (c : Setup) (m : State) (a : Object) (r : Record) (x : HandlerReported) → m.timer ≡ c.timer → (alarm m a).assigned ≡ x.at → alarm_left_after m a r x.left ≡ (alarm_after c a r x).left
same_left c m a r x timer at =
    ap (λ (begun : Option ℕ). if starts_alarm a r.event && is_accepted r.answer then begun else if stops_alarm a r.event && is_accepted r.answer then None else if is_tick_for m.timer (alarm m a).assigned r.answer r.event then without_tick None x.left else x.left) (same_begun (alarm_time r.event))
    ∙ ap (λ (b : Bool). if starts_alarm a r.event && is_accepted r.answer then begun_with (alarm_time r.event) else if stops_alarm a r.event && is_accepted r.answer then None else if b then without_tick None x.left else x.left)
    (ap (λ (t : Timer). is_tick_for t (alarm m a).assigned r.answer r.event) timer ∙ ap (λ (q : Proc). is_tick_for c.timer q r.answer r.event) at)

abbrev setup_alarm : Setup → Object → AlarmSetup
setup_alarm c a = item no_alarm c.alarms a.number

module _ (c : Setup) (valid : IsValid c) (a : Object) where
  abbrev With : Proc → Alarm
  With q = record { setup = setup_alarm c a; assigned = q }

  alarm_run : (pending : OpenWaits) (m : State) (es : List Event) (x : HandlerReported) → Ready c pending m es → length m.alarms ≤ 32 → alarm m a ≡ With x.at → alarm (replay numbered m es) a ≡ With (alarm_by c a (answers numbered m es) x).at
  alarm_run pending m [] x ready few old = old
  alarm_run pending m (e ∷ es) x ready few old =
      alarm_run (after_record c pending (step numbered m e).1) (step numbered m e).0 es (alarm_after c a (step numbered m e).1 x) (ready_next c pending m e es ready) (rw (clocks_step numbered m e).alarms few)
      ((alarm_step m a few e).here ∙ ap (λ (y : Alarm). record y { assigned = at_with y.setup.class (step numbered m e).1.answer (takes_alarm a (step numbered m e).1.event) y.assigned }) old)

  left_run : (pending : OpenWaits) (m : State) (es : List Event) (x : HandlerReported) → Ready c pending m es → length m.alarms ≤ 32 → alarm m a ≡ With x.at → alarm_left_by a m es x.left ≡ (alarm_by c a (answers numbered m es) x).left
  left_run pending m [] x ready few old = refl
  left_run pending m (e ∷ es) x ready few old =
      let r : Record = (step numbered m e).1 in
      ap (λ (o : Option ℕ). alarm_left_by a (step numbered m e).0 es o) (same_left c m a r x ready.sound.timer (ap (λ (y : Alarm). y.assigned) old))
      ∙ left_run (after_record c pending r) (step numbered m e).0 es (alarm_after c a r x) (ready_next c pending m e es ready) (rw (clocks_step numbered m e).alarms few)
      ((alarm_step m a few e).here ∙ ap (λ (y : Alarm). record y { assigned = at_with y.setup.class (step numbered m e).1.answer (takes_alarm a (step numbered m e).1.event) y.assigned }) old)

abbrev resting_alarm : AlarmSetup → Alarm
resting_alarm s = record { setup = s; assigned = s.class.initial }

booted_alarms : (c : Setup) → (booted c).alarms ≡ map resting_alarm c.alarms
booted_alarms c =
    ap (λ (x : Clock). x.alarms) (clock_running (all_started numbered (blank (unnumbered c) c) 1 c.tasks) (processors_to c.processors) ∙ clock_started (blank (unnumbered c) c) 1 c.tasks)

booted_at : (c : Setup) (a : Object) → alarm (booted c) a ≡ resting_alarm (setup_alarm c a)
booted_at c a = ap (λ xs. item blank_alarm xs a.number) (booted_alarms c) ∙ get_or-map resting_alarm c.alarms (a.number - 1) no_alarm

pub alarms_reported : (c : Setup) (events : List Event) → IsValid c → AreOn c.processors events → (n : ℕ) (a : Object) → a.number ≤ length c.alarms →
    IsAlarmReported c (take n (answers numbered (booted c) events)) (replay numbered (booted c) (take n events)) a
alarms_reported c events valid on n a here =
    let es : List Event = take n events in
    let ready = ready_at_boot c valid es (prefix_on n c.processors events on) in
    let few : length (booted c).alarms ≤ 32 = rw (ap length (booted_alarms c) ∙ length-map c.alarms resting_alarm) valid.few.alarms in
    subst (λ rs. IsAlarmReported c rs (replay numbered (booted c) es) a) (answers_take n (booted c) events)
    (record {
      left = alarms_timed c es valid (prefix_on n c.processors events on) a here ∙ left_run c valid a nobody_waits (booted c) es (alarm_at_boot c a) ready few (booted_at c a);
      at = ap (λ (y : Alarm). y.assigned) (alarm_run c valid a nobody_waits (booted c) es (alarm_at_boot c a) ready few (booted_at c a));
    })
