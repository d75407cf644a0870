-- What is left of the time of an alarm, told along a run by its records.
use Rattle.std.specs.Prelude.{◌≡◌, ◌↔◌, ℕ, ◌+◌, ◌-◌, ℤ, pos, Bool, true, false, ◌&&◌, ◌==◌, Option, None, Some, List, [], ◌∷◌, ◌++◌, if◌then◌else◌}
use Rattle.fmp_codes.specs.declared.numbers.Object.{Object}
use Rattle.fmp_codes.specs.declared.calls.Call.TheVariants as call
use Rattle.fmp_codes.specs.declared.calls.TimeCall.TheVariants as time
use Rattle.fmp_codes.specs.declared.records.Event.{Event}
use Rattle.fmp_codes.specs.declared.records.Event.TheVariants as event
use Rattle.fmp_codes.specs.declared.records.Record.{Record}
use Rattle.fmp_setup.specs.Setup.{Setup}
use Rattle.fmp_rules.specs.World.{World, item}
use Rattle.fmp_rules.specs.Objects.{alarm}
use Rattle.fmp_rules.specs.Arrivals.{State, numbered}
use Rattle.fmp_rules.specs.Step.{step, replay}
use Rattle.fmp_rules.specs.Boot.{booted}
use Rattle.fmp_law_balance.specs.Accepted.{is_accepted, names, one_if}
use Rattle.fmp_law_balance.specs.Waits.Meanings.{ticks_in}
use Rattle.fmp_law_balance.specs.Waits.Waits.{is_tick_for}

-- the event is a call that starts this alarm
abbrev pub starts_alarm : Object → Event → Bool
starts_alarm a (event.Call p (call.Time (time.StaAlm id after))) = names a id
starts_alarm a (event.Call p (call.Time (time.IstaAlm id after))) = names a id
starts_alarm a (event.Call p (call.Time (time.MstaAlm id after q))) = names a id
starts_alarm a (event.Call p (call.Time (time.ImstaAlm id after q))) = names a id
starts_alarm a other = false

-- the time with which a call starts an alarm
abbrev pub alarm_time : Event → ℤ
alarm_time (event.Call p (call.Time (time.StaAlm id after))) = after
alarm_time (event.Call p (call.Time (time.IstaAlm id after))) = after
alarm_time (event.Call p (call.Time (time.MstaAlm id after q))) = after
alarm_time (event.Call p (call.Time (time.ImstaAlm id after q))) = after
alarm_time other = pos 0

-- the event is a call that stops this alarm
abbrev pub stops_alarm : Object → Event → Bool
stops_alarm a (event.Call p (call.Time (time.StpAlm id))) = names a id
stops_alarm a (event.Call p (call.Time (time.IstpAlm id))) = names a id
stops_alarm a other = false

-- one tick less, and after the last one this is left
abbrev pub without_tick : Option ℕ → Option ℕ → Option ℕ
without_tick next None = None
without_tick next (Some n) = if n == 1 then next else Some (n - 1)

-- what is left of the alarm a after a step from w with this record, where so much was left before: where it is started one tick
-- more than its time, where it is stopped none, and each tick that counts for it takes one, the last of which stops it
abbrev pub alarm_left_after : {Q : Type 0} → World Q → Object → Record → Option ℕ → Option ℕ
alarm_left_after w a r left =
    if starts_alarm a r.event && is_accepted r.answer then ticks_in (alarm_time r.event)
    else if stops_alarm a r.event && is_accepted r.answer then None
    else if is_tick_for w.timer (alarm w a).assigned r.answer r.event then without_tick None left
    else left

-- what is left of it after these events
abbrev pub alarm_left_by : Object → State → List Event → Option ℕ → Option ℕ
alarm_left_by a m [] left = left
alarm_left_by a m (e ∷ es) left = alarm_left_by a (step numbered m e).0 es (alarm_left_after m a (step numbered m e).1 left)

-- after these events the machine's count of the alarm a is what the records say
abbrev pub IsAlarmTimed : Setup → List Event → Object → Type 0
IsAlarmTimed c events a = item None (replay numbered (booted c) events).alarms_left a.number ≡ alarm_left_by a (booted c) events None

-- one tick is left
abbrev pub is_last : Option ℕ → Bool
is_last None = false
is_last (Some n) = n == 1

-- how many of the ticks among these events count for the alarm a
abbrev pub ticks_for_alarm : Object → State → List Event → ℕ
ticks_for_alarm a m [] = 0
ticks_for_alarm a m (e ∷ es) =
    let next = step numbered m e in one_if (is_tick_for m.timer (alarm m a).assigned next.1.answer next.1.event) + ticks_for_alarm a next.0 es

-- these events neither start nor stop it
abbrev pub LeaveAlarm : Object → State → List Event → Type 0
LeaveAlarm a m [] = Unit {0}
LeaveAlarm a m (e ∷ es) =
    let next = step numbered m e in
    ((starts_alarm a next.1.event && is_accepted next.1.answer) ≡ false) × ((stops_alarm a next.1.event && is_accepted next.1.answer) ≡ false) × LeaveAlarm a next.0 es

-- Where e started the alarm a with a time of n ticks, after earlier events, and no later one starts or stops it, its last tick is
-- left just where n ticks counted for it since: it becomes due at its tick n + 1.
abbrev pub RingsAtLastTick : Setup → List Event → Event → List Event → Object → ℕ → Type 0
RingsAtLastTick c earlier e later a n =
    let begun = step numbered (replay numbered (booted c) earlier) e in
    (starts_alarm a begun.1.event && is_accepted begun.1.answer) ≡ true → alarm_time begun.1.event ≡ pos n → LeaveAlarm a begun.0 later →
    (is_last (alarm_left_by a (booted c) (earlier ++ e ∷ later) None) ≡ true) ↔ (ticks_for_alarm a begun.0 later ≡ n)
