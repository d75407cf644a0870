-- Where alarms and cyclic handlers are assigned, and what is left of their time, told by records alone.
use Rattle.std.specs.Prelude.{◌≡◌, ℕ, ◌+◌, ℤ, pos, ◌&&◌, ◌==◌, Option, None, Some, List, [], ◌∷◌, if◌then◌else◌, slice_index_or, ◌-◌, option_map}
use Rattle.fmp_law_balance.specs.Words.{natural_in}
use Rattle.fmp_codes.specs.Numbers.{as_proc}
use Rattle.fmp_codes.specs.declared.numbers.Proc.{Proc}
use Rattle.fmp_codes.specs.declared.numbers.Object.{Object}
use Rattle.fmp_codes.specs.declared.calls.Call.TheVariants as call
use Rattle.fmp_codes.specs.declared.calls.TimeCall.TheVariants as time
use Rattle.fmp_codes.specs.declared.records.Event.{Event}
use Rattle.fmp_codes.specs.declared.records.Event.TheVariants as event
use Rattle.fmp_codes.specs.declared.records.Record.{Record}
use Rattle.fmp_setup.specs.declared.setup.Class.{Class}
use Rattle.fmp_setup.specs.Setup.{Setup, no_alarm, no_cyclic}
use Rattle.fmp_rules.specs.World.{World, item}
use Rattle.fmp_rules.specs.Objects.{alarm, cyclic}
use Rattle.fmp_law_balance.specs.Accepted.{is_accepted, names}
use Rattle.fmp_law_balance.specs.Waits.Waits.{is_tick_for}
use Rattle.fmp_law_records.specs.Counts.Alarms.{starts_alarm, alarm_time, stops_alarm, without_tick}
use Rattle.fmp_law_records.specs.Counts.Cyclics.{starts_cyclic, stops_cyclic}

-- what the records say of a handler: the ticks left, or none where it is stopped, and the processor to which it is assigned
pub record HandlerReported : Type 0 where
  pub left : Option ℕ
  pub at : Proc

-- the processor to which a call takes this alarm, or this cyclic handler
abbrev pub takes_alarm : Object → Event → Option ℤ
takes_alarm a (event.Call p (call.Time (time.MstaAlm id after q))) = if names a id then Some q else None
takes_alarm a (event.Call p (call.Time (time.ImstaAlm id after q))) = if names a id then Some q else None
takes_alarm a other = None

abbrev pub takes_cyclic : Object → Event → Option ℤ
takes_cyclic c (event.Call p (call.Time (time.MstaCyc id q))) = if names c id then Some q else None
takes_cyclic c other = None

-- the processor of a handler that was assigned to q, where a call takes it to this one, of which 0 is the initial one of its class
abbrev pub taken_to : Class → Option ℤ → Proc → Proc
taken_to class (Some (pos n)) q = if n == 0 then class.initial else as_proc n
taken_to class other q = q

-- one tick more than a time
abbrev pub begun_with : ℤ → Option ℕ
begun_with time = option_map (λ n. n + 1) (natural_in time)

abbrev pub alarm_after : Setup → Object → Record → HandlerReported → HandlerReported
alarm_after c a r before = record {
  left = if starts_alarm a r.event && is_accepted r.answer then begun_with (alarm_time r.event)
      else if stops_alarm a r.event && is_accepted r.answer then None
      else if is_tick_for c.timer before.at r.answer r.event then without_tick None before.left
      else before.left;
  at = if is_accepted r.answer then taken_to (slice_index_or c.alarms (a.number - 1) no_alarm).class (takes_alarm a r.event) before.at else before.at;
}

-- after these records of a run from boot
abbrev pub alarm_by : Setup → Object → List Record → HandlerReported → HandlerReported
alarm_by c a [] before = before
alarm_by c a (r ∷ rs) before = alarm_by c a rs (alarm_after c a r before)

abbrev pub alarm_at_boot : Setup → Object → HandlerReported
alarm_at_boot c a = record { left = None; at = (slice_index_or c.alarms (a.number - 1) no_alarm).class.initial }

-- an alarm is where the records say, and so much of its time is left
pub record IsAlarmReported {Q : Type 0} (c : Setup) (records : List Record) (w : World Q) (a : Object) : Type 0 where
  pub left : item None w.alarms_left a.number ≡ (alarm_by c a records (alarm_at_boot c a)).left
  pub at : (alarm w a).assigned ≡ (alarm_by c a records (alarm_at_boot c a)).at

abbrev pub cyclic_after : Setup → Object → Record → HandlerReported → HandlerReported
cyclic_after c o r before = let s = slice_index_or c.cyclics (o.number - 1) no_cyclic in record {
  left = if starts_cyclic o r.event && is_accepted r.answer then Some (s.phase + 1)
      else if stops_cyclic o r.event && is_accepted r.answer then None
      else if is_tick_for c.timer before.at r.answer r.event then without_tick (Some s.period) before.left
      else before.left;
  at = if is_accepted r.answer then taken_to s.class (takes_cyclic o r.event) before.at else before.at;
}

-- after these records of a run from boot
abbrev pub cyclic_by : Setup → Object → List Record → HandlerReported → HandlerReported
cyclic_by c o [] before = before
cyclic_by c o (r ∷ rs) before = cyclic_by c o rs (cyclic_after c o r before)

abbrev pub cyclic_reported_at_boot : Setup → Object → HandlerReported
cyclic_reported_at_boot c o = let s = slice_index_or c.cyclics (o.number - 1) no_cyclic in record { left = if s.starts then Some (s.phase + 1) else None; at = s.class.initial }

-- a cyclic handler is where the records say, and so much of its time is left
pub record IsCyclicReported {Q : Type 0} (c : Setup) (records : List Record) (w : World Q) (o : Object) : Type 0 where
  pub left : item None w.cyclics_left o.number ≡ (cyclic_by c o records (cyclic_reported_at_boot c o)).left
  pub at : (cyclic w o).assigned ≡ (cyclic_by c o records (cyclic_reported_at_boot c o)).at
