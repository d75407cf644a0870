-- believed: see docs/PROOF.md, "What has to be believed"
-- The calls on cyclic handlers and alarms.
use Rattle.std.specs.Prelude.{ℕ, ℤ, ◌+◌, Option, None, Some, unwrap_or}
use Rattle.fmp_codes.specs.Numbers.{as_proc, as_object}
use Rattle.fmp_codes.specs.declared.numbers.Proc.{Proc}
use Rattle.fmp_codes.specs.declared.numbers.Object.{Object}
use Rattle.fmp_codes.specs.declared.calls.TimeCall.{TimeCall}
use Rattle.fmp_codes.specs.declared.calls.TimeCall.TheVariants as call
use Rattle.fmp_rules.specs.World.{World, with_item}
use Rattle.fmp_rules.specs.Objects.{cyclic, alarm}
use Rattle.fmp_rules.specs.Rows.{Row, on_object, no_errors, in_handler, at_processor, done}
use Rattle.fmp_rules.specs.Arguments.{object_named, processor_or_initial, is_time, ticks_of}

module _ {Q : Type 0} where
  -- a cyclic handler has so many ticks left, or is stopped, and so has an alarm
  abbrev pub with_cyclic_left : World Q → Object → Option ℕ → World Q
  with_cyclic_left w c left = record w { cyclics_left = with_item w.cyclics_left c.number left }

  abbrev pub with_alarm_left : World Q → Object → Option ℕ → World Q
  with_alarm_left w a left = record w { alarms_left = with_item w.alarms_left a.number left }

  -- a cyclic handler is assigned to a processor, and so is an alarm
  abbrev pub with_cyclic_at : World Q → Object → Proc → World Q
  with_cyclic_at w c p = record w { cyclics = with_item w.cyclics c.number (record (cyclic w c) { assigned = p }) }

  abbrev pub with_alarm_at : World Q → Object → Proc → World Q
  with_alarm_at w a p = record w { alarms = with_item w.alarms a.number (record (alarm w a) { assigned = p }) }

  -- a cyclic handler begins with its phase, also if it is started
  abbrev pub begun : World Q → Object → World Q
  begun w c = with_cyclic_left w c (Some ((cyclic w c).setup.phase + 1))

module _ {Q : Type 0} (w : World Q) where
  unfoldable pub sta_cyc : ℤ → Row Q
  sta_cyc id = on_object (object_named w.cyclics id) no_errors (λ c. (begun w c, done))

  unfoldable pub msta_cyc : ℤ → ℤ → Row Q
  msta_cyc id p =
      let class = (cyclic w (unwrap_or (object_named w.cyclics id) (as_object 1))).setup.class in
      let to = processor_or_initial w class p in
      at_processor class to (on_object (object_named w.cyclics id) no_errors (λ c. (begun (with_cyclic_at w c (unwrap_or to (as_proc 1))) c, done)))

  -- also if it is stopped
  unfoldable pub stp_cyc : ℤ → Row Q
  stp_cyc id = on_object (object_named w.cyclics id) no_errors (λ c. (with_cyclic_left w c None, done))

  -- an alarm begins with a time, also if it is started
  unfoldable pub sta_alm : ℤ → ℤ → Row Q
  sta_alm id time =
      record (on_object (object_named w.alarms id) no_errors (λ a. (with_alarm_left w a (ticks_of time), done))) { proper = is_time time }

  unfoldable pub msta_alm : ℤ → ℤ → ℤ → Row Q
  msta_alm id time p =
      let class = (alarm w (unwrap_or (object_named w.alarms id) (as_object 1))).setup.class in
      let to = processor_or_initial w class p in
      at_processor class to (record (
      on_object (object_named w.alarms id) no_errors (λ a. (with_alarm_left (with_alarm_at w a (unwrap_or to (as_proc 1))) a (ticks_of time), done)))
      { proper = is_time time })

  -- also if it is stopped
  unfoldable pub stp_alm : ℤ → Row Q
  stp_alm id = on_object (object_named w.alarms id) no_errors (λ a. (with_alarm_left w a None, done))

  abbrev pub time_row : TimeCall → Row Q
  time_row (call.StaCyc id) = sta_cyc id
  time_row (call.MstaCyc id p) = msta_cyc id p
  time_row (call.StpCyc id) = stp_cyc id
  time_row (call.StaAlm id time) = sta_alm id time
  time_row (call.IstaAlm id time) = in_handler (sta_alm id time)
  time_row (call.MstaAlm id time p) = msta_alm id time p
  time_row (call.ImstaAlm id time p) = in_handler (msta_alm id time p)
  time_row (call.StpAlm id) = stp_alm id
  time_row (call.IstpAlm id) = in_handler (stp_alm id)
