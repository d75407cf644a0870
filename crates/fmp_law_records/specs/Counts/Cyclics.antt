-- What is left of the time of a cyclic handler, told along a run by its records.
use Rattle.std.specs.Prelude.{◌≡◌, ℕ, ◌+◌, Bool, false, ◌&&◌, Option, None, Some, List, [], ◌∷◌, if◌then◌else◌, map}
use Rattle.fmp_codes.specs.declared.numbers.Object.{Object}
use Rattle.fmp_codes.specs.declared.calls.Call.TheVariants as call
use Rattle.fmp_codes.specs.declared.calls.TimeCall.TheVariants as time
use Rattle.fmp_codes.specs.declared.records.Event.{Event}
use Rattle.fmp_codes.specs.declared.records.Event.TheVariants as event
use Rattle.fmp_codes.specs.declared.records.Record.{Record}
use Rattle.fmp_setup.specs.declared.setup.CyclicSetup.{CyclicSetup}
use Rattle.fmp_setup.specs.Setup.{Setup}
use Rattle.fmp_rules.specs.World.{World, item}
use Rattle.fmp_rules.specs.Objects.{cyclic}
use Rattle.fmp_rules.specs.Arrivals.{State, numbered}
use Rattle.fmp_rules.specs.Step.{step, replay}
use Rattle.fmp_rules.specs.Boot.{booted}
use Rattle.fmp_law_balance.specs.Accepted.{is_accepted, names}
use Rattle.fmp_law_balance.specs.Waits.Waits.{is_tick_for}
use Rattle.fmp_law_records.specs.Counts.Alarms.{without_tick}

-- the event is a call that starts this cyclic handler
abbrev pub starts_cyclic : Object → Event → Bool
starts_cyclic c (event.Call p (call.Time (time.StaCyc id))) = names c id
starts_cyclic c (event.Call p (call.Time (time.MstaCyc id q))) = names c id
starts_cyclic c other = false

-- it is a call that stops it
abbrev pub stops_cyclic : Object → Event → Bool
stops_cyclic c (event.Call p (call.Time (time.StpCyc id))) = names c id
stops_cyclic c other = false

-- what is left of the cyclic handler c after a step from w with this record, where so much was left before: where it is started
-- one tick more than its phase, where it is stopped none, and each tick that counts for it takes one, the last of which begins
-- its period anew
abbrev pub cyclic_left_after : {Q : Type 0} → World Q → Object → Record → Option ℕ → Option ℕ
cyclic_left_after w c r left =
    if starts_cyclic c r.event && is_accepted r.answer then Some ((cyclic w c).setup.phase + 1)
    else if stops_cyclic c r.event && is_accepted r.answer then None
    else if is_tick_for w.timer (cyclic w c).assigned r.answer r.event then without_tick (Some (cyclic w c).setup.period) left
    else left

-- what is left of it after these events
abbrev pub cyclic_left_by : Object → State → List Event → Option ℕ → Option ℕ
cyclic_left_by c m [] left = left
cyclic_left_by c m (e ∷ es) left = cyclic_left_by c (step numbered m e).0 es (cyclic_left_after m c (step numbered m e).1 left)

-- what is left of it at boot: where it is started then, one tick more than its phase
abbrev pub left_at_boot : CyclicSetup → Option ℕ
left_at_boot s = if s.starts then Some (s.phase + 1) else None

abbrev pub cyclic_at_boot : Setup → Object → Option ℕ
cyclic_at_boot s c = item None (map left_at_boot s.cyclics) c.number

-- after these events the machine's count of the cyclic handler c is what the records say
abbrev pub IsCyclicTimed : Setup → List Event → Object → Type 0
IsCyclicTimed s events c = item None (replay numbered (booted s) events).cyclics_left c.number ≡ cyclic_left_by c (booted s) events (cyclic_at_boot s c)
