-- Which handlers become due at a tick.
use Rattle.std.specs.Prelude.{◌≡◌, Bool, ◌&&◌, None, List, [], ◌++◌, filter, length, map}
use Rattle.std.specs.List.{range_with_len}
use Rattle.fmp_codes.specs.Numbers.{as_object}
use Rattle.fmp_codes.specs.declared.numbers.Proc.{Proc}
use Rattle.fmp_codes.specs.declared.numbers.Object.{Object}
use Rattle.fmp_codes.specs.declared.records.Answer.TheVariants as answer
use Rattle.fmp_codes.specs.declared.records.Event.{Event}
use Rattle.fmp_codes.specs.declared.records.Event.TheVariants as event
use Rattle.fmp_codes.specs.declared.records.Runner.{Runner}
use Rattle.fmp_codes.specs.declared.records.Runner.TheVariants as runner
use Rattle.fmp_setup.specs.Setup.{Setup, counts_for}
use Rattle.fmp_rules.specs.World.{item}
use Rattle.fmp_rules.specs.Objects.{cyclic, alarm}
use Rattle.fmp_rules.specs.Arrivals.{numbered}
use Rattle.fmp_rules.specs.Step.{step, replay}
use Rattle.fmp_rules.specs.Boot.{booted}
use Rattle.fmp_law_records.specs.Counts.Alarms.{alarm_left_by, is_last}
use Rattle.fmp_law_records.specs.Counts.Cyclics.{cyclic_left_by, cyclic_at_boot}

-- the numbers of so many objects that pass a test, in their order
abbrev pub by_number : {X : Type 0} → List X → (Object → Bool) → List Object
by_number xs test = filter test (map as_object (range_with_len 1 (length xs)))

-- after the handlers that were due these alarms become due, and then these cyclic handlers
abbrev pub BecomeDue : List Runner → List Runner → List Object → List Object → Type 0
BecomeDue before after alarms cyclics = after ≡ before ++ map runner.Alarm alarms ++ map runner.Cyclic cyclics

-- at a tick that is taken on p after these events, after what was due there become due the alarms and then the cyclic handlers,
-- each by number, of which the records leave one tick and for which this one counts
abbrev pub FallDue : Setup → List Event → Proc → Type 0
FallDue s events p =
    let m = replay numbered (booted s) events in
    let after = step numbered m (event.Tick p) in
    after.1.answer ≡ answer.Taken →
    BecomeDue (item [] m.due p.number) (item [] after.0.due p.number)
    (by_number m.alarms (λ a. counts_for m.timer p (alarm m a).assigned && is_last (alarm_left_by a (booted s) events None)))
    (by_number m.cyclics (λ c. counts_for m.timer p (cyclic m c).assigned && is_last (cyclic_left_by c (booted s) events (cyclic_at_boot s c))))
