-- What a page shows: the state between two events, and the ticks so far.
use Rattle.std.specs.Prelude.{ℕ, ◌+◌, List, replicate}
use Rattle.fmp_codes.specs.declared.numbers.Proc.{Proc}
use Rattle.fmp_codes.specs.declared.records.Answer.{Answer}
use Rattle.fmp_codes.specs.declared.records.Answer.TheVariants as answers
use Rattle.fmp_codes.specs.declared.records.Event.{Event}
use Rattle.fmp_codes.specs.declared.records.Event.TheVariants as events
use Rattle.fmp_setup.specs.Setup.{Setup}
use Rattle.fmp_setup.specs.declared.setup.Timer.{Timer}
use Rattle.fmp_setup.specs.declared.setup.Timer.TheVariants as timers
use Rattle.fmp_rules.specs.Arrivals.{State, numbered}
use Rattle.fmp_rules.specs.Boot.{booted}
use Rattle.fmp_rules.specs.Step.{step}
use Rattle.fmp_rules.specs.World.{item, with_item}

pub record Moment : Type 0 where
  pub state : State
  pub events : ℕ  -- how many there were so far
  pub ticks : List ℕ  -- for each processor, how many ticks it took so far

abbrev pub at_boot : Setup → Moment
at_boot c = record { state = booted c; events = 0; ticks = replicate 8 0 }

-- the ticks after an event that was answered so
abbrev pub ticked : List ℕ → Event → Answer → List ℕ
ticked ticks (events.Tick p) answers.Taken = with_item ticks p.number (item 0 ticks p.number + 1)
ticked ticks e answer = ticks

-- the moment after an event
abbrev pub following : Moment → Event → Moment
following m e = let did = step numbered m.state e in record { state = did.0; events = m.events + 1; ticks = ticked m.ticks e did.1.answer }

-- the processor whose ticks count for what is assigned to this one
abbrev pub clock_of : Timer → Proc → Proc
clock_of timers.Local p = p
clock_of (timers.Global master) p = master

-- the ticks so far that counted for what is assigned to this processor
abbrev pub ticks_for : Moment → Proc → ℕ
ticks_for m p = item 0 m.ticks (clock_of m.state.timer p).number
