-- Histories: the records of a run from the beginning.
use Rattle.std.specs.Prelude.{◌≡◌, ℕ, ◌+◌, ◌<◌, Bool, true, not, ◌&&◌, is_none, List, map}
use Rattle.fmp_codes.specs.Numbers.{as_proc}
use Rattle.fmp_codes.specs.Records.{AreOn}
use Rattle.fmp_codes.specs.declared.numbers.Proc.{Proc}
use Rattle.fmp_codes.specs.declared.records.Event.{Event}
use Rattle.fmp_codes.specs.declared.records.Record.{Record}
use Rattle.fmp_setup.specs.Setup.{Setup}
use Rattle.fmp_rules.specs.World.{processor, runner_of}
use Rattle.fmp_rules.specs.Arrivals.{State, numbered}
use Rattle.fmp_rules.specs.Step.{replay, answers}
use Rattle.fmp_rules.specs.Boot.{booted}

abbrev pub events_of : List Record → List Event
events_of h = map (λ r. r.event) h

-- the state after a history
unfoldable pub state_after : Setup → List Record → State
state_after c h = replay numbered (booted c) (events_of h)

-- a history is what the machine answers to its own events, and these are on processors of the machine
pub record IsRunOf (c : Setup) (h : List Record) : Type 0 where
  pub answers : h ≡ answers numbered (booted c) (events_of h)
  pub on : AreOn c.processors (events_of h)

-- on a processor no handler is due, no task runs and no request is pending
abbrev pub is_idle : State → Proc → Bool
is_idle m p = is_none (runner_of m p) && not (processor m p).latch

-- each of the processors 1 to n is idle
abbrev pub IsQuiet : ℕ → State → Type 0
IsQuiet n m = (i : ℕ) → i < n → is_idle m (as_proc (i + 1)) ≡ true
