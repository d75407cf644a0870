-- The machine of a configuration after a list of events.
use Rattle.std.specs.Prelude.{◌≡◌, ℕ, ◌^◌, ◌-◌, ◌==◌, true, List, [], ◌∷◌, ◌++◌, Option, None, Some, Result, Ok, Err, length, drop, nat_lt, if◌then◌else◌}
use Rattle.fmp_codes.specs.Records.{processor_of}
use Rattle.fmp_codes.specs.declared.records.Event.{Event}
use Rattle.fmp_codes.specs.declared.records.Record.{Record}
use Rattle.fmp_setup.specs.Setup.{Setup}
use Rattle.fmp_rules.specs.Boot.{booted}
use Rattle.fmp_rules.specs.Arrivals.{State, numbered}
use Rattle.fmp_rules.specs.Step.{replay, step}
use Rattle.fmp_law_lists.specs.Stands.{Stands}
use Rattle.fmp_text.specs.declared.fault.TextKind.{TextKind}
use Rattle.fmp_session.specs.declared.refused.Refused.{Refused}
use Rattle.fmp_session.specs.declared.refused.Refused.TheVariants as refused
use Rattle.fmp_session.specs.declared.session.Session.{Session}

-- the state of the model after these events
abbrev pub state_after : Setup → List Event → State
state_after config events = replay numbered (booted config) events

-- what the model tells of one event more
abbrev pub record_after : Setup → List Event → Event → Record
record_after config events event = (step numbered (state_after config events) event).1

-- what the model tells of the last of these events, from a state on
abbrev pub last_from : State → List Event → Option Record
last_from m [] = None
last_from m (event ∷ []) = Some (step numbered m event).1
last_from m (event ∷ other ∷ events) = last_from (step numbered m event).0 (other ∷ events)

-- what the model tells of the last of these events, if there is one
abbrev pub last_record : Setup → List Event → Option Record
last_record config events = last_from (booted config) events

-- A session is the machine of this configuration after these events. Where it keeps a record, that is the last one's.
pub record IsAt (s : Session) (c : Setup) (events : List Event) : Type 0 where
  pub config : s.config ≡ c
  pub stands : Stands s.kernel (state_after c events)
  pub count : s.count ≡ length events
  pub report : s.is_reported ≡ true → last_record c events ≡ Some s.report

-- the greatest number of events that a session counts
abbrev pub most_counted : ℕ
most_counted = 2 ^ 32 - 1

-- whether a session of so many processors that has answered so many events answers another one
abbrev pub allowed : ℕ → ℕ → Event → Result (Unit {0}) Refused
allowed processors count event =
    if nat_lt processors (processor_of event).number then Err refused.Processor
    else (if count == most_counted then Err refused.Full else Ok tt)

-- the event of a line, where it has one
abbrev pub one_of : Result (Option Event) TextKind → Result Event Refused
one_of (Ok (Some event)) = Ok event
one_of other = Err refused.Line

-- how many bytes are written into a room, where they fit
abbrev pub placed : List ℕ → List ℕ → Result ℕ Refused
placed bytes room = if nat_lt (length room) (length bytes) then Err refused.Room else Ok (length bytes)

-- a room with these bytes at its beginning
abbrev pub written_over : List ℕ → List ℕ → List ℕ
written_over bytes room = bytes ++ drop (length bytes) room
