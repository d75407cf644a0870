-- What is done with the machine of a handle.
use Rattle.std.specs.Prelude.{◌≡◌, ◌⊎◌, ℕ, ℤ, pos, List, Option, None, Some, Result, Ok, Err, is_some, length, slice_get, if◌then◌else◌}
use Rattle.fmp_codes.specs.declared.numbers.Proc.{Proc}
use Rattle.fmp_codes.specs.declared.records.Event.{Event}
use Rattle.fmp_codes.specs.declared.records.Release.{Release}
use Rattle.fmp_config.specs.Faults.{IsFirstFault}
use Rattle.fmp_config.specs.declared.fault.ConfigFault.{ConfigFault}
use Rattle.fmp_kernel_machine.specs.Alike.{AreAlike}
use Rattle.fmp_setup.specs.Setup.{Setup}
use Rattle.fmp_session.specs.Refusals.{number_of}
use Rattle.fmp_session.specs.Sessions.{IsAt, allowed}
use Rattle.fmp_session.specs.declared.refused.Refused.{Refused}
use Rattle.fmp_session.specs.declared.refused.Refused.TheVariants as refused
use Rattle.fmp_session.specs.declared.session.Session.{Session}
use Rattle.fmp_c.specs.Report.{kind_number}
use Rattle.fmp_c.specs.declared.report.Fault.{Fault}

-- a handle has the machine of this configuration after these events
abbrev pub Holds : Option Session → Setup → List Event → Type 0
Holds None config events = ⊥
Holds (Some s) config events = IsAt s config events

-- 0 where something was done, else why not
abbrev pub outcome : {X : Type 0} → Result X Refused → ℤ
outcome (Ok x) = pos 0
outcome (Err why) = number_of why

-- that of a step
abbrev pub step_outcome : Option Session → Result Event Refused → ℤ
step_outcome None event = number_of refused.NoMachine
step_outcome (Some s) (Err why) = number_of why
step_outcome (Some s) (Ok event) = outcome (allowed (length s.kernel.processors) s.count event)

-- a text with a fault, or want of memory, as it is told
abbrev pub TellsFault : List ℕ → Fault → Type 0
TellsFault text report = (f : ConfigFault) × (IsFirstFault text f × (report.kind ≡ kind_number f.kind) × (report.line ≡ f.line))

-- what a copy of a session into the machine of a handle answers: it is made where both are of one configuration
abbrev pub IsCopied : Option Session → Session → ℤ → Type 0
IsCopied None from answer = answer ≡ number_of refused.NoMachine
IsCopied (Some into) from answer =
    ((answer ≡ pos 0) × (into.config ≡ from.config) × AreAlike into.kernel from.kernel)
    ⊎ ((answer ≡ number_of refused.Different) × ¬ ((into.config ≡ from.config) × AreAlike into.kernel from.kernel))

-- the end of a wait that is told at a place, and the processor that is asked there
abbrev pub release_at : Option Session → ℕ → Option Release
release_at None place = None
release_at (Some s) place = if s.is_reported then slice_get s.report.releases place else None

abbrev pub release_outcome : Option Session → ℕ → ℤ
release_outcome None place = number_of refused.NoMachine
release_outcome held place = if is_some (release_at held place) then pos 0 else number_of refused.Nothing

abbrev pub request_at : Option Session → ℕ → Option Proc
request_at None place = None
request_at (Some s) place = if s.is_reported then slice_get s.report.requests place else None

abbrev pub number_asked : Option Proc → ℕ
number_asked None = 0
number_asked (Some p) = p.number
