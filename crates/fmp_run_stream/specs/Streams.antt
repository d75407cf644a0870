-- What a run that answers each event as it comes has done.
use Rattle.std.specs.Prelude.{◌≡◌, ◌⊎◌, ℕ, Bool, true, false, IsTrue, List, ◌++◌, Option, [], length}
use Rattle.fmp_codes.specs.declared.records.Event.{Event}
use Rattle.fmp_text.specs.Events.{IsMemory, Reading, faultless, with_events}
use Rattle.fmp_text_feed.specs.Feed.{ahead}
use Rattle.fmp_setup.specs.Setup.{Setup}
use Rattle.fmp_rules.specs.Boot.{booted}
use Rattle.fmp_rules.specs.Arrivals.{numbered}
use Rattle.fmp_rules.specs.Step.{replay}
use Rattle.fmp_law_lists.specs.Stands.{Stands}
use Rattle.fmp_run_texts.specs.declared.fault.RunFault.{RunFault}
use Rattle.fmp_run_texts.specs.declared.fault.RunFault.TheVariants as run
use Rattle.fmp_run_stream.specs.declared.stream.Answering.{Answering}
use Rattle.fmp_run_stream.specs.declared.stream.Detail.{Detail}
use Rattle.fmp_run_stream.specs.declared.stream.Detail.TheVariants as detail
use Rattle.fmp_run_stream.specs.declared.stream.Unanswered.{Unanswered}
use Rattle.fmp_run_stream.specs.declared.stream.Unanswered.TheVariants as unanswered
use Rattle.fmp_run_devices.specs.Devices.{BeginsWith, IsKnown, bytes_of}
use Rattle.fmp_run_stream.specs.Runs.{FirstEventFault, HasShortLines, IsOutBefore, IsPrefixOut}
use Rattle.fmp_run_stream.specs.Details.{detail_of, report_in}

-- The room that a run takes before it reads an event is enough for all that it tells: no states, and no line of the text is long.
pub record IsAmple (d : Detail) (text : List ℕ) : Type 0 where
  pub lines : d ≡ detail.Line
  pub short : HasShortLines text

-- the fault of a run whose next event is not answered
abbrev pub fault_of : Unanswered → RunFault
fault_of (unanswered.Text fault) = run.Text fault
fault_of unanswered.Memory = run.Memory

-- what is told and not passed on yet
abbrev pub pending : Answering → List ℕ
pending a = a.entries.items ++ a.lines

-- The events given so far were answered, and what is ahead gives the others, where these bytes of the text are still to come.
-- What is out is told, or it is not.
pub record Answers (d : Detail) (tells : Bool) (config : Setup) (event_text : List ℕ) (whole : Reading) (old : List ℕ) (a : Answering)
    (out remaining : List ℕ) : Type 0 where
  pub given : List Event
  pub detail : a.detail ≡ report_in d config.names (replay numbered (booted config) given)
  pub reading : whole ≡ with_events given (ahead config.names a.feed remaining)
  pub short : a.feed.dropped ≡ false → HasShortLines event_text → HasShortLines (a.feed.rest ++ remaining)
  pub stands : Stands a.kernel (replay numbered (booted config) given)
  pub count : a.count ≡ length given
  pub text : IsTrue tells → out ≡ old ++ detail_of d config given

-- the same, where all that is told was passed on: what is out is what was written
pub record Streams (d : Detail) (tells : Bool) (config : Setup) (event_text : List ℕ) (whole : Reading) (old : List ℕ) (a : Answering)
    (written remaining : List ℕ) : Type 0 where
  pub report : Answers d tells config event_text whole old a written remaining
  pub passed : pending a ≡ []

-- want of memory after what is written of a prefix of the events, which is only where the room that was taken is not enough
abbrev pub IsOutOfRoom : Detail → Setup → List ℕ → Reading → List ℕ → List ℕ → Type 0
IsOutOfRoom d config text whole old new = IsPrefixOut (detail_of d) config whole.events old new × ¬ (IsAmple d text)

-- what was written after old, where a run over the events of this text ends with this fault
abbrev pub Leaves : Detail → Setup → List ℕ → Reading → List ℕ → List ℕ → RunFault → Type 0
Leaves d config text whole old new (run.Config fault) = Unit {0}
Leaves d config text whole old new (run.Text fault) = IsOutBefore (detail_of d) config whole old new fault ⊎ (IsMemory fault × IsOutOfRoom d config text whole old new)
Leaves d config text whole old new run.Write = BeginsWith old (detail_of d config whole.events) new
Leaves d config text whole old new run.Memory = (new ≡ old) ⊎ IsOutOfRoom d config text whole old new
Leaves d config text whole old new other = IsPrefixOut (detail_of d) config whole.events old new

-- whatever a run has done before, it has done so after a call that answered events: before and after are what was written
abbrev pub StreamsOn : Setup → Answering → Answering → Option (List ℕ) → Option (List ℕ) → Type 0
StreamsOn config a b before after =
    (d : Detail) (tells : Bool) (text : List ℕ) (whole : Reading) (old remaining : List ℕ) → (IsTrue tells → IsKnown before)
    → Streams d tells config text whole old a (bytes_of before) remaining → Streams d tells config text whole old b (bytes_of after) remaining

-- whatever a run has done before, it has answered events since: what is pending now is out where what was pending before was
abbrev pub AnswersOn : Setup → Answering → Answering → Type 0
AnswersOn config a b =
    (d : Detail) (tells : Bool) (text : List ℕ) (whole : Reading) (old written remaining : List ℕ)
    → Answers d tells config text whole old a (written ++ pending a) remaining → Answers d tells config text whole old b (written ++ pending b) remaining

-- of what was out and pending before, some more is out now, and the rest is pending
abbrev pub PassesSome : List ℕ → List ℕ → List ℕ → List ℕ → Type 0
PassesSome before held after holds = (made : List ℕ) × (after ≡ before ++ made) × (after ++ holds ≡ before ++ held)

-- the same of a run that passed on all that it told before, where what is pending now need not be passed on
abbrev pub GathersOn : Setup → Answering → Answering → Option (List ℕ) → Option (List ℕ) → Type 0
GathersOn config a b before after =
    (d : Detail) (tells : Bool) (text : List ℕ) (whole : Reading) (old remaining : List ℕ) → (IsTrue tells → IsKnown before)
    → Streams d tells config text whole old a (bytes_of before) remaining → Answers d tells config text whole old b (bytes_of after ++ pending b) remaining

-- what was written since, and what is pending now, is a beginning of what is told of all events
abbrev pub BeginsFrom : Setup → Answering → Answering → List ℕ → List ℕ → Type 0
BeginsFrom config a b before after =
    (d : Detail) (text : List ℕ) (whole : Reading) (old remaining : List ℕ) → Streams d true config text whole old a before remaining
    → ((made : List ℕ) × (after ≡ old ++ made)) × BeginsWith old (detail_of d config whole.events) (after ++ pending b)

-- a fault of the events with which such a call ended is the first one
abbrev pub FirstFrom : Setup → Answering → List ℕ → RunFault → Type 0
FirstFrom config a before fault =
    (d : Detail) (text : List ℕ) (whole : Reading) (old remaining : List ℕ) → Streams d false config text whole old a before remaining → FirstEventFault whole fault

-- what was written where such a call ended with this fault
abbrev pub LeavesFrom : Setup → Answering → List ℕ → List ℕ → RunFault → Type 0
LeavesFrom config a before after fault =
    (d : Detail) (text : List ℕ) (whole : Reading) (old remaining : List ℕ) → Streams d true config text whole old a before remaining
    → Leaves d config text whole old after fault

-- the text has no fault, and what is told of all its events was written after old
pub record IsAllOut (d : Detail) (config : Setup) (whole : Reading) (old new : List ℕ) : Type 0 where
  pub given : List Event
  pub reading : whole ≡ faultless given
  pub text : new ≡ old ++ detail_of d config given
