-- believed: see docs/PROOF.md, "What has to be believed"
-- What a run over a configuration and events does.
use Rattle.std.specs.Prelude.{◌≡◌, ◌⊎◌, ℕ, List, ◌++◌, take, Some}
use Rattle.fmp_codes.specs.declared.records.Event.{Event}
use Rattle.fmp_law_safety.specs.Runs.{IsSafeThroughout}
use Rattle.fmp_law_lists.specs.Headline.{HeadlineThroughout}
use Rattle.fmp_law_records.specs.Effects.Records.{IsReportedRun}
use Rattle.fmp_text.specs.TextGrammar.{SpellsText}
use Rattle.fmp_text.specs.declared.fault.TextFault.{TextFault}
use Rattle.fmp_text.specs.Events.{IsFirst, IsMemory, Reading, reading_by_line}
use Rattle.fmp_text_feed.specs.Feed.{HasLinesWithin}
use Rattle.fmp_setup.specs.Setup.{Setup}
use Rattle.fmp_rules.specs.Boot.{booted}
use Rattle.fmp_rules.specs.Arrivals.{numbered}
use Rattle.fmp_rules.specs.Step.{answers}
use Rattle.fmp_trace.specs.Lines.{lines_from}
use Rattle.fmp_config_statements.specs.declared.fault.ConfigKind.TheVariants as config_kind
use Rattle.fmp_run_texts.specs.declared.fault.RunFault.{RunFault}
use Rattle.fmp_run_texts.specs.declared.fault.RunFault.TheVariants as run
use Rattle.fmp_run_devices.specs.Devices.{BeginsWith}
use Rattle.fmp_run_texts.specs.Texts.{Answered, SaysConfig}

-- the output was written after old, all of it
abbrev pub IsAnswered : List ℕ → List ℕ → List ℕ → List ℕ → Type 0
IsAnswered config_text event_text old new = (output : List ℕ) × Answered config_text event_text output × (new ≡ old ++ output)

-- the trace of what a machine answers to events
unfoldable pub trace_of : Setup → List Event → List ℕ
trace_of config events = lines_from config.names 1 (answers numbered (booted config) events)

-- a way to write what a machine does at events, as by its trace
abbrev pub Writing : Type 0
Writing = Setup → List Event → List ℕ

-- The output is what is written so of the one text's machine over the other's events. Every prefix of these leads to a safe state,
-- and the headline holds there. Each record is as those before it tell.
pub record Written (writing : Writing) (config_text event_text output : List ℕ) : Type 0 where
  pub config : Setup
  pub events : List Event
  pub says : SaysConfig config_text config
  pub lists : SpellsText config.names event_text events
  pub prints : output ≡ writing config events
  pub safe : IsSafeThroughout (booted config) events
  pub headline : HeadlineThroughout config events (answers numbered (booted config) events)
  pub reported : IsReportedRun config events (answers numbered (booted config) events)

-- that was written after old, all of it
abbrev pub IsWritten : Writing → List ℕ → List ℕ → List ℕ → List ℕ → Type 0
IsWritten writing config_text event_text old new = (output : List ℕ) × Written writing config_text event_text output × (new ≡ old ++ output)

-- What is written of the one text's machine over the events of the other, up to its first fault.
pub record Traced (writing : Writing) (config_text event_text output : List ℕ) : Type 0 where
  pub config : Setup
  pub says : SaysConfig config_text config
  pub prints : output ≡ writing config (reading_by_line config.names event_text).events

-- a beginning of that was written after old
abbrev pub IsBegun : Writing → List ℕ → List ℕ → List ℕ → List ℕ → Type 0
IsBegun writing config_text event_text old new = (output : List ℕ) × Traced writing config_text event_text output × BeginsWith old output new

-- what is written of a prefix of the events was written after old, every line of it whole
abbrev pub IsPrefixOut : Writing → Setup → List Event → List ℕ → List ℕ → Type 0
IsPrefixOut writing config events old new = (n : ℕ) × (new ≡ old ++ writing config (take n events))

-- the same of a right configuration. Where there was none yet, nothing was written
abbrev pub IsPrefix : Writing → List ℕ → List ℕ → List ℕ → List ℕ → Type 0
IsPrefix writing config_text event_text old new =
    (new ≡ old) ⊎ ((config : Setup) × SaysConfig config_text config × IsPrefixOut writing config (reading_by_line config.names event_text).events old new)

-- what is written of the events before this fault, which is the text's first one, was written after old
pub record IsOutBefore (writing : Writing) (config : Setup) (reading : Reading) (old new : List ℕ) (fault : TextFault) : Type 0 where
  pub first : reading.fault ≡ Some fault
  pub text : new ≡ old ++ writing config reading.events

-- that, or memory ran out, and what is written of a prefix of the events was
abbrev pub IsStopped : Writing → Setup → Reading → List ℕ → List ℕ → TextFault → Type 0
IsStopped writing config reading old new fault =
    IsOutBefore writing config reading old new fault ⊎ (IsMemory fault × IsPrefixOut writing config reading.events old new)

-- what was written after old, where a run over these texts that writes so ends with this fault
abbrev pub LeavesWritten : Writing → List ℕ → List ℕ → List ℕ → List ℕ → RunFault → Type 0
LeavesWritten writing config_text event_text old new (run.Config fault) = new ≡ old
LeavesWritten writing config_text event_text old new (run.Text fault) =
    (config : Setup) × SaysConfig config_text config × IsStopped writing config (reading_by_line config.names event_text) old new fault
LeavesWritten writing config_text event_text old new run.Write = IsBegun writing config_text event_text old new
LeavesWritten writing config_text event_text old new other = IsPrefix writing config_text event_text old new

-- the same of the trace
abbrev pub LeavesOut : List ℕ → List ℕ → List ℕ → List ℕ → RunFault → Type 0
LeavesOut config_text event_text old new fault = LeavesWritten trace_of config_text event_text old new fault

-- no line of this text has more than 32 KiB
abbrev pub HasShortLines : List ℕ → Type 0
HasShortLines text = HasLinesWithin 32768 text

-- a run ended for want of memory
abbrev pub IsOutOfMemory : RunFault → Type 0
IsOutOfMemory (run.Config fault) = fault.kind ≡ config_kind.Memory
IsOutOfMemory (run.Text fault) = IsMemory fault
IsOutOfMemory run.Memory = Unit {0}
IsOutOfMemory other = ⊥

-- a fault of the events is the first one of their reading, or want of memory
abbrev pub FirstEventFault : Reading → RunFault → Type 0
FirstEventFault reading (run.Text fault) = IsFirst reading fault
FirstEventFault reading other = Unit {0}

-- the same, for the names of a right configuration. That there are too many bytes comes last
abbrev pub FirstTextFault : List ℕ → List ℕ → RunFault → Type 0
FirstTextFault config_text event_text (run.Text fault) =
    (config : Setup) × SaysConfig config_text config × FirstEventFault (reading_by_line config.names event_text) (run.Text fault)
FirstTextFault config_text event_text other = Unit {0}

-- neither text has this fault: memory ran out, or a device failed
abbrev pub IsNoFaultOfText : RunFault → Type 0
IsNoFaultOfText (run.Config fault) = fault.kind ≡ config_kind.Memory
IsNoFaultOfText (run.Text fault) = IsMemory fault
IsNoFaultOfText other = Unit {0}
