-- What a run that reports where a trace differs does.
use Rattle.std.specs.Prelude.{◌≡◌, ℕ, List, [], ◌++◌, Result, IfOk, codes}
use Rattle.fmp_setup.specs.Setup.{Setup}
use Rattle.fmp_trace_check.specs.declared.checking.Verdict.{Verdict}
use Rattle.fmp_trace_check.specs.declared.checking.Verdict.TheVariants.{Yes, No}
use Rattle.fmp_trace_check.specs.declared.comparing.Comparison.{Comparison}
use Rattle.fmp_trace_check.specs.declared.comparing.Shown.{Shown}
use Rattle.fmp_trace_check.specs.declared.comparing.Shown.TheVariants.{First, Each}
use Rattle.fmp_trace_check.specs.Checking.{Judges}
use Rattle.fmp_trace_check.specs.Differences.{Contrasts}
use Rattle.fmp_codes.specs.declared.records.Record.{Record}
use Rattle.fmp_run_texts.specs.declared.fault.RunFault.{RunFault}
use Rattle.fmp_run_texts.specs.declared.fault.RunFault.TheVariants.{Write}
use Rattle.fmp_run_events.specs.Before.{state_before}
use Rattle.fmp_run_devices.specs.Devices.{BeginsWith, IsKnown, bytes_of}
use Rattle.fmp_run_devices.specs.Ends.{Ends, SinkEnd, SourceEnd}
use Rattle.fmp_run_texts.specs.Owed.{WritesOut}
use Rattle.fmp_run_texts.specs.Texts.{SaysConfig}
use Rattle.fmp_run_texts.specs.Verdicts.{verdict_text}

-- what stands before the lines that differ: the verdict, or the header of a unified diff, which an empty one has not
abbrev pub head_text : Shown → Verdict → List ℕ
head_text First verdict = verdict_text verdict
head_text Each Yes = []
head_text Each (No n) = codes "--- trace\n+++ machine\n"

-- what is told of the state of the machine where the first line that differs is shown: the one before it
abbrev pub state_shown : Shown → Setup → List Record → Verdict → List ℕ
state_shown First c records (No n) = state_before c records n
state_shown shown c records verdict = []

-- a text that prints records was held against the answers to their events, and this is told below the verdict
pub record Tells (shown : Shown) (c : Setup) (text : List ℕ) (verdict : Verdict) (report : List ℕ) : Type 0 where
  pub lines : List ℕ
  pub contrasts : Contrasts shown c text verdict lines
  pub tells : report ≡ state_shown shown c contrasts.records verdict ++ lines

-- a trace was compared: the verdict is right, and this is reported below it
pub record IsCompared (shown : Shown) (c : Setup) (text : List ℕ) (found : Comparison) : Type 0 where
  pub judges : Judges c text found.verdict
  pub report : Tells shown c text found.verdict found.lines.items

-- the verdict on a trace and what is told of the line or the lines in which it differs, by the answers of the one text's machine to the events of the other
pub record Compared (shown : Shown) (config_text trace_text : List ℕ) (verdict : Verdict) (lines : List ℕ) : Type 0 where
  pub config : Setup
  pub says : SaysConfig config_text config
  pub judges : Judges config trace_text verdict
  pub report : Tells shown config trace_text verdict lines

-- the report with this verdict was written after old, all of it
abbrev pub IsReported : Shown → List ℕ → List ℕ → List ℕ → List ℕ → Verdict → Type 0
IsReported shown config_text trace_text old new verdict =
    (lines : List ℕ) × Compared shown config_text trace_text verdict lines × (new ≡ old ++ (head_text shown verdict ++ lines))

-- a prefix of the report was written after old
abbrev pub IsReportBegun : Shown → List ℕ → List ℕ → List ℕ → List ℕ → Type 0
IsReportBegun shown config_text trace_text old new =
    (verdict : Verdict) × (lines : List ℕ) × Compared shown config_text trace_text verdict lines × BeginsWith old (head_text shown verdict ++ lines) new

-- what a run that reports where a trace differs gives and writes
pub record WritesReport (shown : Shown) (config trace : Ends SourceEnd) (output : Ends SinkEnd) (result : Result Verdict RunFault) : Type 0 where
  -- the verdict, which is right, and the report of what differs
  pub report : WritesOut (IsReported shown) (IsReportBegun shown) Write config trace output result
  -- no line is shown of a trace that is the machine's
  pub same : IsKnown config.old.left → IsKnown trace.old.left → IsKnown output.old.written
      → IfOk result (λ verdict. verdict ≡ Yes → bytes_of output.new.written ≡ bytes_of output.old.written ++ head_text shown Yes)
