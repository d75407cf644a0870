-- What is known of a trace that was read and judged.
use Rattle.std.specs.Prelude.{◌≡◌, ◌⊎◌, ℕ, false, List, [], Option, Result, Ok, Err, OnOk, IfErr}
use Rattle.fmp_codes.specs.declared.records.Event.{Event}
use Rattle.fmp_text.specs.Events.{IsMemory}
use Rattle.fmp_text.specs.declared.fault.TextFault.{TextFault}
use Rattle.fmp_names.specs.Names.{NameLists}
use Rattle.fmp_config_statements.specs.declared.fault.ConfigKind.TheVariants as config_kind
use Rattle.fmp_setup.specs.Setup.{Setup}
use Rattle.fmp_trace_check.specs.declared.checking.Verdict.{Verdict}
use Rattle.fmp_trace_check.specs.declared.checking.Verdict.TheVariants.{Yes}
use Rattle.fmp_trace_check.specs.Checking.{Judges, PrintsAnswers}
use Rattle.fmp_run_devices.specs.Devices.{IsKnown, bytes_of}
use Rattle.fmp_trace.specs.Prints.{FirstFault}
use Rattle.fmp_run_texts.specs.declared.fault.RunFault.{RunFault}
use Rattle.fmp_run_texts.specs.declared.fault.RunFault.TheVariants as run
use Rattle.fmp_run_texts.specs.Faults.{is_thread_fault}
use Rattle.fmp_run_texts.specs.Texts.{Answered, FaultOver, FirstConfigFault, SaysConfig}

-- the verdict on a trace, by the answers of the one text's machine to the events of the other
pub record Checked (config_text trace_text : List ℕ) (verdict : Verdict) : Type 0 where
  pub config : Setup
  pub says : SaysConfig config_text config
  pub judges : Judges config trace_text verdict

-- the trace is one of the machine's own, within the limits: the one text's machine answers to some events so
pub record IsOwn (config_text trace_text : List ℕ) : Type 0 where
  pub config : Setup
  pub events : List Event
  pub says : SaysConfig config_text config
  pub prints : PrintsAnswers config trace_text events

-- yes, or a fault that neither text has: a read or a write that failed, or want of memory
abbrev pub IsYes : Result Verdict RunFault → Type 0
IsYes (Ok verdict) = verdict ≡ Yes
IsYes (Err (run.Config fault)) = fault.kind ≡ config_kind.Memory
IsYes (Err (run.Text fault)) = IsMemory fault
IsYes (Err other) = Unit {0}

-- the verdict in what was found of a trace, or the fault in its place
abbrev pub verdict_by : {T : Type 0} → (T → Verdict) → Result T RunFault → Result Verdict RunFault
verdict_by verdict (Ok found) = Ok (verdict found)
verdict_by verdict (Err fault) = Err fault

-- the text is what the machine answers to some events, within the limits
abbrev pub IsOfMachine : Setup → List ℕ → Type 0
IsOfMachine c text = (events : List Event) × PrintsAnswers c text events

-- all of this text was read, and the verdict on it is right
pub record IsJudged (c : Setup) (all text : List ℕ) (verdict : Verdict) : Type 0 where
  pub whole : text ≡ all
  pub judges : Judges c all verdict

-- a fault of the trace is the first one of its text, or want of memory
abbrev pub IsFirstOfTrace : NameLists → List ℕ → TextFault → Type 0
IsFirstOfTrace names text fault = FirstFault names text fault ⊎ IsMemory fault

-- the same, for the names of a right configuration
abbrev pub FirstTraceFault : List ℕ → List ℕ → RunFault → Type 0
FirstTraceFault = FaultOver (λ c. IsFirstOfTrace c.names)

-- What a run over a configuration and a trace owes to both texts, whatever it writes. Of each text it speaks by what its device had left to
-- read before and after, where that is known. When a fault of the trace is its first one is the run's own matter.
pub record JudgesTexts (IsFirst : List ℕ → List ℕ → RunFault → Type 0) (config_old config_new trace_old trace_new : Option (List ℕ))
    (result : Result Verdict RunFault) : Type 0 where
  -- where there is a verdict, the configuration was read to its end
  pub config_read : IsKnown config_old → OnOk result (bytes_of config_new ≡ [])
  -- and so was the trace
  pub trace_read : IsKnown trace_old → OnOk result (bytes_of trace_new ≡ [])
  -- a trace that answers some events, as `run_calls` writes it, is judged with yes
  pub answers : IsKnown config_old → IsKnown trace_old → (event_text : List ℕ) → Answered (bytes_of config_old) event_text (bytes_of trace_old) → IsYes result
  -- so is any that is the machine's own, as those of processors that follow scripts
  pub own : IsKnown config_old → IsKnown trace_old → IsOwn (bytes_of config_old) (bytes_of trace_old) → IsYes result
  -- a fault of the configuration is its first one
  pub config_fault : IsKnown config_old → IfErr result (FirstConfigFault (bytes_of config_old))
  -- and one of the trace is its first one, over a configuration that has none
  pub text_fault : IsKnown config_old → IsKnown trace_old → IfErr result (IsFirst (bytes_of config_old) (bytes_of trace_old))
  -- no thread was started, so that none could fail
  pub no_thread_fault : IfErr result (λ fault. is_thread_fault fault ≡ false)
