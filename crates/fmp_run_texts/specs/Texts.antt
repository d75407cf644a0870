-- believed: see docs/PROOF.md, "What has to be believed"
-- What the texts of a run say, and which of their faults a run tells.
use Rattle.std.specs.Prelude.{◌≡◌, ◌⊎◌, ℕ, ◌+◌, ◌≤◌, List, length, Result, Err, if◌then◌else◌}
use Rattle.fmp_codes.specs.declared.records.Event.{Event}
use Rattle.fmp_codes.specs.declared.records.Record.{Record}
use Rattle.fmp_text.specs.Events.{IsMemory}
use Rattle.fmp_text.specs.TextGrammar.{SpellsText}
use Rattle.fmp_text.specs.declared.fault.TextFault.{TextFault}
use Rattle.fmp_text_scripts.specs.Texts.{scripts_in}
use Rattle.fmp_config.specs.Limits.{most_bytes}
use Rattle.fmp_config.specs.Faults.{IsFirstFault}
use Rattle.fmp_law_config.specs.Grammar.{Configures}
use Rattle.fmp_names.specs.Names.{NameLists}
use Rattle.fmp_setup.specs.Setup.{Setup}
use Rattle.fmp_rules.specs.Boot.{booted}
use Rattle.fmp_law_safety.specs.Runs.{IsSafeThroughout}
use Rattle.fmp_law_lists.specs.Headline.{HeadlineThroughout}
use Rattle.fmp_trace.specs.Lines.{lines_from}
use Rattle.fmp_run_texts.specs.declared.fault.RunFault.{RunFault}
use Rattle.fmp_run_texts.specs.declared.fault.RunFault.TheVariants as run
use Rattle.fmp_run_texts.specs.Faults.{failed_read}

-- a text of a configuration, within the limit
pub record SaysConfig (text : List ℕ) (config : Setup) : Type 0 where
  pub configures : Configures text config
  pub short : length text ≤ most_bytes

-- The output is the trace of records of the one text's machine over the other's events. Every prefix of these leads to a safe state, and
-- the headline holds there: that each record is the machine's is a part of it.
pub record Answered (config_text event_text output : List ℕ) : Type 0 where
  pub config : Setup
  pub events : List Event
  pub records : List Record
  pub says : SaysConfig config_text config
  pub lists : SpellsText config.names event_text events
  pub prints : output ≡ lines_from config.names 1 records
  pub safe : IsSafeThroughout (booted config) events
  pub headline : HeadlineThroughout config events records

-- a fault of the configuration is the first one of its text, or want of memory
abbrev pub FirstConfigFault : List ℕ → RunFault → Type 0
FirstConfigFault text (run.Config fault) = IsFirstFault text fault
FirstConfigFault text other = Unit {0}

-- a fault of scripts is the first one of their text, or want of memory
abbrev pub IsFirstOfScripts : NameLists → List ℕ → TextFault → Type 0
IsFirstOfScripts names text fault = (scripts_in names text ≡ Err fault) ⊎ IsMemory fault

-- a fault of a text that is read over a configuration is as `IsFault` says, over a right configuration
abbrev pub FaultOver : (Setup → List ℕ → TextFault → Type 0) → List ℕ → List ℕ → RunFault → Type 0
FaultOver IsFault config_text text (run.Text fault) = (config : Setup) × SaysConfig config_text config × IsFault config text fault
FaultOver IsFault config_text text other = Unit {0}

-- one of scripts is the first one
abbrev pub FirstScriptFault : List ℕ → List ℕ → RunFault → Type 0
FirstScriptFault = FaultOver (λ c. IsFirstOfScripts c.names)

-- of two readers one read failed where the run ended so, and else none
pub record CountsReads {T : Type 0} (result : Result T RunFault) (first_old first_new second_old second_new : ℕ) : Type 0 where
  pub sum : first_new + second_new ≡ first_old + second_old + (if failed_read result then 1 else 0)
  pub first : first_old ≤ first_new
  pub second : second_old ≤ second_new

-- Where a run ended with a failed write or flush: no read failed, or one did, and after it only the flush, so that this is so.
abbrev pub FlushFails : ℕ → ℕ → Type 0 → Type 0
FlushFails old new Whole = (new ≡ old) ⊎ ((new ≡ old + 1) × Whole)
