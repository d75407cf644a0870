-- What a run over a configuration and events writes, told by records alone: no machine is asked.
use Rattle.std.specs.Prelude.{◌≡◌, ℕ, List, ◌++◌}
use Rattle.fmp_codes.specs.declared.records.Event.{Event}
use Rattle.fmp_codes.specs.declared.records.Record.{Record}
use Rattle.fmp_setup.specs.Setup.{Setup}
use Rattle.fmp_text.specs.TextGrammar.{SpellsText}
use Rattle.fmp_trace.specs.Lines.{lines_from}
use Rattle.fmp_law_records.specs.Effects.Records.{IsReportedRun}
use Rattle.fmp_run_texts.specs.Texts.{SaysConfig}

-- The output is the trace of records of the one text's events, over the configuration that the other says, of which each is as those
-- before it tell.
pub record Told (config_text event_text output : List ℕ) : Type 0 where
  pub config : Setup
  pub events : List Event
  pub records : List Record
  pub says : SaysConfig config_text config
  pub lists : SpellsText config.names event_text events
  pub run : IsReportedRun config events records
  pub prints : output ≡ lines_from config.names 1 records

-- that was written after old, all of it
abbrev pub IsTold : List ℕ → List ℕ → List ℕ → List ℕ → Type 0
IsTold config_text event_text old new = (output : List ℕ) × Told config_text event_text output × (new ≡ old ++ output)
