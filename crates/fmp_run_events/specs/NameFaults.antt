-- The faults of a run that is asked for some things by their names.
use Rattle.std.specs.Prelude.{◌≡◌, ℕ, Bool, true, List, Result, Ok, Err}
use Rattle.fmp_names.specs.Names.{NameLists}
use Rattle.fmp_setup.specs.Setup.{Setup}
use Rattle.fmp_show_changes.specs.Life.Things.{chosen_in}
use Rattle.fmp_run_texts.specs.declared.fault.RunFault.{RunFault}
use Rattle.fmp_run_texts.specs.declared.fault.RunFault.TheVariants.{Memory}
use Rattle.fmp_run_texts.specs.Faults.{is_config}
use Rattle.fmp_run_texts.specs.Texts.{SaysConfig}
use Rattle.fmp_run_events.specs.declared.lives.LifeFault.{LifeFault}
use Rattle.fmp_run_events.specs.declared.lives.LifeFault.TheVariants.{Run, Name}
use Rattle.fmp_run_stream.specs.Runs.{IsNoFaultOfText}

-- how a run ended, but for its names: what devices and memory did, and the two texts
abbrev pub as_run : {T : Type 0} → Result T LifeFault → Result (Unit {0}) RunFault
as_run (Ok value) = Ok tt
as_run (Err (Run fault)) = Err fault
as_run (Err (Name i)) = Ok tt

-- a fault of the names is the first one, for those of a right configuration
abbrev pub IsNameFault : List ℕ → List ℕ → LifeFault → Type 0
IsNameFault config_text names (Run fault) = Unit {0}
IsNameFault config_text names (Name i) = (config : Setup) × SaysConfig config_text config × (chosen_in config.names names ≡ Err i)

-- the things were not chosen: this name is the first one that names nothing, or memory ran out
abbrev pub IsUnchosen : NameLists → List ℕ → LifeFault → Type 0
IsUnchosen lists names (Run fault) = fault ≡ Memory
IsUnchosen lists names (Name i) = chosen_in lists names ≡ Err i

-- neither text nor the names have this fault: memory ran out, or a device failed
abbrev pub IsNoFault : LifeFault → Type 0
IsNoFault (Run fault) = IsNoFaultOfText fault
IsNoFault (Name i) = ⊥

-- a fault before any event is read
abbrev pub is_early : LifeFault → Bool
is_early (Run fault) = is_config fault
is_early (Name i) = true
