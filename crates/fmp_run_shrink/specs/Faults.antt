-- The faults of the events of a run that leaves some of them out. Those of its configuration and its question are as in `fmp_run_explore`.
use Rattle.std.specs.Prelude.{ℕ, List}
use Rattle.fmp_names.specs.Names.{NameLists}
use Rattle.fmp_text.specs.Events.{IsFirst, reading_of}
use Rattle.fmp_text.specs.declared.fault.TextFault.{TextFault}
use Rattle.fmp_run_texts.specs.Texts.{FaultOver}
use Rattle.fmp_run_explore.specs.declared.fault.ExploreFault.{ExploreFault}
use Rattle.fmp_run_explore.specs.Faults.{OfRun}

-- a fault of events is the first one of their text, or want of memory
abbrev pub IsFirstOfEvents : NameLists → List ℕ → TextFault → Type 0
IsFirstOfEvents names text = IsFirst (reading_of names text)

-- the same, for the names of a right configuration
abbrev pub IsEventFault : List ℕ → List ℕ → ExploreFault → Type 0
IsEventFault config_text event_text = OfRun (FaultOver (λ c. IsFirstOfEvents c.names) config_text event_text)
