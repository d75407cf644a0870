pub mod NameFaults  -- The faults of a run that is asked for some things by their names.
pub mod Before  -- The state of the machine before a line of a trace.
pub mod Reports  -- What a run that reports where a trace differs does.
pub mod Owed  -- What a run over a configuration and events owes to its texts and devices, and what it writes.
pub mod Lives  -- What a run owes that is asked for some things by their names, and what it writes.
