pub mod Faults  -- The faults of a run.
pub mod Owed  -- What a run owes to its texts and to its devices, whatever it writes.
pub mod Readings  -- What a run is given that reads a text to its end, and one that reads a configuration and a text over it.
pub mod Statuses  -- What the program ends with.
pub mod Texts  -- What the texts of a run say, and which of their faults a run tells.
pub mod Traces  -- What is known of a trace that was read and judged.
pub mod Verdicts  -- A verdict as it is written, and what a run writes that writes a verdict alone.
