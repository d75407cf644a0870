pub mod Events  -- What holds of a list of events that was read over a configuration, whatever its text.
pub mod Shrunk  -- What is left of a list of events, and what is written of it.
pub mod Faults  -- The faults of a run that leaves events out.
pub mod Written  -- The text of events, which is read back as these events.
