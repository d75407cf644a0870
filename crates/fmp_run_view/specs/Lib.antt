pub mod Moments  -- What a page shows: the state between two events, and the ticks so far.
pub mod Signals  -- What is told of a processor, a task or an object.
pub mod Ticks  -- When waits are over and handlers are due, by counts of ticks.
pub mod Values  -- The texts of the values.
pub mod Leaving  -- Which values an event may change, by its record.
pub mod Changes  -- The lines of the values that an event changed.
pub mod Tables  -- Changes that are put in their places, one after the other, and what stands there then.
pub mod Setups  -- What a page has to know of the configuration, a line each.
pub mod Given  -- The lines that were given where a trace differs from the machine's own.
pub mod Pages  -- The page of what a machine does at events.
pub mod Runs  -- What a run that shows a trace does.
pub mod Kept  -- What is kept of a player of events.
