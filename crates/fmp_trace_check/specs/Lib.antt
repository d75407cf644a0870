pub mod Walking  -- Going over the lines of a trace as long as they are the machine's own.
pub mod Checking  -- What is answered of a text that prints records: whether they are the machine's own answers.
pub mod Differences  -- Where a trace differs from the machine's own answers to its events, and how that is shown.
pub mod Comparing  -- Showing where a trace differs from the machine's own lines, as the code does.
pub mod Watching  -- What a watcher is that saw the events of a trace.
