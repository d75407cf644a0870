pub mod Filled  -- The room of a buffer of lines.
pub mod Around  -- What stands before the event of a line, and after it.
