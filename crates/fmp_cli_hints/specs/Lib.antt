pub mod Places  -- The first byte at fault of a line, and what is wanted there.
pub mod Scripts  -- The first byte at fault of a line of a script text, and what is wanted there.
pub mod Contexts  -- The line of a fault, and the column in it.
pub mod Texts  -- Where a fault of a line of events, scripts or a trace is.
pub mod Likeness  -- A line without a byte order mark before it.
pub mod Hints  -- The name that is nearest to a word in the place of an argument.
pub mod Things  -- The nearest of all tasks, handlers and objects of a configuration.
pub mod Traces  -- The first byte at fault of a trace's line.
