pub mod Listed  -- The values of one argument more.
pub mod Runs  -- One event more, and what a session tells.
