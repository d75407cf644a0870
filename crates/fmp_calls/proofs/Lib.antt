pub mod Arguments  -- Values of the right kinds are what is read of them as arguments.
pub mod Found  -- What is found in a list.
pub mod Matched  -- The table of the calls: calls, their names and their arguments give each other back.
pub mod Known  -- What holds of all calls of a list holds of each.
