pub mod Constants  -- The words that stand for values in the arguments of calls.
pub mod Names  -- The names of a configuration, as lists in the order of their numbers.
pub mod Pieces  -- Short names as pieces of 16 bytes.
