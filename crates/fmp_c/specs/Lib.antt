pub mod Machines  -- What is done with the machine of a handle.
pub mod Owned  -- What a handle owns.
pub mod Report  -- What C is told of an event, as plain numbers.
