pub mod DataQueue  -- A data queue as an object: what the configuration says of it, its values, and its two wait queues.
pub mod Operations  -- What an operation does to a data queue, and what it answers.
pub mod Served  -- When nobody waits for what is to be had.
