pub mod Waiting  -- Who waits after a task has left.
