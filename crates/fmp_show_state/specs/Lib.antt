pub mod Changes  -- What of tasks, objects and time event handlers is not as it was at boot.
pub mod States  -- The text of a state
pub mod Waits  -- The lines of the tasks that wait.
