pub mod Changes  -- What of a state changed, by the lines of two states.
pub mod Life  -- What is told of some tasks, handlers and objects, a line each, and which of it changed.
