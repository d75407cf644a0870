pub mod Forms  -- Calls that have a form from a task and one from a handler.
