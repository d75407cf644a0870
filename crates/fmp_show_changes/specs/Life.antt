pub mod Things  -- Tasks, time event handlers and objects, and their names.
pub mod Lines  -- What is told of a task, a time event handler or an object.
pub mod Lives  -- What of some things changed.
pub mod Watches  -- What was told of a thing that is watched.
pub mod Choosing  -- Which things a list of names chooses.
