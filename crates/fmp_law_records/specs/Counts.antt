pub mod Naming  -- Which task an argument names.
pub mod Lives  -- What records say of the activations of a task.
pub mod Wakeups  -- What records say of the wakeups that are queued for a task.
pub mod Waits  -- When the time of a task's wait is over.
pub mod Alarms  -- What is left of the time of an alarm, told along a run by its records.
pub mod Cyclics  -- What is left of the time of a cyclic handler, told along a run by its records.
pub mod Due  -- Which handlers become due at a tick.
