pub mod Dispatching  -- The processors with the handlers that are due on them, and when one of them dispatches.
pub mod Window  -- The part of a ring that holds a queue.
