pub mod Assignments  -- What is assigned to processors, and the ticks that each has left.
pub mod Counting  -- The timers count on the processors to which things are assigned.
pub mod Starting  -- The handlers at boot.
pub mod Telling  -- The timers of what is shown: nothing else is kept of them.
