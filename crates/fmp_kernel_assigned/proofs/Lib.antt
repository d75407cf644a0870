pub mod Lefts  -- The ticks left of the items from a place on, after a change of the timers.
pub mod Standing  -- Items stay on the processors to which these are assigned.
pub mod Changes  -- What each change of the timers shows.
pub mod Falling  -- The ticks left fall.
pub mod Among  -- Those whose time is over, among so many.
pub mod Boot  -- What counts at boot.
pub mod Least  -- The least ticks left.
pub mod Untimed  -- Whether anything has ticks left.
pub mod Telling  -- What is shown tells the timers.
