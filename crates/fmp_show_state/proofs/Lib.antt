pub mod Alike  -- The text of a state with lists is that of each state with numbers for which it stands.
mod Lines  -- One line more of those that go by numbers, and one value more.
pub mod More  -- One processor, one priority or one task more.
pub mod Waiting  -- The lines of the tasks that wait: one task more, and that there is none just where no task waits.
