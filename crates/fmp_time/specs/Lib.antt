pub mod Differences  -- Difference lists
pub mod Left  -- Where an item counts and how many ticks it has left, in lists of entries: one for each processor.
pub mod Times  -- What the timers show, and how it changes
pub mod Shown  -- What the lists of entries and the list of waits show.
pub mod Words  -- Numbers that tell what the timers show: three for each item that counts.
