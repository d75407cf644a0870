pub mod Ahead  -- What a line that is taken off a feed says of what is ahead of it.
pub mod Cut  -- It does not matter how a text is cut into pieces, nor when the feed is asked in between.
pub mod Fitting  -- What holds of the event of every line holds of every event that a scan finds.
pub mod Searched  -- A search for a line feed that begins after bytes that hold none.
pub mod Short  -- A feed of short lines holds few bytes where it wants a further piece.
pub mod Report  -- No fault that the bytes of a text have is want of memory.
pub mod Quick  -- The first line, taken off a feed where it is an event.
