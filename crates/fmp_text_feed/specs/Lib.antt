pub mod Feed  -- Feeds: an event text that comes in pieces, and what is ahead of it.
pub mod Cuts  -- The calls that are made on a feed, one after the other, and the text and the events that they make up.
