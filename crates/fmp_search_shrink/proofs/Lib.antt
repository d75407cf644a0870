pub mod Seeing  -- How many steps may have been seen after one event more.
pub mod Answering  -- What is seen in the answers to a list of events.
pub mod Watching  -- What is known of a machine that answered events.
pub mod Lasting  -- What was shown once stays shown.
pub mod Parts  -- Parts of lists, in their order.
pub mod Making  -- The calls of a runner in a list, one item after the other.
pub mod After  -- One event more.
pub mod Without  -- Lists without some of their events in a row.
pub mod Kept  -- What has to be kept, as it is kept in mind.
