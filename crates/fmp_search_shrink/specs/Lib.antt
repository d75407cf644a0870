pub mod Seen  -- How many steps of a question may have been seen.
pub mod Runners  -- Who makes which call in the answers to events, and whether each runner makes its calls in an order that was given.
pub mod Shrinking  -- Lists of events that show what a question asks, and what is left where no event can go.
