pub mod Sets  -- What numbers are among others.
pub mod Runs  -- Orders and runs.
pub mod Verdicts  -- What an answer of the search says of the orders.
pub mod Keys  -- Keys of places of one who takes lines: each is the key of one place, which has no other.
pub mod Held  -- Steps of one who takes lines.
pub mod Crowds  -- The lines that are open, from one line to the next.
pub mod Filled  -- How many places there are where a search used up all room.
pub mod Reached  -- What a search for the lines before a goal says.
mod Steps  -- The lines that steps take, from one step to the next.
