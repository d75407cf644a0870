pub mod Orders  -- Orders of lines within bounds.
pub mod Places  -- The places of one who takes lines one after the other, and what they say of the orders.
pub mod Lasts  -- The last lines of a text, and which lines have to be taken.
pub mod Held  -- A place of one who takes lines, with the lines.
pub mod Keys  -- Keys of places of one who takes lines.
pub mod Crowds  -- Lines at which too many are open.
pub mod Goals  -- What a search for the lines before a goal says.
pub mod Answers  -- What is known of the orders of lines.
