mod Standing  -- The first place of a piece is as good as any.
pub mod Pieces  -- A test of the pieces of a text, one after the other.
pub mod Unread  -- What is so of an event, where nothing is looked for in its line.
pub mod Running  -- The runs of a word, one after the other.
