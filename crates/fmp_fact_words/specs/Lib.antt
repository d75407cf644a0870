pub mod Words  -- The word of a pattern that stands for a fact.
pub mod Reading  -- The fact that a word of a pattern stands for.
pub mod Told  -- Facts whose words are theirs alone.
pub mod Asking  -- What a row of words asks of a state.
pub mod Speaking  -- Which rows of words speak of a state.
