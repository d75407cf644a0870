pub mod Facts  -- What is so of a state.
pub mod Things  -- The word of a thing.
