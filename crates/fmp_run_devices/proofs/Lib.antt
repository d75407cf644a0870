mod Pieces  -- A text that is cut where a read began and where it ended.
mod Bare  -- What a history is when the program runs.
pub mod Known  -- What a read and a write do to bytes that are known.
pub mod Begun  -- What was begun of two pieces was begun of both together.
pub mod Handed  -- What was handed over is the beginning of what was to come.
