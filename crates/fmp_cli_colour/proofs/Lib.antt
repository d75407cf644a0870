pub mod Pieces  -- What is written in two pieces.
pub mod Words  -- One word of a line after the other.
mod Lines  -- The first line of a text.
