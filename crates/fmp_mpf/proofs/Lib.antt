pub mod Bits  -- The marks as a list against the bits of the word.
pub mod Serving  -- A change of a memory pool leaves nobody waiting for what is to be had.
