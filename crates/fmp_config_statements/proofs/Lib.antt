pub mod Found  -- A statement is found by its word.
pub mod Promised  -- A statement whose tokens are read has its names, or will have them.
pub mod Turns  -- Going over a list one by one, as loops do.
pub mod Stepping  -- Reading a text byte by byte, as a loop does.
pub mod Few  -- A text has no more tokens than bytes, and one that ends a directive with it.
pub mod Passing  -- What a comment passes over leaves what is read as it is.
