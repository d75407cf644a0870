mod Tables  -- A table in which each number stands before the first free slot from the one that its hash names.
mod Values  -- Values of which one more is kept.
pub mod Numbers  -- The numbers of values, where others are added.
pub mod Trees  -- Lists of numbers that are kept as trees of pairs: each has one key, and is the only one of its length that has it.
pub mod Parts  -- Lists of values that are kept by the numbers of their values: each has one list of numbers, which is that of no other.
