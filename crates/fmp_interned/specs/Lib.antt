pub mod Tables  -- A table of numbers, in which each is looked for from the slot that its hash names.
pub mod Values  -- Values, no two of which are the same.
pub mod Kept  -- A list of values and a table of their numbers.
pub mod Hashes  -- A number made of others, in their order.
pub mod Trees  -- Lists of numbers, each kept as a tree of pairs: of the key of the first half and of that of the rest.
pub mod Keys  -- Numbers by which things are known.
pub mod Parts  -- Lists of values, each kept as the list of the numbers of its values.
