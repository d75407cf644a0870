pub mod Lists  -- Lists of items, which are numbers, and their changes.
pub mod Tasks  -- Lists of tasks. As an item a task is its place among all tasks, from 0.
pub mod Rings  -- Lists as rings of links
pub mod Digests  -- The number that is made of others, in their order, and of values.
