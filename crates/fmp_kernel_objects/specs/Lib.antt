pub mod Kinds  -- What stands where there is no object of a kind, and the blocks of a pool.
pub mod Objects  -- All objects for which tasks wait, with their wait queues.
pub mod Rows  -- All objects of a kind out of their columns.
pub mod Fitting  -- When objects have the memory to become as others are.
