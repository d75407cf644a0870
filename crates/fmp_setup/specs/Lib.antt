pub mod Setup  -- What a configuration says: lists in the order of the numbers, which begin at 1.
pub mod Valid  -- When a configuration is valid.
pub mod Parts  -- The configuration that its parts hold.
pub mod Building  -- A configuration grows by classes, objects and defined names.
