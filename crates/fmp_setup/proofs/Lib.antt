pub mod Classes  -- The classes and their names, in two lists or in one.
pub mod Named  -- Names that are added, and the numbers of functions.
pub mod Growing  -- A configuration stays valid as it grows.
pub mod Objects  -- A configuration stays valid as an object is added.
pub mod Same  -- The comparison of what a configuration says decides equality.
