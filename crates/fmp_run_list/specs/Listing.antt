pub mod Classes  -- The lines of the classes, and the class of an object in its line.
pub mod Functions  -- The lines of the functions, and the name of a function in other lines.
pub mod Fields  -- What stands after the number and the name of an object.
pub mod Listing  -- The listing of a configuration.
