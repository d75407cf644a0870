pub mod Ended  -- How each run ends the program.
pub mod Asked  -- How many questions about all orders end the program.
pub mod Searched  -- How each search does.
pub mod Performed  -- What is done of a command line, and how that ends the program.
pub mod Made  -- What a run of processors gives over texts that were read.
