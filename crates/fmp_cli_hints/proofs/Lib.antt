pub mod Lines  -- Going from line to line, as a loop does.
pub mod Ends  -- What is read of a line leaves an end of it, and there is a place at fault exactly where the line is refused.
pub mod Words  -- The parts of a text before and after a byte, and their lengths.
pub mod Named  -- The names of a kind, one after the other, as a loop reads them.
pub mod Taken  -- A guess is taken where it prints the line.
