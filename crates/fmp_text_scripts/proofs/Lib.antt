pub mod Found  -- The script of a function, where scripts are looked up.
pub mod Read  -- Reading a text line by line.
pub mod Kept  -- What reading keeps: of each step what holds of every call that is read, and the limits.
pub mod Same  -- Calls of one name with the same arguments are equal.
pub mod Linked  -- The ways of jumps, jump by jump.
pub mod Placed  -- Reading a line up to the first byte that does not fit says what reading it says, or has its fault.
pub mod Ends  -- The first byte that does not fit is one of the line, or its end: what is left there is an end of the line.
pub mod PlaceFaults  -- The fault at the place of a line that is refused is the reader's.
pub mod SpelledLines  -- A line of a script text is read exactly where it is spelled.
pub mod SpelledScripts  -- A script text is read exactly where it is spelled.
pub mod FirstFaults  -- A fault of a script text stands in its line: the lines before it are read without one, and nothing after it is.
pub mod ScriptFaults  -- A line of a script text is read with a fault exactly where the table of faults has it.
pub mod Straight  -- Scripts without ways.
