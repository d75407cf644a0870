pub mod Prefixes  -- A list of events past its limit is judged the same from any prefix that is past it too.
pub mod Left  -- What is left of a list that was read is such as a list of events may have.
