pub mod Sights  -- What a question sees of an event.
pub mod Matching  -- When a pattern stands in a line.
pub mod Items  -- When an item of a moment, or a part of it, is in the lines of an event.
pub mod Questions  -- Questions, and when their moments are there.
pub mod Lasting  -- What a question may ask of every event from one on.
pub mod Lines  -- What is looked for in the line of an event.
pub mod Words  -- The words that patterns may have.
pub mod Spots  -- Where in a line a word stands, and which words may stand one after the other.
pub mod Forms  -- Where in a line a word may stand, by the forms of lines.
