pub mod Prefixes  -- A text past its limit is judged the same from any prefix that is past it too.
pub mod Grammars  -- A configuration that is read of a text is one that the text says, and it says no other.
pub mod Yes  -- The trace that answers some events is checked with yes.
pub mod JudgedTexts  -- The verdict on a trace that was read up to its limit is the verdict on its text.
pub mod Owed  -- What a run owes to both texts, by how far it came.
pub mod RightConfig  -- A text that says a configuration has no fault.
