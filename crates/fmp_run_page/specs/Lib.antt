pub mod Escapes  -- Bytes as HTML has them: none of them begins a tag or an entity of its own.
pub mod Parts  -- The parts of a page: what it begins and ends with, and the texts that stand in it.
