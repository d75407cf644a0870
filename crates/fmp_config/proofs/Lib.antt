pub mod Steps  -- What a step of reading that succeeds came from.
pub mod Ranges  -- The numbers of a statement are in their ranges, and an object's fields can hold its numbers.
pub mod Places  -- Where a statement stands that may stand there.
pub mod Whole  -- A statement of which all parts were read has the names that it has to have.
pub mod Words  -- Which bytes are a text.
pub mod Table  -- The defined names in their table.
pub mod Defined  -- What was read stays sound where a name is defined.
pub mod Created  -- What was read stays sound where an object is created.
pub mod Turned  -- Reading token after token, as a loop does.
pub mod Prefixes  -- The first fault of a text that is too long is that of its prefix, so no more of it need be read.
pub mod Judged  -- What was read stays sound where a whole statement is taken in.
pub mod Taken  -- What a token that is read was.
pub mod Started  -- Before the first statement all is sound.
pub mod Reached  -- What was read stays sound as tokens are taken in, and is a valid configuration in the end.
