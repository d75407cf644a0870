pub mod Bytes  -- What one byte does to the reader of tokens.
pub mod Passing  -- What is spelled is read: comments, strings and words, whose bytes the reader passes one by one.
pub mod TokensRead  -- The tokens that are spelled are read.
pub mod Left  -- What a text is made of, that is left after what was read: in gaps, words, strings and comments.
pub mod Gaps  -- What is read from a gap on is spelled.
pub mod TokensSpelled  -- The tokens that are read are spelled.
pub mod Cuts  -- A text can be cut before each of its tokens.
pub mod Results  -- The parts of what was read.
pub mod Numerals  -- Numbers: what is read is spelled, and what is spelled is read.
pub mod Attributed  -- Attributes: what is read is spelled, and what is spelled is read.
pub mod Members  -- The members of a class, one after the other or all at once.
pub mod Classes  -- Classes: what is read is spelled, and what is spelled is read.
pub mod Stages  -- What was read, without lines, and what holds of it.
pub mod Judged  -- Definitions and objects: what they say is judged so, and what is judged they say.
pub mod Statements  -- All statements: what they say is judged so, and what is judged they say.
pub mod Kept  -- How many processors and priorities there are, and which names stand for numbers, as a configuration grows.
pub mod Bounded  -- No configuration has more processors or priorities than there may be, and only names stand for numbers.
pub mod Placing  -- A statement that may stand has no fault of its place, and the other way round.
pub mod Glyphs  -- Tokens as they are spelled, and tests of single tokens.
pub mod Nested  -- Free fields: what the reader takes is balanced, and what is balanced it takes.
pub mod Scans  -- What has still to follow in a statement, and that what the reader takes goes on with it.
pub mod Forms  -- A statement whose tokens are spelled is read to its end.
pub mod Taken  -- A token of a statement whose tokens are spelled is read, and the last one completes it.
pub mod Unsigned  -- No word of a statement is a `-` and more.
pub mod Nesting  -- The tokens of a text: those between the beginning and the end of a directive, and the others.
pub mod Directives  -- Directives: what is read of their words is what they say.
pub mod Steps  -- What a token outside directives does.
pub mod Wholes  -- A whole directive: what its tokens do together.
pub mod Entries  -- The elements of a text with their lines, and that those that are read are spelled.
pub mod Given  -- The elements that are spelled are read.
pub mod Said  -- The clauses of the elements that are read.
pub mod Followed  -- The elements of clauses are read as what the clauses say.
pub mod Configured  -- A text that says a configuration is read as that configuration, and a text says what is read of it.
pub mod FirstFaults  -- A fault of a configuration text is found at its token: those before it are read without one, and nothing after it is read.
