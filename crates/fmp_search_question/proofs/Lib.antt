mod EachWord  -- One word after the other, whatever is kept of the words so far.
mod Filled  -- The words of a text, and the text of the pieces of a pattern.
mod Waiting  -- That tasks wait, one task after the other.
pub mod Short  -- A question that was read has no more steps than there may be.
