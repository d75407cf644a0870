pub mod Endings  -- The last line of a text that says at which line of its log the text ends before that.
pub mod Following  -- What is found of what the lines of a partial trace say, one line after the other as they stand.
pub mod Written  -- The verdict on a partial trace, and how it is written.
pub mod Filling  -- What a line of a partial trace leaves out, put in from what the machine answers.
pub mod Differing  -- The lines of a partial trace that are not the machine's, as a unified diff.
pub mod Playing  -- The machine plays lines again, as they stand or in an order.
pub mod Showing  -- What is shown of a partial trace beside its verdict.
pub mod Telling  -- A line that is told of a text, and what the machine plays before it.
pub mod Verdicts  -- What is answered of a partial trace: whether its lines are what the machine answers to their events.
pub mod Partials  -- What a run that judges a partial trace reads and writes.
