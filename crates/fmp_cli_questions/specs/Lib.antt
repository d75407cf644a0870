pub mod Rows  -- A text of questions, one a line: a name, what is expected, and the question.
pub mod Answers  -- What is told of answers: a line of each, and all in one XML text.
