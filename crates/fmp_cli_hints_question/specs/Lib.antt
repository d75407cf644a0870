pub mod Known  -- The name that is nearest to a word of a question.
