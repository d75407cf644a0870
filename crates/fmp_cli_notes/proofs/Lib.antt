mod Below
mod Known  -- What is told of patterns, one after the other, and of the steps before them.
