pub mod Numbers  -- Tasks by their numbers.
pub mod EachProcessor  -- What is told of each of the first processors.
