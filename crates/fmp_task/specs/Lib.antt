pub mod States  -- The records of the tasks as a map, and the states of a task.
