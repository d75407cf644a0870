pub mod Options  -- The words of a command line that say which form fault lines have.
