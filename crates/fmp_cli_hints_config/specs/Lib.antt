pub mod Opened  -- A statement that is open at a place of a configuration, and how many parentheses are open in it.
