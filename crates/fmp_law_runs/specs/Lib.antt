pub mod Runs  -- Runs by a seed, and the orders that they are among.
