pub mod Shrink  -- The command line of leaving events out, and what it gives.
