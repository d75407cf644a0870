pub mod Played  -- How a run of processors that follow scripts ends.
