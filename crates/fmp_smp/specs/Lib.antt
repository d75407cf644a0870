pub mod Rounds  -- The order in which a clock gives its ticks: round by round one taken tick to each processor whose ticks count.
pub mod Seeds  -- The order that a seed gives.
