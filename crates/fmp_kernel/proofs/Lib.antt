pub mod Histories  -- One event more of a history.
pub mod Report  -- What an event leads to on lists, where it is known of the states with numbers for which they stand.
pub mod Kept  -- What the kernel keeps, and what it tells, over one step.
