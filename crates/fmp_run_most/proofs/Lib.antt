pub mod Bounds  -- What is beyond a bound, and what is not.
pub mod Passing  -- Which figure is the first that is beyond its bound.
pub mod Running  -- Runs over places with figures and their bounds.
pub mod Moved  -- One bound more is moved, and where no number has a mark.
pub mod Kept  -- What is known of bounds, and is known of those that were moved.
pub mod Ordered  -- What is known of runs is known of orders.
pub mod Same  -- A figure does not look at the order of tasks.
pub mod Few  -- Numbers that are told apart.
pub mod Listed  -- The figures of a configuration.
pub mod Nearest  -- Orders of fewer lines, and then of a few more, until the room for places does not do.
