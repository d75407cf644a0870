pub mod Figures  -- Numbers of what a state has, and when one is beyond a bound.
pub mod Most  -- How far a figure goes in all orders, and what is known of it.
pub mod Table  -- The table of the figures.
pub mod Runs  -- What the run writes.
pub mod Gauged  -- Which of figures is beyond its bound in a state, and places of all orders with it.
pub mod Raised  -- Bounds that were moved to what has a mark.
