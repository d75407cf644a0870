pub mod Queue  -- A wait queue: its order, and its waiters with their ranks.
pub mod Kept  -- What a wait queue keeps of itself: the tasks, and the rank of each at its place.
