pub mod Views  -- What contracts see of a world and of a seat.
pub mod Turns  -- What one turn and one tick do.
pub mod Ends  -- How a run ends, and what its judge asks.
pub mod Moves  -- Who made the records of a history, and that these are made again from it.
pub mod Findings  -- What the judge finds in the records of a history.
pub mod Kept  -- What the types of a history and of a world keep.
