pub mod Runs  -- What a history keeps, with one event more.
pub mod Played  -- Moves, and the records that they make again.
pub mod Receipts  -- The receipts of a history that is one record longer.
pub mod Found  -- What the judge finds, with one record more, and what it says of the seats.
pub mod Opening  -- The seats of a new world.
pub mod Bits  -- The events of a scripted history are within the bits of their kinds, where the scripts are.
pub mod Judging  -- Steps of the judge's loops, and what its answers say.
pub mod Finished  -- What is known of a run that the judge let pass.
