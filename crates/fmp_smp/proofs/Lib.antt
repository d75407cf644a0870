pub mod Moving  -- Turns and ticks as moves, and a history that is one record longer.
pub mod Seating  -- The receipts of the seats after one more record, and that a seat is full only where the history is.
pub mod Going  -- What the turn of a mover that can move gives.
pub mod Shares  -- How many ticks each processor has of those that are given round by round.
pub mod Following  -- What holds between two records of a seeded run.
pub mod Wholes  -- A seeded run that has come to its end is whole.
pub mod Turning  -- The ticks of a history are in turn.
