pub mod Traces  -- The trace of one event more, and beginnings of traces.
pub mod Streaming  -- One event more of a run, one piece more of its text, and its end.
pub mod Passing  -- Passing on what is told.
pub mod Report  -- A step tells its own event, whatever keeps the order of the tasks.
