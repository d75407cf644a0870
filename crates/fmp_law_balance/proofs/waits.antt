pub mod Named  -- Tasks and objects by the arguments that name them, and the open wait of a task by how it waits.
pub mod Words  -- What the words by which calls change tasks do to the waits.
pub mod Follows  -- What a record tells of an event follows from what the event did.
pub mod Several  -- Several releases in one event: of the waiters of an eventflag, and of those whose time is over.
pub mod TaskCalls  -- What the calls on tasks do to the waits, and what is told of it.
pub mod SyncCalls  -- What the calls on semaphores and eventflags do to the waits, and what is told of it.
pub mod BufferCalls  -- What the calls on data queues and pools do to the waits, and what is told of it.
pub mod OtherCalls  -- The calls on time event handlers, on the processors and on spin locks leave the waits alone.
pub mod Events  -- The record of a step tells its event; and a law of one step, from the calls and the ticks.
pub mod Ticks  -- A tick ends the waits of which it takes the last tick.
pub mod Woken  -- An accepted call that wakes up a task that sleeps, or breaks off a wait, releases it.
pub mod Steps  -- What the record of a step tells follows from the step, and so along a run.
pub mod Booted  -- At boot nobody waits. So the records of every run tell the waits, and each release fits.
pub mod Fewer  -- All releases together are no more than the events: each ends a wait that an event of its own began.
pub mod Refused  -- Records that no run has, which the laws refuse.
pub mod Worked  -- Records that the laws accept: of releases by a signal, by force and by a tick.
