pub mod World  -- The state of the machine, over any way Q to keep what came before what.
pub mod Objects  -- Look-ups of the objects, and what of them a task may wait for.
pub mod Ordering  -- Ways to keep what came before what, and the words by which tasks change.
pub mod Tasks  -- How a task begins, becomes ready, moves, and ends.
pub mod Arrivals  -- The model keeps numbers
pub mod Arguments  -- What the arguments of calls name.
pub mod Effects  -- What a call does besides changing the state.
pub mod Rows  -- What is written of each call: where it may come from, its errors in order, and what it does.
pub mod Processors  -- Locks and flags of a processor.
pub mod TaskCalls  -- The calls on tasks.
pub mod SyncCalls  -- The calls on semaphores and eventflags.
pub mod BufferCalls  -- The calls on data queues and pools.
pub mod TimeCalls  -- The calls on cyclic handlers and alarms.
pub mod SystemCalls  -- The calls on the processors and on the state of dispatching.
pub mod SpinCalls  -- The calls on spin locks, and the return of a handler.
pub mod Tick  -- A tick: the counts fall, and what reaches 0 is served.
pub mod Step  -- One step of the machine, and runs.
pub mod Boot  -- The state at boot.
pub mod Telling  -- How a record tells an effect, and the parts of which the code makes one.
pub mod Outcomes  -- How the code of a call answers: with an effect, or with the code that refuses the call.
pub mod Due  -- The least ticks left for which a tick on a processor counts.
pub mod TaskStates  -- What the state of a task is called.
